-- How a save comes to be refused or accepted.
use Rattle.std.proofs.Common.{◌≡◌, ℕ, false, List, length, ℤ, Err, Result, sym, refl, ap, ◌∙◌, subst}
use Rattle.faults.specs.declared.fault.Fault.{Fault}
use Rattle.faults.specs.declared.cause.Cause.{Cause}
use Rattle.faults.specs.declared.cause.Cause.TheVariants.{CacheRefused}
use Rattle.stored_head.specs.Heads.{HeadData, Long, Stored}
use Rattle.cache.specs.Keys.{Key}
use Rattle.cache.specs.Caches.{CacheSense, Saves, refused_save}
use Rattle.index.specs.Table.{tracks}
use Rattle.evictor.specs.Evicts.{State, over, Follows, SavesBy, EvictingSaves, table_full, refused_below, accepted}

is_refused : (f : Fault) → f.cause ≡ CacheRefused → f.layers ≡ 0 → refused_save ≡ f
is_refused f c l =
    let of : Cause → ℕ → Fault = λ x n. record { cause = x; layers = n } in
    ap (λ x. of x 0) (sym c) ∙ ap (of f.cause) (sym l)

module _ {C H : Type 0} {below : CacheSense C} {drops : C → Key → C → Type 0} {draws : H → ℕ → ℕ → H → Type 0} {times : H → ℤ → H → Type 0} {s : State C H} {k : Key} where
  pub no_room : {call : C → Result (Unit {0}) Fault → C → Type 0} {size : ℕ} (f : Fault) → (f.cause ≡ CacheRefused) × (f.layers ≡ 0)
      → (tracks k s.entries ≡ false) × (length s.entries ≡ 256) → SavesBy below drops draws times call s s k size (Err f)
  no_room {call} {size} f is full =
      subst (λ (x : Fault). SavesBy below drops draws times call s s k size (Err x)) (is_refused f is.0 is.1) (table_full full.0 full.1 refl)

  -- what is known of the call below is known of the save
  pub part_saved : {call : C → Result (Unit {0}) Fault → C → Type 0} {t : State C H} {value : List ℕ} {r : Result (Unit {0}) Fault}
      → ((c : C) (r : Result (Unit {0}) Fault) (d : C) → call c r d → Saves below c k value r d)
      → SavesBy below drops draws times call s t k (length value) r → EvictingSaves below drops draws times s t k value r
  part_saved says (table_full untracked full same) = table_full untracked full same
  part_saved says (refused_below room called same) = refused_below room (says _ _ _ called) same
  part_saved says (accepted room called follows) = accepted room (says _ _ _ called) follows

  -- the same where the value is some stored form of a head
  pub head_saved : {call : C → Result (Unit {0}) Fault → C → Type 0} {t : State C H} {d : HeadData} {n : ℕ} {r : Result (Unit {0}) Fault} → Long d n
      → ((c : C) (r : Result (Unit {0}) Fault) (after : C) → call c r after → (form : List ℕ) × Stored d form × Saves below c k form r after)
      → SavesBy below drops draws times call s t k n r → (form : List ℕ) × Stored d form × EvictingSaves below drops draws times s t k form r
  head_saved long says (table_full untracked full same) = (long.bytes, long.form, table_full untracked full same)
  head_saved long says (refused_below room called same) = let saved = says _ _ _ called in (saved.0, saved.1, refused_below room saved.2 same)
  head_saved {t = t} long says (accepted {c = c} room called follows) =
      let saved = says _ _ _ called in (
        saved.0,
        saved.1,
        accepted room saved.2 (subst (λ n. Follows below drops draws times (over s c) t k n) (sym (long.only saved.0 saved.1)) follows),
      )
