-- The evicting cache is a cache: what its calls do to what is held.
use Rattle.std.proofs.Common.{◌≡◌, ℕ, Bool, true, false, cond, ◌||◌, ◌⊎◌, List, length, ℤ, Some, None, Ok, Err, Option, Result, sym, refl, ap, ◌∙◌, subst, inl, inr, ⊎_elim}
use Rattle.std.proofs.lemmas.Bool.{cases_Bool, both_ways}
use Rattle.faults.specs.declared.fault.Fault.{Fault}
use Rattle.cache.specs.Keys.{Key, same_key}
use Rattle.cache.specs.Caches.{CacheSense, Held, Kept, SaveStep, SameHeld, Deleted}
use Rattle.cache.specs.Tracking.{Entry}
use Rattle.cache.specs.SameKey.{same_key_decides}
use Rattle.index.specs.Table.{tracks, Used, Removed}
use Rattle.index.proofs.Changes.{touched_tracks, used_tracks}
use Rattle.index.proofs.Counts.{same_key_false}
use Rattle.index.proofs.Places.{tracks_at}
use Rattle.index.proofs.PathRemoval.{path_gone, path_others}
use Rattle.index.proofs.Removal.{removed_tracks}
use Rattle.evictor.specs.Evicts.{State, held_of, EvictingReads, not_tracked, not_answered, answered, Forgets, forgets_none, forgets_next, Evicts, within, beyond, EvictingSaves, table_full, refused_below, accepted, EvictingDeletes}

or_false : (x y : Bool) → y ≡ false → (x || y) ≡ x
or_false true y f = refl
or_false false y f = f

-- what stays tracked after a use of another key, and after a removal
used_other : (k : Key) (size : ℕ) (time : ℤ) (es after : List Entry) → Used k size time es after → (j : Key) → (j ≡ k → ⊥) → tracks j after ≡ tracks j es
used_other k size time es after used j other =
    let f : same_key k j ≡ false = same_key_false k j (λ e. other (sym e)) in
    used_tracks k size time es after used j ∙ or_false (tracks j es) (same_key k j) f

removed_fewer : (e : Entry) (es after : List Entry) → Removed e es after → (j : Key) → tracks j after ≡ true → tracks j es ≡ true
removed_fewer e es after removed j t =
    ⊎_elim
    (λ y. subst (λ k. tracks k es ≡ true) (sym ((same_key_decides j e.key).0 y)) (tracks_at removed.tracked))
    (λ n. sym (removed_tracks removed j (λ same. both_ways (same_key j e.key) n ((same_key_decides j e.key).1 same))) ∙ t)
    (cases_Bool (same_key j e.key))

abbrev Value : Type 0
Value = Option (List ℕ)

kept_on : (old mid new : Held) (j : Key) → Kept old mid j → Kept mid new j → Kept old new j
kept_on old mid new j a b =
    ⊎_elim (λ same. ⊎_elim (λ was. inl (same ∙ was)) (λ none. inr (same ∙ none)) a) (λ none. inr none) b

-- a table that tracks no more, over held values that are kept
kept_below : (x y : Bool) (p q : Value) → (y ≡ true → x ≡ true) → (q ≡ p) ⊎ (q ≡ None)
    → (cond y q None ≡ cond x p None) ⊎ (cond y q None ≡ None)
kept_below x true p q more kept =
    ⊎_elim (λ same. inl (let was = more refl in rw was same)) (λ none. inr none) kept
kept_below x false p q more kept = inr refl

-- a value that is saved, or none, stays one of the two
here_after : (x : Bool) (p q r : Value) (v : List ℕ) → (p ≡ Some v) ⊎ (p ≡ None) → q ≡ cond x p None → (r ≡ q) ⊎ (r ≡ None) → (r ≡ Some v) ⊎ (r ≡ None)
here_after true p q r v here is kept = ⊎_elim (λ same. ⊎_elim (λ h. inl (same ∙ is ∙ h)) (λ h. inr (same ∙ is ∙ h)) here) (λ none. inr none) kept
here_after false p q r v here is kept = ⊎_elim (λ same. inr (same ∙ is)) (λ none. inr none) kept

module _ {C : Type 0} (b : CacheSense C) (drops : C → Key → C → Type 0) where
  forgets_kept : {c : C} {es : List Entry} {d : C} {fs gone : List Entry} → Forgets b drops c es gone d fs → (j : Key) → Kept (b.held c) (b.held d) j
  forgets_kept forgets_none j = inl refl
  forgets_kept {c} {es} {d} (forgets_next {between = m} {e = e} before drop dropped removed) j =
      kept_on (b.held c) (b.held m) (b.held d) j (forgets_kept before j)
      (⊎_elim
      (λ t. let same = (same_key_decides j e.key).0 t in inr (ap (b.held d) same ∙ dropped.gone))
      (λ f. inl (dropped.others j (λ same. both_ways (same_key j e.key) f ((same_key_decides j e.key).1 same))))
      (cases_Bool (same_key j e.key)))

  forgets_fewer : {c : C} {es : List Entry} {d : C} {fs gone : List Entry} → Forgets b drops c es gone d fs → (j : Key) → tracks j fs ≡ true → tracks j es ≡ true
  forgets_fewer forgets_none j t = t
  forgets_fewer (forgets_next before drop dropped removed) j t = forgets_fewer before j (removed_fewer _ _ _ removed j t)

  module _ {H : Type 0} (draws : H → ℕ → ℕ → H → Type 0) (times : H → ℤ → H → Type 0) where
    evicts_kept : (s t : State C H) → Evicts b drops draws s t → (j : Key) → Kept (held_of b s) (held_of b t) j
    evicts_kept s t (within fits same) j = inl (ap (λ (x : State C H). held_of b x j) same)
    evicts_kept s t (beyond more picks forgets same) j =
        kept_below (tracks j s.entries) (tracks j t.entries) (b.held s.inner j) (b.held t.inner j)
        (forgets_fewer forgets j) (forgets_kept forgets j)

    pub saves_step : (s t : State C H) (k : Key) (v : List ℕ) (r : Result (Unit {0}) Fault)
        → EvictingSaves b drops draws times s t k v r → SaveStep (held_of b s) (held_of b t) k v r
    saves_step s t k v (Err e) (table_full n f same) = (refl, λ j. inl (ap (λ (x : State C H). held_of b x j) same))
    saves_step s t k v (Err e) (refused_below {c = c} room r same) =
        let step = r.held in (
          step.0,
          λ j. subst (λ (x : State C H). Kept (held_of b s) (held_of b x) j) (sym same)
              (kept_below (tracks j s.entries) (tracks j s.entries) (b.held s.inner j) (b.held c j) (λ y. y) (step.1 j)),
        )
    saves_step s t k v (Ok done) (accepted {c = c} room r follows) =
        let step = r.held in
        let es = follows.entries in
        let mid : State C H = record { inner = c; host = follows.timed; entries = es; maximum = s.maximum; evicted = s.evicted } in
        record {
          here = here_after (tracks k es) (b.held c k) (held_of b mid k) (held_of b t k) v step.here refl (evicts_kept mid t follows.evicts k);
          others = λ j other. kept_on (held_of b s) (held_of b mid) (held_of b t) j
              (kept_below (tracks j s.entries) (tracks j es) (b.held s.inner j) (b.held c j)
              (λ y. sym (used_other k (length v) follows.time s.entries es follows.used j other) ∙ y) (step.others j other))
              (evicts_kept mid t follows.evicts j);
        }

module _ {C H : Type 0} (b : CacheSense C) where
  pub reads_same : (times : H → ℤ → H → Type 0) (s t : State C H) (k : Key) (a : Bool)
      → EvictingReads b times s t k a → SameHeld (held_of b s) (held_of b t)
  reads_same times s t k false (not_tracked n same) j = ap (λ (x : State C H). held_of b x j) same
  reads_same times s t k false (not_answered {c = c} y r same) j =
      let i = r.held j in
      ap (λ (x : State C H). held_of b x j) same ∙ ap (λ o. cond (tracks j s.entries) o None) i
  reads_same times s t k true (answered {c = c} y r noted) j =
      let a : tracks j t.entries ≡ tracks j s.entries = touched_tracks noted.touched j in
      let i = r.held j in
      let n : b.held t.inner j ≡ b.held c j = ap (λ x. b.held x j) noted.inner in cc

  pub deletes_path : (s t : State C H) (p : List ℕ) → EvictingDeletes b s t p → Deleted (held_of b s) (held_of b t) p
  deletes_path s t p d =
      let step = d.inner.held in
      record {
        gone = λ k of. let f = path_gone d.entries k of in rw f;
        others = λ k of.
            let a = path_others d.entries k of in
            let i = step.others k of in cc;
      }
