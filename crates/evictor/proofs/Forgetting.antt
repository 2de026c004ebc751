-- Picked keys can be forgotten, one after the other.
use Rattle.std.proofs.Common.{◌≡◌, ℕ, zero, suc, ◌+◌, ◌<◌, ◌≤◌, true, false, List, [], ◌∷◌, ◌++◌, length, get_or, take, Some, None, Option, sym, refl, ap, ◌∙◌, subst, arith, length-take, MatchOption}
use Rattle.std.proofs.lemmas.List.{take_more, get_or-take}
use Rattle.std.proofs.lemmas.Bool.{both_ways}
use Rattle.std.proofs.ByRecursion.{All-get_or}
use Rattle.std.specs.List.{ContainsAt as Has}
use Rattle.cache.specs.Keys.{Key, key_of}
use Rattle.cache.specs.Caches.{CacheSense, Dropped}
use Rattle.cache.specs.Tracking.{Entry}
use Rattle.index.specs.declared.record.KeyRecord.{KeyRecord}
use Rattle.index.specs.Table.{tracks, once, entry_of, TrackedAt, Removed}
use Rattle.index.proofs.Places.{tracks_at, one_entry}
use Rattle.picking.specs.Picks.{Picks}
use Rattle.picking.proofs.Picked.{Apart, picked_stand, picked_apart}
use Rattle.evictor.specs.Evicts.{Forgets, forgets_next, Forgettable}
use Rattle.evictor.proofs.Bounds.{Somewhere, still}

-- what a removal answers: nothing where the key is not tracked, else the removed record
abbrev pub Removal : (k : Key) (es after : List Entry) (same : Type 0) → Option KeyRecord → Type 0
Removal k es after same r =
    MatchOption r ((tracks k es ≡ false) × same) (λ gone. (key_of gone.key ≡ k) × Removed (entry_of gone) es after)

-- a removal of a key that is tracked with this entry removes the entry
removes : (f : Entry) (es after : List Entry) (same : Type 0) (r : Option KeyRecord) → once es ≡ true → Somewhere f es
    → Removal f.key es after same r → Removed f es after
removes f es after same None distinct at (untracked, _) = absurd (both_ways (tracks f.key es) untracked (tracks_at at.1))
removes f es after same (Some gone) distinct at (key, removed) =
    let here : TrackedAt f.key es removed.place (entry_of gone) = subst (λ k. TrackedAt k es removed.place (entry_of gone)) key removed.tracked in
    subst (λ e. Removed e es after) (one_entry f.key es removed.place at.0 (entry_of gone) f distinct here at.1) removed

module _ {C : Type 0} (b : CacheSense C) (drops : C → Key → C → Type 0) where
  pub forgets_one_more : {c m d : C} {es left after picked : List Entry} (i : ℕ) (f : Entry) (same : Type 0) (r : Option KeyRecord)
      → Forgettable es picked → i < length picked → f ≡ get_or picked i f → once left ≡ true
      → Forgets b drops c es (take i picked) m left → drops m f.key d → Dropped (b.held m) (b.held d) f.key
      → Removal f.key left after same r → Forgets b drops c es (take (i + 1) picked) d after
  forgets_one_more {c} {m} {d} {es} {left} {after} {picked} i f same r can in' is distinct before drop dropped removal =
      let apart : (g : Entry) → Has (take i picked) g → f.key ≡ g.key → ⊥ = λ g has keys.
      let k = has.0 in
      let low : k < i = omega (arith, has.1, length-take i picked) in
      let g-is : get_or picked k f ≡ g = sym (get_or-take i picked k f low) ∙ has.2 f in
      can.apart k i f low in' (ap (λ (x : Entry). x.key) g-is ∙ sym keys ∙ ap (λ (x : Entry). x.key) is) in
      let was = can.tracked i f in' in
      let first : Somewhere f es = subst (λ (x : Entry). Somewhere x es) (sym is) was in
      let at : Somewhere f left = still b drops before f apart first in
      let gone = removes f left after same r distinct at removal in
      subst (λ l. Forgets b drops c es l d after) (ap (λ (x : Entry). take i picked ++ (x ∷ [])) is ∙ sym (take_more picked i f in'))
      (forgets_next before drop dropped gone)

apart_at : (es : List Entry) → Apart es → (i j : ℕ) (d : Entry) → i < j → j < length es → (get_or es i d).key ≡ (get_or es j d).key → ⊥
apart_at [] h i j d l m e = omega arith
apart_at (x ∷ es) h i zero d l m e = omega arith
apart_at (x ∷ es) h zero (suc j) d l m e = All-get_or (λ f. x.key ≡ f.key → ⊥) es j d (omega arith) h.0 e
apart_at (x ∷ es) h (suc i) (suc j) d l m e = apart_at es h.1 i j d (omega arith) (omega arith) e

-- what a run of picks gives can be forgotten
pub picks_forgettable : {H : Type 0} (draws : H → ℕ → ℕ → H → Type 0) {es picked : List Entry} {target : ℕ} {begin after : H}
    → length es ≤ 256 → once es ≡ true → Picks draws es target begin picked after → Forgettable es picked
picks_forgettable draws {es} {picked} few distinct picks = record {
  tracked = λ i d in'.
      let at = All-get_or (λ e. (p : ℕ) × (p < length es) × (e ≡ get_or es p e)) picked i d in' (picked_stand draws few picks.run) in
      (at.0, record { within = at.1; is = at.2; key = refl });
  apart = apart_at picked (picked_apart draws few distinct picks.run);
}
