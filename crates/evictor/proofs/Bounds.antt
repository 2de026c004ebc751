-- Totals and counts of tracked keys under the changes of an evicting cache.
use Rattle.std.proofs.Common.{◌≡◌, ℕ, ◌+◌, ◌*◌, ◌<◌, ◌≤◌, Bool, List, [], ◌∷◌, length, ℤ, Result, sym, ap, ◌∙◌, subst, inl, inr, ⊎_elim, div-mul-le_self, arith, length-append}
use Rattle.std.proofs.lemmas.List.Sums.{sum_by_push}
use Rattle.std.proofs.ByRecursion.{has_append_left, has_push}
use Rattle.std.specs.List.{ContainsAt as Has}
use Rattle.faults.specs.declared.fault.Fault.{Fault}
use Rattle.cache.specs.Keys.{Key}
use Rattle.cache.specs.Caches.{CacheSense}
use Rattle.cache.specs.Tracking.{Entry, sizes}
use Rattle.index.specs.Table.{TrackedAt, Used}
use Rattle.index.proofs.Changes.{touched_length, touched_sizes, appended_length}
use Rattle.index.proofs.Removal.{removed_sizes, removed_length, removed_other}
use Rattle.index.proofs.PathRemoval.{path_sizes, path_length}
use Rattle.picking.specs.Picks.{target_of}
use Rattle.picking.proofs.Picked.{picked_sizes, picked_length}
use Rattle.evictor.specs.Evicts.{State, Room, EvictingReads, not_tracked, not_answered, answered, Forgets, forgets_none, forgets_next, Evicts, within, beyond, EvictingSaves, table_full, refused_below, accepted, EvictingDeletes}

-- two or more keys are tracked only where their sizes are at most the maximum
abbrev pub Bound : (es : List Entry) (maximum : ℕ) → Type 0
Bound es maximum = 1 < length es → sizes es ≤ maximum

abbrev pub Somewhere : Entry → List Entry → Type 0
Somewhere e es = (i : ℕ) × TrackedAt e.key es i e

target_le : (maximum : ℕ) → target_of maximum ≤ maximum
target_le m = let h = div-mul-le_self (9 * m) 10 in omega arith

-- a use that there is room for leaves at most 256 keys
used_few : (k : Key) (size : ℕ) (time : ℤ) (es after : List Entry) → Room k es → length es ≤ 256 → Used k size time es after → length after ≤ 256
used_few k size time es after room few (inl touched) = omega (arith, touched_length touched)
used_few k size time es after room few (inr new) =
    let below = room new.0 in
    let is = ap length new.1 ∙ appended_length es (record { key = k; size = size; time = time }) in omega arith

module _ {C : Type 0} (b : CacheSense C) (drops : C → Key → C → Type 0) where
  forgets_sums : {c : C} {es : List Entry} {gone : List Entry} {d : C} {fs : List Entry} → Forgets b drops c es gone d fs
      → (sizes es ≡ sizes gone + sizes fs) × (length es ≡ length gone + length fs)
  forgets_sums forgets_none = (omega arith, omega arith)
  forgets_sums (forgets_next {left = left} {fewer = fewer} {gone = gone} {e = e} before drop dropped removed) =
      let h = forgets_sums before in
      let r = removed_sizes removed in
      let n = removed_length removed in
      (omega (arith, h.0, r, sum_by_push (λ (x : Entry). x.size) gone e), omega (arith, h.1, n, length-append gone (e ∷ [])))

  -- a key that is not among those forgotten is tracked as it was
  pub still : {c : C} {es : List Entry} {gone : List Entry} {d : C} {fs : List Entry} → Forgets b drops c es gone d fs
      → (f : Entry) → ((g : Entry) → Has gone g → f.key ≡ g.key → ⊥) → Somewhere f es → Somewhere f fs
  still forgets_none f apart at = at
  still (forgets_next {left = left} {fewer = fewer} {gone = gone} {e = e} before drop dropped removed) f apart at =
      let before' = still before f (λ g h. apart g (has_append_left gone (e ∷ []) g h)) at in
      removed_other removed (apart e (has_push gone e)) before'.1

  module _ {H : Type 0} (draws : H → ℕ → ℕ → H → Type 0) (times : H → ℤ → H → Type 0) where
    evicts_bound : (s t : State C H) → length s.entries ≤ 256 → Evicts b drops draws s t → Bound t.entries t.maximum
    evicts_bound s t few (within fits same) many =
        subst (λ (x : State C H). sizes x.entries ≤ x.maximum) (sym same) fits
    evicts_bound s t few (beyond more run forgets same) many =
        let f = forgets_sums forgets in
        let g = target_le s.maximum in
        let sum = picked_sizes draws few run.run in
        let count = picked_length draws few run.run in
        ⊎_elim
        (λ fits. omega (arith, f.0, fits, same, g, sum))
        (λ two. omega (arith, f.1, two, count))
        run.ended

    -- a save keeps the bound, and an accepted one sets it up
    pub saves_bound : {s t : State C H} {k : Key} {v : List ℕ} {r : Result (Unit {0}) Fault} → length s.entries ≤ 256
        → EvictingSaves b drops draws times s t k v r → Bound s.entries s.maximum → Bound t.entries t.maximum
    saves_bound few (table_full n f same) bound = subst (λ (x : State C H). Bound x.entries x.maximum) (sym same) bound
    saves_bound few (refused_below room r same) bound = subst (λ (x : State C H). Bound x.entries x.maximum) (sym same) bound
    saves_bound {s} {t} {k} {v} few (accepted room r follows) bound =
        evicts_bound _ t (used_few k (length v) follows.time s.entries follows.entries room few follows.used) follows.evicts

module _ {C H : Type 0} (b : CacheSense C) where
  pub reads_bound : (times : H → ℤ → H → Type 0) {s t : State C H} {k : Key} {a : Bool}
      → EvictingReads b times s t k a → Bound s.entries s.maximum → Bound t.entries t.maximum
  reads_bound times (not_tracked n same) bound = subst (λ (x : State C H). Bound x.entries x.maximum) (sym same) bound
  reads_bound times (not_answered y r same) bound = subst (λ (x : State C H). Bound x.entries x.maximum) (sym same) bound
  reads_bound times (answered y r noted) bound =
      let sum = touched_sizes noted.touched in
      let count = touched_length noted.touched in
      λ many. omega (arith, sum, count, noted.maximum, bound (omega (arith, count)))

  pub deletes_bound : {s t : State C H} {p : List ℕ} → EvictingDeletes b s t p → Bound s.entries s.maximum → Bound t.entries t.maximum
  deletes_bound d bound many =
      let less = path_sizes d.entries in
      let fewer = path_length d.entries in omega (arith, less, fewer, d.maximum, bound (omega (arith, fewer)))
