-- What removing a key leaves.
use Rattle.std.proofs.Common.{◌≡◌, ℕ, ◌+◌, ◌-◌, ◌^◌, ◌<◌, true, false, ◌≢◌, List, length, get_or, take, set, sum_by, sym, refl, ap, ◌∙◌, subst, ⊎_elim, arith}
use Rattle.std.specs.List.{AllByRecursion as All}
use Rattle.std.proofs.ByRecursion.{All-get_or, All-set, All-take}
use Rattle.std.proofs.lemmas.List.{length-map, get_or-map, take-map, map-set, length-set, length-take-le, take_all, get_or-take, get_or-set_same, get_or-set_other, get_or_default}
use Rattle.std.proofs.lemmas.List.Sums.{sum_by-set, sum_by_more}
use Rattle.std.proofs.lemmas.Bool.{cases_eq}
use Rattle.cache.specs.Keys.{Key, key_of}
use Rattle.cache.specs.Tracking.{Entry, sizes}
use Rattle.index.specs.declared.record.KeyRecord.{KeyRecord}
use Rattle.index.specs.Table.{entry_of, entries_of, tracks, once, IsTable, TrackedAt, Removed}
use Rattle.index.proofs.Counts.{one_if, one_if_same, one_if_other, times_of_once, once_by_times, untracked_by_times, tracks_by_times}
use Rattle.index.proofs.Places.{one_key, tracked_record, all_at, all_placed}

-- the last entry, and the table once it stands in the gap too
abbrev last_of : Entry → List Entry → Entry
last_of e es = get_or es (length es - 1) e

abbrev filled : {e : Entry} {es after : List Entry} → Removed e es after → List Entry
filled {e} {es} r = set es r.place (last_of e es)

-- the last entry stays at its end
last_stays : {e : Entry} {es after : List Entry} (r : Removed e es after) → get_or (filled r) (length es - 1) e ≡ last_of e es
last_stays {e} {es} r =
    ⊎_elim
    (λ same.
    let P : ℕ → Type 0 = λ n. get_or (filled r) n e ≡ last_of e es in
    subst P (sym same) (get_or-set_same es r.place (last_of e es) e r.tracked.within))
    (λ other. get_or-set_other es r.place (length es - 1) (last_of e es) e other)
    (cases_eq (length es - 1) r.place)

-- any sum over the entries falls by what the removed one gave
pub removed_sums : (f : Entry → ℕ) {e : Entry} {es after : List Entry} → Removed e es after → sum_by f after + f e ≡ sum_by f es
removed_sums f {e} {es} {after} r =
    let n = length es in
    let l : r.place < n = r.tracked.within in
    let long : length (filled r) ≡ n = length-set es r.place (last_of e es) in
    let h = sum_by-set f es r.place (last_of e es) e l in
    let was : f (get_or es r.place e) ≡ f e = ap f (sym r.tracked.is) in
    let more = sum_by_more f (filled r) (n - 1) e (omega arith) in
    let whole : take (n - 1 + 1) (filled r) ≡ filled r = take_all (n - 1 + 1) (filled r) (omega arith) in
    let wholes = ap (sum_by f) whole in
    let stays = ap f (last_stays r) in
    let now : sum_by f after ≡ sum_by f (take (n - 1) (filled r)) = ap (sum_by f) r.is in
    omega arith

pub removed_length : {e : Entry} {es after : List Entry} → Removed e es after → length after + 1 ≡ length es
removed_length {e} {es} {after} r =
    let l : r.place < length es = r.tracked.within in
    let long : length (filled r) ≡ length es = length-set es r.place (last_of e es) in
    let h = length-take-le (length es - 1) (filled r) (omega arith) in
    let now = ap length r.is in
    omega arith

pub removed_sizes : {e : Entry} {es after : List Entry} → Removed e es after → sizes es ≡ e.size + sizes after
removed_sizes r = let h = removed_sums (λ x. x.size) r in omega arith

pub removed_tracks : {e : Entry} {es after : List Entry} → Removed e es after → (j : Key) → (j ≡ e.key → ⊥) → tracks j after ≡ tracks j es
removed_tracks {e} {es} {after} r j ne =
    let h = removed_sums (one_if j) r in
    let none = one_if_other j e (λ same. ne (sym same)) in
    tracks_by_times j after es (omega arith)

pub removed_gone : {e : Entry} {es after : List Entry} → Removed e es after → once es ≡ true → tracks e.key after ≡ false
removed_gone {e} {es} {after} r o =
    let h = removed_sums (one_if e.key) r in
    let one = one_if_same e.key e refl in
    let top = times_of_once es o e.key in
    untracked_by_times e.key after (omega arith)

pub removed_once : {e : Entry} {es after : List Entry} → Removed e es after → once es ≡ true → once after ≡ true
removed_once {e} {es} {after} r o =
    once_by_times after (λ j. let h = removed_sums (one_if j) r in let top = times_of_once es o j in omega arith)

-- what holds of every entry still does
pub removed_all : (P : Entry → Type 0) {e : Entry} {es after : List Entry} → Removed e es after → All P es → All P after
removed_all P {e} {es} {after} r h =
    let l : r.place < length es = r.tracked.within in
    let Q : List Entry → Type 0 = λ xs. All P xs in
    subst Q (sym r.is)
    (All-take P (length es - 1) (filled r) (All-set P es r.place (last_of e es) (All-get_or P es (length es - 1) e (omega arith) h) h))

pub removed_table : {e : Entry} {es after : List Entry} → Removed e es after → IsTable es → IsTable after
removed_table r is = record {
  few = (let f = is.few in let l = removed_length r in omega arith);
  distinct = removed_once r is.distinct;
  sized = removed_all (λ e. e.size < 2 ^ 64) r is.sized;
}

-- every other key keeps its entry, at its place or in the gap
pub removed_other : {e : Entry} {es after : List Entry} {j : Key} {i : ℕ} {f : Entry} → Removed e es after → (j ≡ e.key → ⊥) → TrackedAt j es i f → (p : ℕ) × TrackedAt j after p f
removed_other {e} {es} {after} {j} {i} {f} r ne a =
    let l : r.place < length es = r.tracked.within in
    let m : i < length es = a.within in
    let long = removed_length r in
    let away : i ≢ r.place = λ same. let Q : ℕ → Type 0 = λ n. TrackedAt j es n f in ne (one_key (subst Q same a) r.tracked) in
    let P : List Entry → Type 0 = λ xs. (i ≡ length es - 1 → f ≡ get_or xs r.place f) × ((i ≡ length es - 1 → ⊥) → f ≡ get_or xs i f) in
    let reads : P after =
    subst P (sym r.is) (
      λ same.
          let Q : ℕ → Type 0 = λ n. f ≡ get_or es n f in
          let at_last : f ≡ last_of e es = subst Q same a.is ∙ get_or_default es (length es - 1) f e (omega arith) in
          let away2 : r.place < length es - 1 = omega (arith, away) in
          at_last ∙ sym (get_or-take (length es - 1) (filled r) r.place f away2 ∙ get_or-set_same es r.place (last_of e es) f l),
      λ other.
          a.is ∙ sym (get_or-take (length es - 1) (filled r) i f (omega (arith, other)) ∙ get_or-set_other es r.place i (last_of e es) f away),
    ) in
    ⊎_elim
    (λ same. (r.place, record { within = omega (arith, away); is = reads.0 same; key = a.key }))
    (λ other. (i, record { within = omega (arith, other); is = reads.1 other; key = a.key }))
    (cases_eq i (length es - 1))

-- and nothing is new
pub removed_from : {e : Entry} {es after : List Entry} {j : Key} {i : ℕ} {f : Entry} → Removed e es after → TrackedAt j after i f → (p : ℕ) × TrackedAt j es p f
removed_from {e} {es} {after} {j} {i} {f} r a =
    let P : Entry → Type 0 = λ x. (p : ℕ) × TrackedAt x.key es p x in
    let h = all_at P (removed_all P r (all_placed es)) a in
    let Q : Key → Type 0 = λ k. TrackedAt k es h.0 f in
    (h.0, subst Q a.key h.1)

-- a record of the code is taken out, and the last one put into its gap
pub swapped_removes : {k : Key} (rs after : List KeyRecord) {i : ℕ} {e : Entry} (r : KeyRecord) → r ≡ get_or rs i r → after ≡ take (length rs - 1) (set rs i (get_or rs (length rs - 1) r)) → TrackedAt k (entries_of rs) i e → (key_of r.key ≡ k) × Removed (entry_of r) (entries_of rs) (entries_of after)
swapped_removes {k} rs after {i} {e} r is now t =
    let here = tracked_record rs r t is in
    let n : length (entries_of rs) ≡ length rs = length-map rs entry_of in
    let l : i < length (entries_of rs) = t.within in
    let end : entry_of (get_or rs (length rs - 1) r) ≡ get_or (entries_of rs) (length rs - 1) (entry_of r) =
    sym (get_or-map entry_of rs (length rs - 1) r (entry_of r) (omega arith)) in
    let P : ℕ → Type 0 = λ m. entries_of after ≡ take (m - 1) (set (entries_of rs) i (get_or (entries_of rs) (m - 1) (entry_of r))) in (
      here.key,
      record {
        place = i;
        tracked = record { within = here.within; is = here.is; key = refl };
        is = subst P (sym n)
            (ap entries_of now
            ∙ sym (take-map entry_of (length rs - 1) (set rs i (get_or rs (length rs - 1) r)))
            ∙ ap (take (length rs - 1)) (map-set entry_of rs i (get_or rs (length rs - 1) r) ∙ ap (set (entries_of rs) i) end));
      },
    )
