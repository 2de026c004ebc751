-- The picked keys: with what is left they are the table, and none is picked twice.
use Rattle.std.proofs.Common.{◌≡◌, ℕ, zero, suc, ◌+◌, ◌<◌, ◌≤◌, Bool, true, false, not, ◌⊎◌, List, [], ◌∷◌, ◌++◌, length, get_or, set, Some, None, sum_by, sym, refl, ap, ◌∙◌, inl, inr, ⊎_elim, arith}
use Rattle.std.specs.List.{AllByRecursion as All}
use Rattle.std.proofs.ByRecursion.{All-weaker, All-push}
use Rattle.std.proofs.lemmas.List.{length-set, get_or-set_same, get_or-set_other, get_or_default}
use Rattle.std.proofs.lemmas.Int.{by_lt_z}
use Rattle.std.proofs.lemmas.List.Sums.{sum_by_push}
use Rattle.std.proofs.lemmas.Bool.{and_parts, not-true, or_parts, both_ways, cases_eq, cases_order}
use Rattle.cache.specs.Keys.{Key, same_key}
use Rattle.cache.specs.Tracking.{Entry, sizes}
use Rattle.cache.specs.SameKey.{same_key_decides}
use Rattle.index.specs.Table.{tracks, once}
use Rattle.picking.specs.Picks.{unpicked, Pick, Picking, none_yet, picks_one}
use Rattle.picking.proofs.Draws.{drawn_available, unmarked}
use Rattle.picking.proofs.Unpicked.{unpicked_none, sum_marked, length_sum}

-- an entry stands in the table at a place that is marked
abbrev pub Marked : (es : List Entry) (marks : List Bool) → Entry → Type 0
Marked es marks e = (p : ℕ) × (p < length es) × (e ≡ get_or es p e) × (get_or marks p false ≡ true)

-- no key is that of a later entry
abbrev pub Apart : List Entry → Type 0
Apart [] = Unit {0}
Apart (e ∷ es) = All (λ f. e.key ≡ f.key → ⊥) es × Apart es

apart_push : (es : List Entry) (f : Entry) → Apart es → All (λ e. e.key ≡ f.key → ⊥) es → Apart (es ++ f ∷ [])
apart_push [] f h k = (tt, tt)
apart_push (e ∷ es) f h k = (All-push _ es f h.0 k.0, apart_push es f h.1 k.1)

untracked : (k : Key) (es : List Entry) (q : ℕ) (d : Entry) → tracks k es ≡ false → q < length es → (get_or es q d).key ≡ k → ⊥
untracked k [] q d none_is l e = omega arith
untracked k (f ∷ es) zero d none_is l e =
    both_ways _ (or_parts (same_key f.key k) (tracks k es) none_is).0 ((same_key_decides f.key k).1 e)
untracked k (f ∷ es) (suc q) d none_is l e =
    untracked k es q d (or_parts (same_key f.key k) (tracks k es) none_is).1 (omega arith) e

-- in a table with no key twice, different places have different keys
later_apart : (es : List Entry) (p q : ℕ) (d : Entry) → once es ≡ true → p < q → q < length es → (get_or es p d).key ≡ (get_or es q d).key → ⊥
later_apart [] p q d h b l e = omega arith
later_apart (f ∷ es) p zero d h b l e = omega arith
later_apart (f ∷ es) zero (suc q) d h b l e =
    untracked f.key es q d (not-true _ (and_parts (not (tracks f.key es)) (once es) h).0) (omega arith) (sym e)
later_apart (f ∷ es) (suc p) (suc q) d h b l e =
    later_apart es p q d (and_parts (not (tracks f.key es)) (once es) h).1 (omega arith) (omega arith) e

pub places_apart : (es : List Entry) (p q : ℕ) (d : Entry) → once es ≡ true → p < length es → q < length es → (p ≡ q → ⊥)
    → (get_or es p d).key ≡ (get_or es q d).key → ⊥
places_apart es p q d h l m apart e =
    ⊎_elim (λ same. apart same) (λ order. ⊎_elim (λ b. later_apart es p q d h b m e) (λ b. later_apart es q p d h b l (sym e)) order)
    (cases_order p q)

module _ {H : Type 0} (draws : H → ℕ → ℕ → H → Type 0) where
  -- the picked place is one of the two
  one_of_two : {es : List Entry} {marks : List Bool} {begin after : H} {place : ℕ} {entry : Entry}
      → (p : Pick draws es marks begin place entry after) → (place ≡ p.first) ⊎ (place ≡ p.second)
  one_of_two {es} {entry = entry} p =
      by_lt_z (get_or es p.second entry).time (get_or es p.first entry).time (λ h. inr (p.later entry h)) (λ h. inl (p.earlier entry h))

  pub pick_within : {es : List Entry} {marks : List Bool} {begin after : H} {place : ℕ} {entry : Entry}
      → Pick draws es marks begin place entry after → place < length es
  pick_within p = let f = p.first_in in let s = p.second_in in ⊎_elim (λ e. omega arith) (λ e. omega arith) (one_of_two p)

  pub pick_unmarked : {es : List Entry} {marks : List Bool} {begin after : H} {place : ℕ} {entry : Entry}
      → Pick draws es marks begin place entry after → get_or marks place false ≡ false
  pick_unmarked {marks = marks} p =
      ⊎_elim
      (λ e. ap (λ i. get_or marks i false) e ∙ unmarked marks None p.first (drawn_available draws p.one))
      (λ e. ap (λ i. get_or marks i false) e ∙ unmarked marks (Some p.first) p.second (drawn_available draws p.other))
      (one_of_two p)

  module _ {es : List Entry} {target : ℕ} {begin : H} where
    pub marks_length : {after : H} {marks : List Bool} {picked : List Entry} → Picking draws es target begin after marks picked → length marks ≡ 256
    marks_length none_yet = refl
    marks_length (picks_one {marks = marks} {place = place} run more two pick) = length-set marks place true ∙ marks_length run

    -- a sum over the table is that over the picked and that over the rest
    pub picked_sum : (f : Entry → ℕ) → length es ≤ 256 → {after : H} {marks : List Bool} {picked : List Entry}
        → Picking draws es target begin after marks picked → sum_by f es ≡ sum_by f picked + sum_by f (unpicked marks es)
    picked_sum f few none_yet = let all = ap (sum_by f) (unpicked_none 256 es) in omega arith
    picked_sum f few (picks_one {marks = marks} {picked = picked} {place = place} {entry = entry} run more two pick) =
        let long = marks_length run in
        let within = pick_within pick in
        let before = picked_sum f few run in
        let falls = sum_marked f marks es place entry (omega arith) within (pick_unmarked pick) in
        let grows = sum_by_push f picked entry in
        let same = ap f pick.is in
        omega arith

    pub picked_sizes : length es ≤ 256 → {after : H} {marks : List Bool} {picked : List Entry}
        → Picking draws es target begin after marks picked → sizes es ≡ sizes picked + sizes (unpicked marks es)
    picked_sizes few run = picked_sum (λ e. e.size) few run

    pub picked_length : length es ≤ 256 → {after : H} {marks : List Bool} {picked : List Entry}
        → Picking draws es target begin after marks picked → length es ≡ length picked + length (unpicked marks es)
    picked_length few {marks = marks} {picked = picked} run =
        let parts = picked_sum (λ e. 1) few run in
        let whole = length_sum es in
        let taken = length_sum picked in
        let left = length_sum (unpicked marks es) in
        omega arith

    -- every picked entry stands in the table, at a marked place
    pub picked_marked : length es ≤ 256 → {after : H} {marks : List Bool} {picked : List Entry}
        → Picking draws es target begin after marks picked → All (Marked es marks) picked
    picked_marked few none_yet = tt
    picked_marked few (picks_one {marks = marks} {picked = picked} {place = place} {entry = entry} run more two pick) =
        let long = marks_length run in
        let within = pick_within pick in
        let now-marked = get_or-set_same marks place true false (omega arith) in
        All-push (Marked es (set marks place true)) picked entry
        (All-weaker (Marked es marks) (Marked es (set marks place true))
        (λ e s. (
          s.0,
          s.1,
          s.2,
          ⊎_elim
              (λ same. ap (λ i. get_or (set marks place true) i false) same ∙ now-marked)
              (λ apart. get_or-set_other marks place s.0 true false apart ∙ s.3)
              (cases_eq s.0 place),
        ))
        picked (picked_marked few run))
        (place, within, pick.is, now-marked)

    pub picked_stand : length es ≤ 256 → {after : H} {marks : List Bool} {picked : List Entry}
        → Picking draws es target begin after marks picked → All (λ e. (p : ℕ) × (p < length es) × (e ≡ get_or es p e)) picked
    picked_stand few {marks = marks} {picked = picked} run =
        All-weaker (Marked es marks) (λ e. (p : ℕ) × (p < length es) × (e ≡ get_or es p e)) (λ e s. (s.0, s.1, s.2)) picked (picked_marked few run)

    -- of a table with no key twice no key is picked twice
    pub picked_apart : length es ≤ 256 → once es ≡ true → {after : H} {marks : List Bool} {picked : List Entry}
        → Picking draws es target begin after marks picked → Apart picked
    picked_apart few once-each none_yet = tt
    picked_apart few once-each (picks_one {marks = marks} {picked = picked} {place = place} {entry = entry} run more two pick) =
        let fresh = pick_unmarked pick in
        let within = pick_within pick in
        apart_push picked entry (picked_apart few once-each run)
        (All-weaker (Marked es marks) (λ e. e.key ≡ entry.key → ⊥)
        (λ e s same.
        places_apart es s.0 place e once-each s.1 within
        (λ at. both_ways _ fresh (ap (λ i. get_or marks i false) (sym at) ∙ s.3))
        (ap (λ x. x.key) (sym s.2) ∙ same ∙ ap (λ x. x.key) (pick.is ∙ get_or_default es place entry e within)))
        picked (picked_marked few run))
