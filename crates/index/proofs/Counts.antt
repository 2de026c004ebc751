-- How often a key is tracked: `tracks` asks whether that is more than 0, `once` that it is never more than 1.
use Rattle.std.proofs.Common.{◌≡◌, ℕ, ◌≤◌, true, false, cond, not, List, [], ◌∷◌, sum_by, sym, refl, ◌∙◌, subst, ⊎_elim, arith}
use Rattle.std.proofs.lemmas.List.Sums.{sum_by-cons}
use Rattle.std.proofs.lemmas.Bool.{cases_Bool, both_ways, and_parts, and_from, not-true, not_from_false, or_parts, cond-true, cond-false}
use Rattle.cache.specs.Keys.{Key, same_key}
use Rattle.cache.specs.Tracking.{Entry}
use Rattle.cache.specs.SameKey.{same_key_decides}
use Rattle.index.specs.Table.{tracks, once}

-- 1 where an entry has the key
abbrev pub one_if : Key → Entry → ℕ
one_if k e = cond (same_key e.key k) 1 0

abbrev pub times : Key → List Entry → ℕ
times k es = sum_by (one_if k) es

pub same_key_true : (j k : Key) → j ≡ k → same_key j k ≡ true
same_key_true j k e = (same_key_decides j k).1 e

pub same_key_false : (j k : Key) → (j ≡ k → ⊥) → same_key j k ≡ false
same_key_false j k ne = ⊎_elim (λ t. absurd (ne ((same_key_decides j k).0 t))) (λ f. f) (cases_Bool (same_key j k))

pub one_if_same : (k : Key) (e : Entry) → e.key ≡ k → one_if k e ≡ 1
one_if_same k e same = cond-true (same_key e.key k) 1 0 (same_key_true e.key k same)

pub one_if_other : (k : Key) (e : Entry) → (e.key ≡ k → ⊥) → one_if k e ≡ 0
one_if_other k e ne = cond-false (same_key e.key k) 1 0 (same_key_false e.key k ne)

pub times_of_tracked : (k : Key) (es : List Entry) → tracks k es ≡ true → 1 ≤ times k es
times_of_tracked k [] t = absurd (both_ways false refl t)
times_of_tracked k (e ∷ es) t =
    let more = sum_by-cons (one_if k) e es in
    ⊎_elim
    (λ here. let one = cond-true {A = ℕ} (same_key e.key k) 1 0 here in omega arith)
    (λ other. let later : tracks k es ≡ true = rw other at t in let h = times_of_tracked k es later in omega arith)
    (cases_Bool (same_key e.key k))

pub times_of_untracked : (k : Key) (es : List Entry) → tracks k es ≡ false → times k es ≡ 0
times_of_untracked k [] f = refl
times_of_untracked k (e ∷ es) f =
    let parts = or_parts (same_key e.key k) (tracks k es) f in
    let none = cond-false {A = ℕ} (same_key e.key k) 1 0 parts.0 in
    let h = times_of_untracked k es parts.1 in
    let more = sum_by-cons (one_if k) e es in
    omega arith

pub tracked_by_times : (k : Key) (es : List Entry) → 1 ≤ times k es → tracks k es ≡ true
tracked_by_times k es h =
    ⊎_elim (λ t. t) (λ f. let z = times_of_untracked k es f in absurd (omega arith)) (cases_Bool (tracks k es))

pub untracked_by_times : (k : Key) (es : List Entry) → times k es ≡ 0 → tracks k es ≡ false
untracked_by_times k es h =
    ⊎_elim (λ t. let z = times_of_tracked k es t in absurd (omega arith)) (λ f. f) (cases_Bool (tracks k es))

-- equally often, equally tracked
pub tracks_by_times : (k : Key) (xs ys : List Entry) → times k xs ≡ times k ys → tracks k xs ≡ tracks k ys
tracks_by_times k xs ys h =
    ⊎_elim
    (λ t. let z = times_of_tracked k ys t in tracked_by_times k xs (omega arith) ∙ sym t)
    (λ f. let z = times_of_untracked k ys f in untracked_by_times k xs (omega arith) ∙ sym f)
    (cases_Bool (tracks k ys))

pub times_of_once : (es : List Entry) → once es ≡ true → (k : Key) → times k es ≤ 1
times_of_once [] o k = omega arith
times_of_once (e ∷ es) o k =
    let parts = and_parts (not (tracks e.key es)) (once es) o in
    let h = times_of_once es parts.1 k in
    let more = sum_by-cons (one_if k) e es in
    ⊎_elim
    (λ here.
    let P : Key → Type 0 = λ j. tracks j es ≡ false in
    let absent : tracks k es ≡ false = subst P ((same_key_decides e.key k).0 here) (not-true (tracks e.key es) parts.0) in
    let z = times_of_untracked k es absent in
    let one = cond-true {A = ℕ} (same_key e.key k) 1 0 here in
    omega arith)
    (λ other. let none = cond-false {A = ℕ} (same_key e.key k) 1 0 other in omega arith)
    (cases_Bool (same_key e.key k))

pub once_by_times : (es : List Entry) → ((k : Key) → times k es ≤ 1) → once es ≡ true
once_by_times [] h = refl
once_by_times (e ∷ es) h =
    let absent : tracks e.key es ≡ false =
    ⊎_elim
    (λ t.
    let z = times_of_tracked e.key es t in
    let one = one_if_same e.key e refl in
    let more = sum_by-cons (one_if e.key) e es in
    let top = h e.key in
    absurd (omega arith))
    (λ f. f)
    (cases_Bool (tracks e.key es)) in
    and_from (not (tracks e.key es)) (once es)
    (not_from_false (tracks e.key es) absent)
    (once_by_times es (λ k. let more = sum_by-cons (one_if k) e es in let top = h k in omega arith))
