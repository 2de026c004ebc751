-- What marks leave of a table.
use Rattle.std.proofs.Common.{◌≡◌, ℕ, zero, suc, ◌+◌, ◌<◌, ◌≤◌, Bool, true, false, not, ◌&&◌, List, [], ◌∷◌, ◌++◌, Bor, Option, length, get_or, drop, set, replicate, Some, None, sum_by, sym, refl, ap, ◌∙◌, arith}
use Rattle.std.proofs.lemmas.List.{drop_more, get_or-map, get_or-set_same, get_or-set_other, length-map, length_push}
use Rattle.std.proofs.lemmas.List.Sums.{sum_by-cons}
use Rattle.std.proofs.lemmas.Bool.{true≢false, and_from, ne_eqb}
use Rattle.std.specs.declared.iter.Zip.{Zip}
use Rattle.std.specs.declared.slice.Iter.{Iter}
use Rattle.std.specs.Iterator.{Yields}
use Rattle.std.specs.Iterator.Adapters.{zip_first, zip_second}
use Rattle.std.specs.Slice.Iter.{iter_rest}
use Rattle.std.proofs.iter.Yields.{fronts}
use Rattle.std.proofs.lemmas.Iterator.{zips}
use Rattle.std.proofs.lemmas.Slice.Zip.{zip_turn}
use Rattle.cache.specs.Tracking.{Entry}
use Rattle.index.specs.declared.record.KeyRecord.{KeyRecord}
use Rattle.index.specs.Table.{entry_of, entries_of}
use Rattle.picking.specs.Picks.{unpicked, available}

-- what is left from a place on
abbrev pub left_from : List Bool → List KeyRecord → ℕ → List Entry
left_from marks keys i = unpicked (drop i marks) (drop i (entries_of keys))

unpicked_more : (marks : List Bool) (es : List Entry) (i : ℕ) (d : Entry) → i < length marks → i < length es
    → unpicked (drop i marks) (drop i es) ≡ unpicked (get_or marks i false ∷ drop (i + 1) marks) (get_or es i d ∷ drop (i + 1) es)
unpicked_more marks es i d m l =
    ap (λ ms. unpicked ms (drop i es)) (drop_more marks i false m)
    ∙ ap (λ fs. unpicked (get_or marks i false ∷ drop (i + 1) marks) fs) (drop_more es i d l)

-- one pair of a key and its mark further in a loop over both
pub pair_left : (keys : List KeyRecord) (marks : List Bool) (xs : List (Bor KeyRecord × Bor Bool)) (s t u : Zip (Iter KeyRecord) (Iter Bool)) (r : Option (Bor KeyRecord × Bor Bool))
    → iter_rest (zip_first s) ≡ keys → iter_rest (zip_second s) ≡ marks → Yields (zips fronts fronts) s xs t → (p : Bor KeyRecord × Bor Bool) → r ≡ Some p
    → zips fronts fronts t r u
    → (p.1.now ≡ true → left_from marks keys (length xs) ≡ left_from marks keys (length (xs ++ p ∷ [])))
    × (p.1.now ≡ false → left_from marks keys (length xs) ≡ entry_of p.0.now ∷ left_from marks keys (length (xs ++ p ∷ [])))
pair_left keys marks xs s t u r first second so_far p is steps =
    let turn = zip_turn keys marks xs s t u r first second so_far p is steps in
    let i = length xs in
    let e = entry_of p.0.now in
    let within : i < length (entries_of keys) = let n = length-map keys entry_of in let l = turn.0 in omega arith in
    let read : get_or (entries_of keys) i e ≡ e = get_or-map entry_of keys i p.0.now e turn.0 ∙ ap entry_of (sym (turn.2 p.0.now)) in
    let more = unpicked_more marks (entries_of keys) i e turn.1 within in
    let next : length (xs ++ p ∷ []) ≡ i + 1 = length_push xs p in (
      (λ picked. rw next (more ∙ ap (λ b. unpicked (b ∷ drop (i + 1) marks) (get_or (entries_of keys) i e ∷ drop (i + 1) (entries_of keys))) (sym (turn.3 false) ∙ picked))),
      (λ kept. rw next (more ∙ ap (λ b. unpicked (b ∷ drop (i + 1) marks) (get_or (entries_of keys) i e ∷ drop (i + 1) (entries_of keys))) (sym (turn.3 false) ∙ kept) ∙ ap (λ x. x ∷ unpicked (drop (i + 1) marks) (drop (i + 1) (entries_of keys))) read)),
    )

-- no mark, nothing picked
pub unpicked_none : (n : ℕ) (es : List Entry) → unpicked (replicate n false) es ≡ es
unpicked_none n [] = refl
unpicked_none zero (e ∷ es) = refl
unpicked_none (suc n) (e ∷ es) = ap (λ fs. e ∷ fs) (unpicked_none n es)

-- a sum over what is left falls by the entry that is marked
pub sum_marked : (f : Entry → ℕ) (marks : List Bool) (es : List Entry) (place : ℕ) (d : Entry) → place < length marks → place < length es
    → get_or marks place false ≡ false → sum_by f (unpicked marks es) ≡ f (get_or es place d) + sum_by f (unpicked (set marks place true) es)
sum_marked f [] es place d m l fresh = absurd (omega arith)
sum_marked f (x ∷ marks) [] place d m l fresh = absurd (omega arith)
sum_marked f (true ∷ marks) (e ∷ es) zero d m l fresh = absurd (true≢false fresh)
sum_marked f (false ∷ marks) (e ∷ es) zero d m l fresh = sum_by-cons f e (unpicked marks es)
sum_marked f (true ∷ marks) (e ∷ es) (suc place) d m l fresh = sum_marked f marks es place d (omega arith) (omega arith) fresh
sum_marked f (false ∷ marks) (e ∷ es) (suc place) d m l fresh =
    let before = sum_by-cons f e (unpicked marks es) in
    let after = sum_by-cons f e (unpicked (set marks place true) es) in
    let rest = sum_marked f marks es place d (omega arith) (omega arith) fresh in
    omega arith

-- a length is a sum of ones
pub length_sum : (es : List Entry) → length es ≡ sum_by (λ e. 1) es
length_sum [] = refl
length_sum (e ∷ es) = let rest = length_sum es in let more = sum_by-cons (λ (e : Entry). 1) e es in omega arith

pub length_marked : (marks : List Bool) (es : List Entry) (place : ℕ) → place < length marks → place < length es
    → get_or marks place false ≡ false → length (unpicked marks es) ≡ 1 + length (unpicked (set marks place true) es)
length_marked marks [] place m l fresh = absurd (omega arith)
length_marked marks (e ∷ es) place m l fresh =
    let before = length_sum (unpicked marks (e ∷ es)) in
    let after = length_sum (unpicked (set marks place true) (e ∷ es)) in
    let falls = sum_marked (λ e. 1) marks (e ∷ es) place e m l fresh in
    omega arith

-- where something is left, it has a place
some_place : (marks : List Bool) (es : List Entry) → 1 ≤ length (unpicked marks es) → (j : ℕ) × (j < length es) × (get_or marks j false ≡ false)
some_place marks [] h = absurd (omega arith)
some_place [] (e ∷ es) h = (0, omega arith, refl)
some_place (true ∷ marks) (e ∷ es) h = let s = some_place marks es h in (suc s.0, omega arith, s.2)
some_place (false ∷ marks) (e ∷ es) h = (0, omega arith, refl)

pub some_available : (marks : List Bool) (es : List Entry) → 1 ≤ length (unpicked marks es)
    → (j : ℕ) × (j < length es) × (available marks None j ≡ true)
some_available marks es h = let s = some_place marks es h in (s.0, s.1, ap (λ b. not b && true) s.2)

-- where two are left, one of them is another than this
pub other_available : (marks : List Bool) (es : List Entry) (first : ℕ) → first < length marks → first < length es
    → get_or marks first false ≡ false → 2 ≤ length (unpicked marks es) → (j : ℕ) × (j < length es) × (available marks (Some first) j ≡ true)
other_available marks es first m l fresh two =
    let falls = length_marked marks es first m l fresh in
    let s = some_place (set marks first true) es (omega arith) in
    let apart : s.0 ≡ first → ⊥ = λ e. true≢false (sym (get_or-set_same marks first true false m) ∙ ap (λ i. get_or (set marks first true) i false) (sym e) ∙ s.2) in
    let unmarked : get_or marks s.0 false ≡ false = sym (get_or-set_other marks first s.0 true false apart) ∙ s.2 in
    (s.0, s.1, and_from _ _ (ap not unmarked) (ap not (ne_eqb s.0 first apart)))
