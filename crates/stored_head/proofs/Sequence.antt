-- One form after another, and that no stored form begins another.
use Rattle.std.proofs.Common.{◌≡◌, ℕ, ◌+◌, ◌≤◌, List, [], ◌∷◌, ◌++◌, length, take, drop, Some, None, Option, sym, refl, ap, ◌∙◌, append_assoc, arith, length-append}
use Rattle.std.proofs.lemmas.List.{take_at, drop_at, drop-drop, length-take-le, take-append-drop}
use Rattle.stored_head.specs.Forms.{sized, label_form, Wrote}

pub wrote_none : (out : List ℕ) (at : ℕ) → Wrote out at [] at out
wrote_none out at = record { place = omega arith; joined = sym (take-append-drop at out) }

pub wrote_then : (out : List ℕ) (at : ℕ) (a : List ℕ) (middle : ℕ) (half b : List ℕ) (next : ℕ) (after : List ℕ) → at ≤ length out
    → Wrote out at a middle half → Wrote half middle b next after → Wrote out at (a ++ b) next after
wrote_then out at a middle half b next after h x y =
    let front : List ℕ = take at out in
    let long : length (front ++ a) ≡ middle = length-append front a ∙ omega (arith, length-take-le at out h, x.place) in
    let half_is : half ≡ (front ++ a) ++ drop middle out = x.joined ∙ sym (append_assoc front a (drop middle out)) in
    let first : take middle half ≡ front ++ a = ap (take middle) half_is ∙ take_at (front ++ a) (drop middle out) middle long in
    let on : drop middle half ≡ drop middle out = ap (drop middle) half_is ∙ drop_at (front ++ a) (drop middle out) middle long in
    let behind : drop next half ≡ drop next out =
    ap (λ n. drop n half) y.place ∙ sym (drop-drop (length b) middle half) ∙ ap (drop (length b)) on ∙ drop-drop (length b) middle out
    ∙ ap (λ n. drop n out) (sym y.place) in
    let last : after ≡ take middle half ++ (b ++ drop next half) = y.joined in
    let left : (front ++ a) ++ (b ++ drop next out) ≡ front ++ (a ++ (b ++ drop next out)) = append_assoc front a (b ++ drop next out) in
    let right : (a ++ b) ++ drop next out ≡ a ++ (b ++ drop next out) = append_assoc a b (drop next out) in
    record { place = omega (arith, length-append a b, x.place, y.place); joined = cc }

pub wrote_two : (out : List ℕ) (at : ℕ) (a : List ℕ) (first : ℕ) (one b : List ℕ) (second : ℕ) (two d : List ℕ) (next : ℕ) (after : List ℕ) → at ≤ length out → first ≤ length one
    → Wrote out at a first one → Wrote one first b second two → Wrote two second d next after → Wrote out at (a ++ (b ++ d)) next after
wrote_two out at a first one b second two d next after h k x y z =
    wrote_then out at a first one (b ++ d) next after h x (wrote_then one first b second two d next after k y z)

-- fronts of one length are one
pub same_fronts : (a b r s : List ℕ) → length a ≡ length b → a ++ r ≡ b ++ s → (a ≡ b) × (r ≡ s)
same_fronts [] [] r s l e = (refl, e)
same_fronts [] (y ∷ b) r s l e = absurd (omega arith)
same_fronts (x ∷ a) [] r s l e = absurd (omega arith)
same_fronts (x ∷ a) (y ∷ b) r s l e =
    let heads : x ≡ y = cc in
    let tails : a ++ r ≡ b ++ s = cc in
    let rest = same_fronts a b r s (omega arith) tails in
    let fronts : a ≡ b = rest.0 in
    (cc, rest.1)

-- no key or value begins another, and no e_tag or version
pub sized_free : (a b r s : List ℕ) → sized a ++ r ≡ sized b ++ s → (a ≡ b) × (r ≡ s)
sized_free a b r s e =
    let marks : length a ≡ length b = cc in
    let behind : a ++ r ≡ b ++ s = cc in
    same_fronts a b r s marks behind

pub label_free : (a b : Option (List ℕ)) (r s : List ℕ) → label_form a ++ r ≡ label_form b ++ s → (a ≡ b) × (r ≡ s)
label_free None None r s e = (refl, cc)
label_free None (Some b) r s e = let mark : ◌≡◌ {A = ℕ} 0 (length b + 1) = cc in absurd (omega arith)
label_free (Some a) None r s e = let mark : ◌≡◌ {A = ℕ} (length a + 1) 0 = cc in absurd (omega arith)
label_free (Some a) (Some b) r s e =
    let marks : length a + 1 ≡ length b + 1 = cc in
    let behind : a ++ r ≡ b ++ s = cc in
    let same = same_fronts a b r s (omega arith) behind in
    (ap Some same.0, same.1)
