-- What a text writes, byte by byte.
use Rattle.std.proofs.Common.{◌≡◌, ℕ, ◌-◌, ◌<◌, ◌≤◌, List, [], ◌∷◌, ◌++◌, length, get_or, take, drop, sym, ap, ◌∙◌, subst, inl, inr, append_assoc, append-nil, arith}
use Rattle.std.proofs.lemmas.List.{nil_from_length, take_all}
use Rattle.std.proofs.lemmas.Slice.{first_rest}
use Rattle.head_text.specs.Texts.{NoDigit, Hex, NoHex, First, NoFirst, Spells}

pub no_upper : (high low : ℕ) → NoDigit high → NoHex high low
no_upper high low n = record { never = λ b h. n.never h.upper h.upper_is }

pub no_lower : (high low : ℕ) → NoDigit low → NoHex high low
no_lower high low n = record { never = λ b h. n.never h.lower h.lower_is }

-- a slice from its first bytes on
pub from_two : (xs : List ℕ) → 2 ≤ length xs → xs ≡ get_or xs 0 0 ∷ get_or xs 1 0 ∷ take (length xs - 2) (drop 2 xs)
from_two [] h = absurd (omega arith)
from_two (x ∷ []) h = absurd (omega arith)
from_two (x ∷ y ∷ xs) h = ap (λ (l : List ℕ). x ∷ y ∷ l) (sym (take_all (length (x ∷ y ∷ xs) - 2) xs (omega arith)))

pub first_hex : (first : ℕ) (rest : List ℕ) (high low : ℕ) (more : List ℕ) (b : ℕ) → first ≡ 37 → rest ≡ high ∷ low ∷ more → Hex high low b → First (first ∷ rest) b more
first_hex first rest high low more b p e h =
    let whole : first ∷ rest ≡ 37 ∷ high ∷ low ∷ more = cc in
    inr (high, low, whole, h)

pub no_first : (first : ℕ) (rest : List ℕ) (high low : ℕ) (more : List ℕ) → first ≡ 37 → rest ≡ high ∷ low ∷ more → NoHex high low → NoFirst (first ∷ rest)
no_first first rest high low more p e n = record {
  never = λ b r f. elim f [
    | inl x ↦ (let whole : first ∷ rest ≡ b ∷ r = x.0 in let is : b ≡ 37 = cc in x.1 is)
    | inr x ↦ (let whole : first ∷ rest ≡ 37 ∷ x.0 ∷ x.1 ∷ r = x.2 in
        let upper : x.0 ≡ high = cc in
        let lower : x.1 ≡ low = cc in
        n.never b (subst (λ (l : ℕ). Hex high l b) lower (subst (λ (h : ℕ). Hex h x.1 b) upper x.3)))
  ];
}

-- what stands behind the first byte is one text
first_one : (text : List ℕ) (a b : ℕ) (r s : List ℕ) → First text a r → First text b s → r ≡ s
first_one text a b r s (inl x) (inl y) =
    let p : text ≡ a ∷ r = x.0 in
    let q : text ≡ b ∷ s = y.0 in
    cc
first_one text a b r s (inl x) (inr y) =
    let p : text ≡ a ∷ r = x.0 in
    let q : text ≡ 37 ∷ y.0 ∷ y.1 ∷ s = y.2 in
    let is : a ≡ 37 = cc in
    absurd (x.1 is)
first_one text a b r s (inr x) (inl y) =
    let p : text ≡ 37 ∷ x.0 ∷ x.1 ∷ r = x.2 in
    let q : text ≡ b ∷ s = y.0 in
    let is : b ≡ 37 = cc in
    absurd (y.1 is)
first_one text a b r s (inr x) (inr y) =
    let p : text ≡ 37 ∷ x.0 ∷ x.1 ∷ r = x.2 in
    let q : text ≡ 37 ∷ y.0 ∷ y.1 ∷ s = y.2 in
    cc

first_some : (text : List ℕ) (b : ℕ) (r : List ℕ) → First text b r → text ≡ [] → ⊥
first_some text b r (inl x) e =
    let q : length {A = ℕ} [] ≡ length {A = ℕ} (b ∷ r) = ap (length {A = ℕ}) (sym e ∙ x.0) in
    omega (arith, q)
first_some text b r (inr x) e =
    let q : length {A = ℕ} [] ≡ length {A = ℕ} (37 ∷ x.0 ∷ x.1 ∷ r) = ap (length {A = ℕ}) (sym e ∙ x.2) in
    omega (arith, q)

behind_first : (text : List ℕ) (b : ℕ) (rest bytes : List ℕ) → First text b rest → Spells text bytes → (more : List ℕ) × Spells rest more
unfolding Spells
behind_first text b rest [] f s = absurd (first_some text b rest f s)
behind_first text b rest (a ∷ more) f s =
    (more, subst (λ (t : List ℕ). Spells t more) (first_one text a b s.0 rest s.1 f) s.2)

-- the loop's invariant: `seen` is what the text writes before `left`
pub record Sofar (text left seen : List ℕ) : Type 0 where
  pub ahead : (bytes : List ℕ) → Spells left bytes → Spells text (seen ++ bytes)
  pub back : (bytes : List ℕ) → Spells text bytes → (more : List ℕ) × Spells left more

pub start : (text : List ℕ) → Sofar text text []
start text = record { ahead = λ bytes s. s; back = λ bytes s. (bytes, s) }

module _ {text left seen : List ℕ} (old : Sofar text left seen) where
  one_more : {after : List ℕ} (b : ℕ) (rest : List ℕ) → First left b rest → after ≡ seen ++ (b ∷ []) → Sofar text rest after
  unfolding Spells
  one_more {after} b rest f e = record {
    ahead = λ bytes s.
        let whole : after ++ bytes ≡ seen ++ (b ∷ bytes) = ap (λ (l : List ℕ). l ++ bytes) e ∙ append_assoc seen (b ∷ []) bytes in
        subst (λ (l : List ℕ). Spells text l) (sym whole) (old.ahead (b ∷ bytes) (rest, f, s));
    back = λ bytes s. behind_first left b rest (old.back bytes s).0 f (old.back bytes s).1;
  }

  pub ends : length left < 1 → Spells text seen
  unfolding Spells
  ends h = subst (λ (l : List ℕ). Spells text l) (append-nil seen) (old.ahead [] (nil_from_length left (omega arith)))

  pub again : {after : List ℕ} (b : ℕ) (rest : List ℕ) → 1 ≤ length left → First (get_or left 0 0 ∷ take (length left - 1) (drop 1 left)) b rest → after ≡ seen ++ (b ∷ []) → Sofar text rest after
  again b rest h f e = one_more b rest (subst (λ (l : List ℕ). First l b rest) (sym (first_rest left 0 h)) f) e

  spells_none : (bytes : List ℕ) → NoFirst left → 1 ≤ length left → Spells left bytes → ⊥
  unfolding Spells
  spells_none [] n h s = let q : length left ≡ 0 = ap (length {A = ℕ}) s in omega (arith, q)
  spells_none (b ∷ bytes) n h s = n.never b s.0 s.1

  pub refuses : 1 ≤ length left → NoFirst (get_or left 0 0 ∷ take (length left - 1) (drop 1 left)) → (bytes : List ℕ) → Spells text bytes → ⊥
  refuses h n bytes s =
      spells_none (old.back bytes s).0 (subst (λ (l : List ℕ). NoFirst l) (sym (first_rest left 0 h)) n) h (old.back bytes s).1
