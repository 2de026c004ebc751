-- The stored form of what a head holds. A length is at most 64, so that its number is one group, itself.
use Rattle.std.specs.Prelude.{◌≡◌, ℕ, ◌+◌, ◌≤◌, List, [], ◌∷◌, ◌++◌, length, take, drop, Some, None, Option, ◌≢◌}

-- a key or a value: its length and its bytes
abbrev pub sized : List ℕ → List ℕ
sized bs = length bs ∷ bs

-- an e_tag or a version: 0 where it is absent, else its length plus 1 and its bytes
abbrev pub label_form : Option (List ℕ) → List ℕ
label_form None = 0 ∷ []
label_form (Some bs) = (length bs + 1) ∷ bs

-- bs was written at `at`, and ends before `next`; all else is as it was
pub record Wrote (out : List ℕ) (at : ℕ) (bs : List ℕ) (next : ℕ) (after : List ℕ) : Type 0 where
  pub place : next ≡ at + length bs
  pub joined : after ≡ take at out ++ (bs ++ drop next out)

-- a key or value of `least` to `most` bytes comes first, and `rest` is behind it
pub record SizedFirst (bytes : List ℕ) (least most : ℕ) (bs rest : List ℕ) : Type 0 where
  pub enough : least ≤ length bs
  pub few : length bs ≤ most
  pub joined : bytes ≡ sized bs ++ rest

-- none does
pub record NoSized (bytes : List ℕ) (least most : ℕ) : Type 0 where
  pub never : (bs rest : List ℕ) → least ≤ length bs → length bs ≤ most → bytes ≢ sized bs ++ rest

-- within the limit of an e_tag or a version
abbrev pub LabelWithin : Option (List ℕ) → Type 0
LabelWithin None = Unit {0}
LabelWithin (Some bs) = length bs ≤ 64

-- an e_tag or a version comes first, and `rest` is behind it
pub record LabelFirst (bytes : List ℕ) (l : Option (List ℕ)) (rest : List ℕ) : Type 0 where
  pub within : LabelWithin l
  pub joined : bytes ≡ label_form l ++ rest

-- none does
pub record NoLabel (bytes : List ℕ) : Type 0 where
  pub never : (l : Option (List ℕ)) (rest : List ℕ) → LabelWithin l → bytes ≢ label_form l ++ rest

-- a number of attributes comes first, and `rest` is behind it
pub record CountFirst (bytes : List ℕ) (count : ℕ) (rest : List ℕ) : Type 0 where
  pub few : count ≤ 8
  pub joined : bytes ≡ count ∷ rest

-- none does
pub record NoCount (bytes : List ℕ) : Type 0 where
  pub never : (count : ℕ) (rest : List ℕ) → count ≤ 8 → bytes ≢ count ∷ rest
