-- What one word says.
use Rattle.std.specs.Prelude.{◌≡◌, ℕ, ◌^◌, ◌<◌, List, length, ◌≢◌, slice_index, slice_index_or}
use Rattle.std.specs.Borrow.{Bor}
use Rattle.std.specs.Str.Parse.{IsNumeral, digits_value, without_leading_plus}

-- a word: its bytes are its `now`
abbrev pub Word : Type 0
Word = Bor (List ℕ)

-- w begins with `#`
pub record Hashed (w : List ℕ) : Type 0 where
  pub some : 0 < length w
  pub first : slice_index_or w 0 0 ≡ 35

-- it does not
pub record Plain (w : List ℕ) : Type 0 where
  pub first : 0 < length w → slice_index w 0 ≢ 35

-- the word writes n in decimal digits, as Rust reads them: a plus sign may stand before them
pub record Number (w : List ℕ) (n : ℕ) : Type 0 where
  pub digits : IsNumeral 10 (without_leading_plus w)
  pub is : n ≡ digits_value 10 (without_leading_plus w)
  pub fits : n < 2 ^ 64

-- the word writes no number of 64 bits
pub record NoNumber (w : List ℕ) : Type 0 where
  pub none : (n : ℕ) → Number w n → ⊥
