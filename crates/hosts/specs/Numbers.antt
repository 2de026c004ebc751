-- Where the numbers of a host come from.
use Rattle.std.specs.Prelude.{◌≡◌, ℕ, ◌+◌, ◌%◌, ◌^◌, ◌<◌, List, drop, ℤ, pos, ◌+ℤ◌, ◌*ℤ◌, slice_index_or}

-- r is what is left of x after taking off a multiple of n, from 0 to before n; where n is 0, it is 0
pub record LeftOver (x : ℤ) (n r : ℕ) : Type 0 where
  pub below : 0 < n → r < n
  pub multiple : ℤ
  pub is : 0 < n → x ≡ (multiple *ℤ pos n) +ℤ pos r
  pub nothing : n ≡ 0 → r ≡ 0

-- a counter from 0 to 2^63 - 1 and round
abbrev pub counted_on : ℕ → ℕ
counted_on n = (n + 1) % 2 ^ 63

-- the first number that is left of a list, and 0 where none is
abbrev pub first_number : List ℤ → ℤ
first_number xs = slice_index_or xs 0 (pos 0)

-- what is left behind it
abbrev pub numbers_left : List ℤ → List ℤ
numbers_left xs = drop 1 xs

-- the number at a place of a list, past its end 0
abbrev pub number_at : List ℤ → ℕ → ℤ
number_at xs i = slice_index_or xs i (pos 0)

-- taking the first number again and again gives the numbers of a list in their order, past its end 0
abbrev pub TakenInOrder : Type 0
TakenInOrder = (xs : List ℤ) (i : ℕ) → (first_number (drop i xs) ≡ number_at xs i) × (numbers_left (drop i xs) ≡ drop (i + 1) xs)
