-- Numbers as bytes in a slice.
use Rattle.std.specs.Prelude.{ℕ, ◌/◌, ◌%◌, ◌^◌, List, [], ◌∷◌}
use Rattle.std.specs.List.{flat_map}

-- a number below 2^64 as eight bytes, low byte first
abbrev pub low_first : ℕ → List ℕ
low_first n =
    (n % 256) ∷ (n / 256 % 256) ∷ (n / 256 ^ 2 % 256) ∷ (n / 256 ^ 3 % 256) ∷ (n / 256 ^ 4 % 256) ∷ (n / 256 ^ 5 % 256) ∷ (n / 256 ^ 6 % 256)
    ∷ (n / 256 ^ 7 % 256) ∷ []

-- numbers one after the other
unfoldable pub in_bytes : List ℕ → List ℕ
in_bytes ns = flat_map low_first ns
