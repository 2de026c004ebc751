-- Bytes as text.
use Rattle.std.specs.Prelude.{◌≡◌, ℕ, ◌+◌, ◌*◌, ◌<◌, ◌≤◌, ◌⊎◌, List, [], ◌∷◌, Some, None, Option, ◌≢◌}

-- the digit c has the value d: 0 to 9, A to F, a to f
abbrev pub Digit : (c d : ℕ) → Type 0
Digit c d = ((d < 10) × (c ≡ d + 48)) ⊎ ((10 ≤ d) × (d < 16) × (c ≡ d + 55)) ⊎ ((10 ≤ d) × (d < 16) × (c ≡ d + 87))

pub record NoDigit (c : ℕ) : Type 0 where
  pub never : (d : ℕ) → Digit c d → ⊥

-- two hex digits write b
pub record Hex (high low b : ℕ) : Type 0 where
  pub upper : ℕ
  pub lower : ℕ
  pub upper_is : Digit high upper
  pub lower_is : Digit low lower
  pub is : b ≡ 16 * upper + lower

pub record NoHex (high low : ℕ) : Type 0 where
  pub never : (b : ℕ) → Hex high low b → ⊥

-- a text writes b first, and then what `rest` writes: `%` and two hex digits, or any other byte by itself
abbrev pub First : (text : List ℕ) (b : ℕ) (rest : List ℕ) → Type 0
First text b rest = ((text ≡ b ∷ rest) × (b ≢ 37)) ⊎ ((high : ℕ) × (low : ℕ) × (text ≡ 37 ∷ high ∷ low ∷ rest) × Hex high low b)

pub record NoFirst (text : List ℕ) : Type 0 where
  pub never : (b : ℕ) (rest : List ℕ) → First text b rest → ⊥

-- a text writes these bytes
unfoldable pub Spells : (text bytes : List ℕ) → Type 0
Spells text [] = text ≡ []
Spells text (b ∷ bytes) = (rest : List ℕ) × First text b rest × Spells rest bytes

-- the bytes that a text writes, where it writes some
abbrev pub Spelled : (text : List ℕ) → Option (List ℕ) → Type 0
Spelled text None = (bytes : List ℕ) → Spells text bytes → ⊥
Spelled text (Some bytes) = Spells text bytes
