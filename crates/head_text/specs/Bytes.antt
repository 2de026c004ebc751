-- Bytes as decimal numbers.
use Rattle.std.specs.Prelude.{◌≡◌, ℕ, ◌+◌, ◌<◌, List, [], ◌∷◌, ◌++◌, length}
use Rattle.std.specs.Str.Parse.{IsNumeral, digits_value, without_leading_plus}
use Rattle.head_text.specs.Drafts.{Word}

-- the word writes the byte b in decimal digits, as Rust reads them: a plus sign may stand before them
pub record Counts (w : List ℕ) (b : ℕ) : Type 0 where
  pub digits : IsNumeral 10 (without_leading_plus w)
  pub is : b ≡ digits_value 10 (without_leading_plus w)
  pub fits : b < 256

-- the word writes no byte
pub record Countless (w : List ℕ) : Type 0 where
  pub never : (b : ℕ) → Counts w b → ⊥

-- each word writes one of the bytes
unfoldable pub Lists : List Word → List ℕ → Type 0
Lists [] [] = Unit {0}
Lists [] (b ∷ bs) = ⊥
Lists (w ∷ ws) [] = ⊥
Lists (w ∷ ws) (b ∷ bs) = Counts w.now b × Lists ws bs

-- word number n is the first that writes none
pub record FirstCountless (ws : List Word) (n : ℕ) : Type 0 where
  pub front : List Word
  pub w : Word
  pub back : List Word
  pub cut : ws ≡ front ++ (w ∷ back)
  pub place : n ≡ length front + 1
  pub before : List ℕ
  pub well : Lists front before
  pub wrong : Countless w.now
