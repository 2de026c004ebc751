-- The words of a line, up to its comment.
use Rattle.std.specs.Prelude.{◌≡◌, ℕ, ◌<◌, ◌⊎◌, List, [], ◌∷◌, ◌++◌, length}
use Rattle.std.specs.Char.{is_whitespace, is_not_whitespace}
use Rattle.std.specs.Str.{NoCharPasses, EmptyOrStartsWithPassing}
use Rattle.lines.specs.Words.{Word, Hashed, Plain}

-- bs is white space, the word w, and rest, which is empty or begins with white space
pub record FirstWord (bs w rest : List ℕ) : Type 0 where
  pub gap : List ℕ
  pub cut : bs ≡ gap ++ (w ++ rest)
  pub some : 0 < length w
  pub blank : NoCharPasses is_not_whitespace gap
  pub solid : NoCharPasses is_whitespace w
  pub ends : (more : List ℕ) × EmptyOrStartsWithPassing is_whitespace rest more

-- ws are the words of bs before the first that begins with `#`
abbrev pub LineOf : List ℕ → List Word → Type 0
LineOf bs [] = NoCharPasses is_not_whitespace bs ⊎ ((w : List ℕ) × (rest : List ℕ) × FirstWord bs w rest × Hashed w)
LineOf bs (w ∷ ws) = (rest : List ℕ) × FirstWord bs w.now rest × Plain w.now × LineOf rest ws
