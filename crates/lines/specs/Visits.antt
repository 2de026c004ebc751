-- The lines of bytes, and a closure that is called with each of them.
use Rattle.std.specs.Prelude.{◌≡◌, ℕ, ◌+◌, ◌<◌, List, [], ◌∷◌, length, Ok, Result, MatchResult}
use Rattle.std.specs.Borrow.{Bor}
use Rattle.std.specs.Io.BufRead.{first_piece, drop_through}
use Rattle.std.specs.Str.{IsUtf8}

-- l is the first line of bs, without its line feed, and rest stands behind it
pub record FirstLine (bs l rest : List ℕ) : Type 0 where
  pub some : 0 < length bs
  pub line : l ≡ first_piece 10 bs
  pub rest_is : rest ≡ drop_through 10 bs

-- ls are the lines of bs; what stands behind the last line feed is one too, unless it is empty
unfoldable pub Lines : (bs : List ℕ) (ls : List (List ℕ)) → Type 0
Lines bs [] = bs ≡ []
Lines bs (l ∷ ls) = (rest : List ℕ) × FirstLine bs l rest × Lines rest ls

-- t is the line as text, or says that it is none
abbrev pub ReadsAs : {E : Type 0} → List ℕ → Result (Bor (List ℕ)) E → Type 0
ReadsAs l t = MatchResult t (λ s. (s.now ≡ l) × IsUtf8 l) (λ _. ¬ (IsUtf8 l))

module _ {F D E : Type 0} (called : F → ℕ → Result (Bor (List ℕ)) D → Result Unit E → F → Type 0) where
  -- the closure was called with each line and its number, from n on, and never failed
  unfoldable pub Visits : F → ℕ → List (List ℕ) → Type 0
  Visits f n [] = Unit {0}
  Visits f n (l ∷ ls) = (t : Result (Bor (List ℕ)) D) × (g : F) × ReadsAs l t × called f n t (Ok tt) g × Visits g (n + 1) ls

  -- it was called with all lines of bs
  pub record VisitsLines (f : F) (bs : List ℕ) : Type 0 where
    pub lines : List (List ℕ)
    pub are : Lines bs lines
    pub visits : Visits f 1 lines
