-- A closure that is called with the lines of a reader, one after the other.
use Rattle.std.proofs.Common.{◌≡◌, ℕ, ◌+◌, ◌<◌, List, [], ◌∷◌, length, Some, None, Ok, Option, Result, Bor, IfSome, sym, refl, subst}
use Rattle.std.specs.Io.BufRead.{first_piece, drop_through, DropsThrough}
use Rattle.std.specs.Io.KnownBytes.{IsAtEnd}
use Rattle.lines.specs.Visits.{Lines, ReadsAs, Visits, VisitsLines}

module _ {F D E : Type 0} (called : F → ℕ → Result (Bor (List ℕ)) D → Result Unit E → F → Type 0) where
  -- n lines are behind g, and rest is not yet read: calls with the lines of rest make all calls that f was to get
  pub record Sofar (f : F) (bs : List ℕ) (g : F) (n : ℕ) (rest : List ℕ) : Type 0 where
    pub whole : (ls : List (List ℕ)) → Lines rest ls → Visits called g (n + 1) ls → VisitsLines called f bs

  -- the loop's invariant, where the bytes were known
  abbrev pub Keeps : Option (List ℕ) → Option (List ℕ) → (f g : F) (n : ℕ) → Type 0
  Keeps initial now f g n = IfSome initial (λ bs. (rest : List ℕ) × (now ≡ Some rest) × Sofar f bs g n rest)

  pub begins : (initial now : Option (List ℕ)) (f : F) (n : ℕ) → now ≡ initial → n ≡ 0 → Keeps initial now f f n
  begins None now f n e z = tt
  begins (Some bs) now f n e z =
      (bs, e, record { whole = λ ls are v. record { lines = ls; are = are; visits = subst (λ (m : ℕ). Visits called f (m + 1) ls) z v } })

  ended : (f g : F) (bs rest : List ℕ) (n : ℕ) → Sofar f bs g n rest → rest ≡ [] → VisitsLines called f bs
  unfolding Lines Visits
  ended f g bs rest n s e = s.whole [] e tt

  pub ends : (initial now : Option (List ℕ)) (f g : F) (n : ℕ) → Keeps initial now f g n → IsAtEnd now → IfSome initial (VisitsLines called f)
  ends None now f g n k e = tt
  ends (Some bs) now f g n k e = ended f g bs k.0 n k.2 (subst IsAtEnd k.1 e)

  one_more : (f g : F) (bs rest : List ℕ) (n : ℕ) (t : Result (Bor (List ℕ)) D) (h : F) → Sofar f bs g n rest → 0 < length rest
      → ReadsAs (first_piece 10 rest) t → called g (n + 1) t (Ok tt) h → Sofar f bs h (n + 1) (drop_through 10 rest)
  unfolding Lines Visits
  one_more f g bs rest n t h s some reads call = record {
    whole = λ ls are v. s.whole (first_piece 10 rest ∷ ls)
        (drop_through 10 rest, record { some = some; line = refl; rest_is = refl }, are) (t, h, reads, call, v);
  }

  -- what the next line of a reader is: `line`, where its bytes are known
  abbrev pub Took : Option (List ℕ) → Option (List ℕ) → List ℕ → Type 0
  Took now next line = IfSome now (λ xs. (0 < length xs) × (line ≡ first_piece 10 xs)) × DropsThrough now next 10

  goes : (initial now next : Option (List ℕ)) (f g h : F) (n : ℕ) (line : List ℕ) (t : Result (Bor (List ℕ)) D) → Keeps initial now f g n
      → Took now next line → ReadsAs line t → called g (n + 1) t (Ok tt) h → Keeps initial next f h (n + 1)
  goes None now next f g h n line t k took reads call = tt
  goes (Some bs) now next f g h n line t k took reads call =
      let known = subst (λ o. Took o next line) k.1 took in (
        drop_through 10 k.0,
        known.1,
        one_more f g bs k.0 n t h k.2 known.0.0 (subst (λ l. ReadsAs l t) known.0.1 reads) call,
      )

  pub goes_on : (initial now next : Option (List ℕ)) (f g h : F) (n i m : ℕ) (line : List ℕ) (t : Result (Bor (List ℕ)) D) → Keeps initial now f g n
      → Took now next line → ReadsAs line t → i ≡ n → m ≡ n + 1 → called g (i + 1) t (Ok tt) h → Keeps initial next f h m
  goes_on initial now next f g h n i m line t k took reads e z call =
      subst (λ (j : ℕ). Keeps initial next f h j) (sym z)
      (goes initial now next f g h n line t k took reads (subst (λ (j : ℕ). called g (j + 1) t (Ok tt) h) e call))
