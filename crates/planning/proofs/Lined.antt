-- The words of a line, as `split_whitespace` and `take_while` give them.
use Rattle.std.proofs.Common.{◌≡◌, ℕ, Bool, true, false, List, [], ◌∷◌, Some, None, Option, Bor, MatchOption, MatchBool, inl, inr, subst, sym, arith}
use Rattle.std.proofs.lemmas.Bool.{MatchBool-at_false}
use Rattle.std.specs.Fn.{Mut, CalledAt}
use Rattle.std.specs.Iterator.{Yields}
use Rattle.std.specs.Iterator.Adapters.{take_while_steps, take_while_source, take_while_done, take_while_callee}
use Rattle.std.specs.Str.Iter.{split_whitespace_rest, split_whitespace_steps}
use Rattle.std.specs.declared.iter.TakeWhile.{TakeWhile}
use Rattle.std.specs.declared.str.SplitWhitespace.{SplitWhitespace}
use Rattle.lines.specs.Words.{Word, Hashed, Plain}
use Rattle.planning.specs.Lines.{FirstWord, LineOf}

first_of : (s t : SplitWhitespace) (w : Word) → split_whitespace_steps s (Some w) t → FirstWord (split_whitespace_rest s) w.now (split_whitespace_rest t)
first_of s t w cut = record { gap = cut.0; cut = cut.1; some = cut.2; blank = cut.3; solid = cut.4; ends = cut.5 }

failed : (w : Word) (b : Bool) (P Q : Type 0) → MatchBool b (Plain w.now) (Hashed w.now) → MatchBool b ((◌≡◌ {A = Option Word} None (Some w)) × P) Q → Hashed w.now
failed w true P Q h m = let z : ◌≡◌ {A = ℕ} 0 1 = cc m.0 in absurd (omega arith)
failed w false P Q h m = h

passed : (v w : Word) (b : Bool) (P Q : Type 0) → MatchBool b (Plain v.now) (Hashed v.now) → MatchBool b ((◌≡◌ {A = Option Word} (Some w) (Some v)) × P) ((◌≡◌ {A = Option Word} (Some w) None) × Q) → (w ≡ v) × P × Plain w.now
passed v w true P Q h m = let e : w ≡ v = cc m.0 in (e, m.1, subst (λ x. Plain x.now) (sym e) h)
passed v w false P Q h m = let z : ◌≡◌ {A = ℕ} 0 1 = cc m.0 in absurd (omega arith)

-- `tests` is what the closure says of a word
module _ {F : Type 0} (g : Mut F (Bor Word × Unit {0}) Bool)
    (tests : (f : F) (w : Word) (b : Bool) (h : F) → CalledAt g f w b h → MatchBool b (Plain w.now) (Hashed w.now)) where
  abbrev pub Steps : TakeWhile SplitWhitespace F → Option Word → TakeWhile SplitWhitespace F → Type 0
  Steps s r t = take_while_steps split_whitespace_steps g s r t

  abbrev pub rest_of : TakeWhile SplitWhitespace F → List ℕ
  rest_of s = split_whitespace_rest (take_while_source s)

  abbrev Answered : (s t : TakeWhile SplitWhitespace F) → Option Word → Word → Type 0
  Answered s t r v = (b : Bool) × CalledAt g (take_while_callee s) v b (take_while_callee t)
      × MatchBool b ((r ≡ Some v) × (take_while_done t ≡ false)) ((r ≡ None) × (take_while_done t ≡ true))

  stopped_at : (s t : TakeWhile SplitWhitespace F) (o : Option Word) → split_whitespace_steps (take_while_source s) o (take_while_source t)
      → MatchOption o ((◌≡◌ {A = Option Word} None None) × (take_while_done t ≡ false)) (Answered s t None) → LineOf (rest_of s) []
  stopped_at s t None step m = inl step.1
  stopped_at s t (Some v) step m = inr (v.now, rest_of t, first_of (take_while_source s) (take_while_source t) v step, failed v m.0 _ _ (tests _ v m.0 _ m.1) m.2)

  went_at : (s t : TakeWhile SplitWhitespace F) (w : Word) (o : Option Word) → split_whitespace_steps (take_while_source s) o (take_while_source t)
      → MatchOption o ((Some w ≡ None) × (take_while_done t ≡ false)) (Answered s t (Some w))
      → (take_while_done t ≡ false) × FirstWord (rest_of s) w.now (rest_of t) × Plain w.now
  went_at s t w None step m = let z : ◌≡◌ {A = ℕ} 0 1 = cc m.0 in absurd (omega arith)
  went_at s t w (Some v) step m =
      let p = passed v w m.0 _ _ (tests _ v m.0 _ m.1) m.2 in
      (p.1, subst (λ (x : Word). FirstWord (rest_of s) x.now (rest_of t)) (sym p.0) (first_of (take_while_source s) (take_while_source t) v step), p.2)

  stopped : (s t : TakeWhile SplitWhitespace F) → take_while_done s ≡ false → Steps s None t → LineOf (rest_of s) []
  stopped s t d step = let q = MatchBool-at_false _ _ d step in stopped_at s t q.0 q.1 q.2

  went : (s t : TakeWhile SplitWhitespace F) (w : Word) → take_while_done s ≡ false → Steps s (Some w) t
      → (take_while_done t ≡ false) × FirstWord (rest_of s) w.now (rest_of t) × Plain w.now
  went s t w d step = let q = MatchBool-at_false _ _ d step in went_at s t w q.0 q.1 q.2

  lined : (ws : List Word) (s t u : TakeWhile SplitWhitespace F) → take_while_done s ≡ false → Yields Steps s ws t → Steps t None u → LineOf (rest_of s) ws
  lined [] s t u d y e = stopped s u d (subst (λ v. Steps v None u) (sym y) e)
  lined (w ∷ ws) s t u d y e =
      let here = went s y.0 w d y.1 in
      (rest_of y.0, here.1, here.2, lined ws y.0 t u here.0 y.2 e)

  -- what `collect` made
  pub collected : (line : List ℕ) (ws items : List Word) (s t u : TakeWhile SplitWhitespace F) → rest_of s ≡ line → items ≡ ws
      → take_while_done s ≡ false → Yields Steps s ws t → Steps t None u → LineOf line items
  collected line ws items s t u l i d y e =
      subst (λ (v : List ℕ). LineOf v items) l (subst (λ (v : List Word). LineOf (rest_of s) v) (sym i) (lined ws s t u d y e))
