-- Bytes one after the other.
use Rattle.std.proofs.Common.{◌≡◌, ℕ, ◌+◌, ◌<◌, ◌≤◌, List, [], ◌∷◌, ◌++◌, length, get_or, take, drop, sym, ap, ◌∙◌, subst, append_assoc, arith, take-append-drop, length-take-le, take_all}
use Rattle.std.proofs.lemmas.List.{take_more}
use Rattle.head_text.specs.Bytes.{Counts, Countless, Lists, FirstCountless}
use Rattle.head_text.specs.Drafts.{Word}

pub lists_none : (bs : List ℕ) → bs ≡ [] → Lists [] bs
unfolding Lists
lists_none [] e = tt
lists_none (b ∷ bs) e = let q : length (b ∷ bs) ≡ 0 = ap (length {A = ℕ}) e in omega (arith, q)

lists_push : (front : List Word) (bs : List ℕ) (w : Word) (b : ℕ) → Lists front bs → Counts w.now b → Lists (front ++ (w ∷ [])) (bs ++ (b ∷ []))
unfolding Lists
lists_push [] [] w b h x = (x, tt)
lists_push [] (c ∷ bs) w b h x = absurd h
lists_push (v ∷ front) [] w b h x = absurd h
lists_push (v ∷ front) (c ∷ bs) w b h x = (h.0, lists_push front bs w b h.1 x)

pub lists_more : (ws : List Word) (i : ℕ) (bs after : List ℕ) (w : Word) (b : ℕ) → i < length ws → Lists (take i ws) bs → Counts (get_or ws i w).now b → after ≡ bs ++ (b ∷ []) → Lists (take (i + 1) ws) after
lists_more ws i bs after w b h x y e =
    subst (λ (l : List ℕ). Lists (take (i + 1) ws) l) (sym e)
    (subst (λ (l : List Word). Lists l (bs ++ (b ∷ []))) (sym (take_more ws i w h)) (lists_push (take i ws) bs (get_or ws i w) b x y))

pub lists_wrong : (ws : List Word) (i : ℕ) (bs : List ℕ) (w : Word) → i < length ws → Lists (take i ws) bs → Countless (get_or ws i w).now → FirstCountless ws (i + 1)
lists_wrong ws i bs w h x y =
    let joined : ws ≡ (take i ws ++ (get_or ws i w ∷ [])) ++ drop (i + 1) ws =
    sym (take-append-drop (i + 1) ws) ∙ ap (λ (l : List Word). l ++ drop (i + 1) ws) (take_more ws i w h) in
    record {
      front = take i ws;
      w = get_or ws i w;
      back = drop (i + 1) ws;
      cut = joined ∙ append_assoc (take i ws) (get_or ws i w ∷ []) (drop (i + 1) ws);
      place = omega (arith, length-take-le i ws (omega arith));
      before = bs;
      well = x;
      wrong = y;
    }

pub lists_all : (ws : List Word) (i : ℕ) (bs : List ℕ) → length ws ≤ i → Lists (take i ws) bs → Lists ws bs
lists_all ws i bs h x = subst (λ (l : List Word). Lists l bs) (take_all i ws h) x
