-- Words one after the other.
use Rattle.std.proofs.Common.{◌≡◌, ℕ, ◌+◌, ◌<◌, ◌≤◌, List, [], ◌∷◌, ◌++◌, length, get_or, take, drop, Ok, Err, Result, sym, refl, ap, ◌∙◌, subst, inl, inr, append_assoc, arith, take-append-drop, length-take-le, take_all}
use Rattle.std.proofs.lemmas.List.{take_more}
use Rattle.records.specs.declared.head.Head.{Head}
use Rattle.head_text.specs.declared.draft.Draft.{Draft}
use Rattle.head_text.specs.declared.no_head.NoHead.{NoHead}
use Rattle.head_text.specs.declared.no_head.NoHead.TheVariants as no_head
use Rattle.head_text.specs.declared.no_head.Wrong.{Wrong}
use Rattle.head_text.specs.Drafts.{Word, Blank, WordRead, Reads, DraftRead, HeadRead}

pub reads_none : (d : Draft) → Reads d [] d
unfolding Reads
reads_none d = refl

reads_push : (d m e : Draft) (front : List Word) (w : Word) → Reads d front m → WordRead m w.now (Ok e) → Reads d (front ++ (w ∷ [])) e
unfolding Reads
reads_push d m e [] w h x = (e, subst (λ (b : Draft). WordRead b w.now (Ok e)) h x, refl)
reads_push d m e (v ∷ front) w h x = (h.0, h.1, reads_push h.0 m e front w h.2 x)

pub reads_more : (d m e : Draft) (ws : List Word) (i : ℕ) (w : Word) → i < length ws → Reads d (take i ws) m → WordRead m (get_or ws i w).now (Ok e) → Reads d (take (i + 1) ws) e
reads_more d m e ws i w h x y =
    subst (λ (l : List Word). Reads d l e) (sym (take_more ws i w h)) (reads_push d m e (take i ws) (get_or ws i w) x y)

pub wrong_at : (d m : Draft) (ws : List Word) (i : ℕ) (w : Word) (e : Wrong) → Blank d → i < length ws → Reads d (take i ws) m → WordRead m (get_or ws i w).now (Err e) → HeadRead ws (Err (no_head.Word (i + 1) e))
wrong_at d m ws i w e b h x y =
    let joined : ws ≡ (take i ws ++ (get_or ws i w ∷ [])) ++ drop (i + 1) ws =
    sym (take-append-drop (i + 1) ws) ∙ ap (λ (l : List Word). l ++ drop (i + 1) ws) (take_more ws i w h) in
    record {
      first = d;
      blank = b;
      reads = inl (
        i + 1,
        e,
        record {
          front = take i ws;
          w = get_or ws i w;
          back = drop (i + 1) ws;
          cut = joined ∙ append_assoc (take i ws) (get_or ws i w ∷ []) (drop (i + 1) ws);
          place = omega (arith, length-take-le i ws (omega arith));
          before = m;
          well = x;
          wrong = y;
        },
        refl,
      );
    }

pub reads_all : (d m : Draft) (ws : List Word) (i : ℕ) (r : Result Head NoHead) → Blank d → length ws ≤ i → Reads d (take i ws) m → DraftRead m r → HeadRead ws r
reads_all d m ws i r b h x y =
    record { first = d; blank = b; reads = inr (m, subst (λ (l : List Word). Reads d l m) (take_all i ws h) x, y) }
