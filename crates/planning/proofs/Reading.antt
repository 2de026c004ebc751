-- What is read is what the words say, and words that say a request are read.
use Rattle.std.proofs.Common.{◌≡◌, ℕ, List, [], ◌∷◌, get_or, Ok, Err, codes, Result, sym, refl, ap, ◌∙◌, subst, inl, inr, ⊎_elim, arith}
use Rattle.ranges.specs.declared.get_range.GetRange.{GetRange}
use Rattle.ranges.specs.declared.get_range.GetRange.TheVariants.{All, Bounded, Offset, Suffix}
use Rattle.planning.specs.declared.request.Field.{Field}
use Rattle.planning.specs.declared.request.Field.TheVariants as field
use Rattle.planning.specs.declared.request.NoRequest.{NoRequest}
use Rattle.planning.specs.declared.request.NoRequest.TheVariants.{BadPartSize}
use Rattle.ranges.specs.Rounding.{PartSized}
use Rattle.planning.specs.declared.request.Request.{Request}
use Rattle.planning.specs.Grammar.{texts, Says, SaysRequest, Exact}
use Rattle.lines.specs.Words.{Word, Number}
use Rattle.planning.specs.Words.{First, Done, AfterTail, AfterTo, StartThen, AfterStart, AfterFrom, RangeThen, RangeOf, Sized, AfterPart, AfterSize, RequestOf}

ok_same : {A E : Type 0} (x y : A) → ◌≡◌ {A = Result A E} (Ok x) (Ok y) → x ≡ y
ok_same x y e = cc

ok_err : {A E : Type 0} (x : A) (f : E) → ◌≡◌ {A = Result A E} (Ok x) (Err f) → ⊥
ok_err x f e = let z : ◌≡◌ {A = ℕ} 0 1 = cc in omega arith

first_ok : {A : Type 0} (f : Field) (ws : List Word) (More : ℕ → List Word → Result A NoRequest → Type 0) (x : A) → First f ws More (Ok x) → (w : Word) × (rest : List Word) × (n : ℕ) × (ws ≡ w ∷ rest) × Number w.now n × More n rest (Ok x)
first_ok f [] More x (inl z) = absurd (ok_err x z.0 z.2)
first_ok f [] More x (inr z) = absurd z.2
first_ok f (w ∷ ws) More x (inl z) = absurd (ok_err x z.0 z.2)
first_ok f (w ∷ ws) More x (inr z) = (w, ws, z.0, refl, z.2.0, subst (λ (v : List Word). More z.0 v (Ok x)) z.2.1 z.3)

done_ok : (g h : GetRange) (ws : List Word) → Done g ws (Ok h) → (ws ≡ []) × (h ≡ g)
done_ok g h [] e = (refl, ok_same h g e)
done_ok g h (w ∷ ws) e = absurd (ok_err h _ e)

tail_ok : (ws : List Word) (g : GetRange) → AfterTail ws (Ok g) → (a : List ℕ) × (n : ℕ) × (texts ws ≡ a ∷ []) × Number a n × (g ≡ Suffix n)
tail_ok ws g h =
    let z = first_ok field.Length ws (λ length rest s. Done (Suffix length) rest s) g h.reads in
    let d = done_ok (Suffix z.2) g z.1 z.5 in
    (z.0.now, z.2, ap texts z.3 ∙ ap (λ (v : List Word). z.0.now ∷ texts v) d.0, z.4, d.1)

to_ok : (start : ℕ) (ws : List Word) (g : GetRange) → AfterTo start ws (Ok g) → (b : List ℕ) × (n : ℕ) × (texts ws ≡ b ∷ []) × Number b n × (g ≡ Bounded start n)
to_ok start ws g h =
    let z = first_ok field.End ws (λ end rest s. Done (Bounded start end) rest s) g h.reads in
    let d = done_ok (Bounded start z.2) g z.1 z.5 in
    (z.0.now, z.2, ap texts z.3 ∙ ap (λ (v : List Word). z.0.now ∷ texts v) d.0, z.4, d.1)

start_ok : (a : List ℕ) (start : ℕ) (ws : List Word) (g : GetRange) → Number a start → StartThen start ws (Ok g) → Says g (codes "from" ∷ a ∷ texts ws)
start_ok a start [] g m e = subst (λ (h : GetRange). Says h (codes "from" ∷ a ∷ [])) (sym (ok_same g (Offset start) e)) (a, refl, m)
start_ok a start (w ∷ ws) g m (inl z) =
    let t = to_ok start ws g z.1 in
    subst (λ (h : GetRange). Says h (codes "from" ∷ a ∷ w.now ∷ texts ws)) (sym t.4) (a, t.0, cc (z.0, t.2), m, t.3)
start_ok a start (w ∷ ws) g m (inr z) = absurd (ok_err g _ z.1)

from_ok : (ws : List Word) (g : GetRange) → AfterFrom ws (Ok g) → Says g (codes "from" ∷ texts ws)
from_ok ws g h =
    let z = first_ok field.Start ws AfterStart g h.reads in
    subst (λ (v : List Word). Says g (codes "from" ∷ texts v)) (sym z.3) (start_ok z.0.now z.2 z.1 g z.4 z.5.reads)

range_reads : (ws : List Word) (g : GetRange) → RangeThen ws (Ok g) → Says g (texts ws)
range_reads [] g z = absurd (ok_err g _ z)
range_reads (w ∷ ws) g (inl z) =
    let d = done_ok All g ws z.1 in
    subst (λ (x : GetRange). Says x (w.now ∷ texts ws)) (sym d.1) (cc (z.0, ap texts d.0))
range_reads (w ∷ ws) g (inr (inl z)) = subst (λ (v : List ℕ). Says g (v ∷ texts ws)) (sym z.0) (from_ok ws g z.1)
range_reads (w ∷ ws) g (inr (inr (inl z))) =
    let t = tail_ok ws g z.1 in
    subst (λ (x : GetRange). Says x (w.now ∷ texts ws)) (sym t.4) (t.0, cc (z.0, t.2), t.3)
range_reads (w ∷ ws) g (inr (inr (inr z))) = absurd (ok_err g _ z.3)

range_ok : (ws : List Word) (g : GetRange) → RangeOf ws (Ok g) → Says g (texts ws)
range_ok ws g h = range_reads ws g h.reads

-- the request that is read after the two sizes
part_ok : (size p : ℕ) (ws : List Word) (q : Request) → AfterPart size p ws (Ok q) → (q.object_size ≡ size) × (q.part_size.bytes ≡ p) × Says q.range (texts ws)
part_ok size p ws q h =
    ⊎_elim (λ (z : (PartSized p → ⊥) × (◌≡◌ {A = Result Request NoRequest} (Ok q) (Err (BadPartSize (record { requested = p }))))). absurd (ok_err q _ z.1))
    (λ (z : PartSized p × Sized size p ws (Ok q)). (z.1.0, z.1.1, range_ok ws q.range z.1.2))
    h.reads

pub request_ok : (ws : List Word) (q : Request) → RequestOf ws (Ok q) → SaysRequest (texts ws) q
request_ok ws q h =
    let z = first_ok field.ObjectSize ws AfterSize q h.reads in
    let y = first_ok field.PartSize z.1 (AfterPart z.2) q z.5.reads in
    let x = part_ok z.2 y.2 y.1 q y.5 in
    record {
      size = z.0.now;
      part = y.0.now;
      range = texts y.1;
      line = ap texts z.3 ∙ ap (λ (v : List Word). z.0.now ∷ texts v) y.3;
      of_size = subst (λ (n : ℕ). Number z.0.now n) (sym x.0) z.4;
      of_part = subst (λ (n : ℕ). Number y.0.now n) (sym x.1) y.4;
      of_range = x.2;
    }

err_ok : {A E : Type 0} (x : A) (f : E) → ◌≡◌ {A = Result A E} (Err f) (Ok x) → ⊥
err_ok x f e = ok_err x f (sym e)

nothing : {A : Type 0} (x : A) (xs : List A) → x ∷ xs ≡ [] → ⊥
nothing x xs e = let z : ◌≡◌ {A = ℕ} 0 1 = cc in omega arith

head_same : {A : Type 0} (x y : A) (xs ys : List A) → x ∷ xs ≡ y ∷ ys → x ≡ y
head_same x y xs ys e = cc

rest_same : {A : Type 0} (x y : A) (xs ys : List A) → x ∷ xs ≡ y ∷ ys → xs ≡ ys
rest_same x y xs ys e = cc

number_same : (w : List ℕ) (m n : ℕ) → Number w m → Number w n → m ≡ n
number_same w m n a b = a.is ∙ sym b.is

-- words that begin differently
other_word : (v w : List ℕ) → v ≡ w → (get_or v 0 0 ≡ get_or w 0 0 → ⊥) → ⊥
other_word v w e n = n (ap (λ (l : List ℕ). get_or l 0 0) e)

-- where a number leads and all is refused, what follows it is
first_err : {A : Type 0} (f : Field) (ws : List Word) (More : ℕ → List Word → Result A NoRequest → Type 0) (e : NoRequest) (a : List ℕ) (later : List (List ℕ)) (n : ℕ) → texts ws ≡ a ∷ later → Number a n → First f ws More (Err e) → (rest : List Word) × (texts rest ≡ later) × More n rest (Err e)
first_err f [] More e a later n t m z = absurd (nothing a later (sym t))
first_err f (w ∷ ws) More e a later n t m (inl z) =
    absurd (z.1.0.none n (subst (λ (v : List ℕ). Number v n) (sym (head_same w.now a (texts ws) later t)) m))
first_err f (w ∷ ws) More e a later n t m (inr z) =
    let here : Number a z.0 = subst (λ (v : List ℕ). Number v z.0) (head_same w.now a (texts ws) later t) z.2.0 in
    let same : z.0 ≡ n = number_same a z.0 n here m in
    (z.1, ap texts z.2.1 ∙ rest_same w.now a (texts ws) later t, subst (λ (k : ℕ). More k z.1 (Err e)) same z.3)

done_err : (g : GetRange) (ws : List Word) (e : NoRequest) → texts ws ≡ [] → Done g ws (Err e) → ⊥
done_err g [] e t d = err_ok g e d
done_err g (w ∷ ws) e t d = nothing w.now (texts ws) t

tail_err : (ws : List Word) (e : NoRequest) (a : List ℕ) (n : ℕ) → texts ws ≡ a ∷ [] → Number a n → AfterTail ws (Err e) → ⊥
tail_err ws e a n t m h =
    let z = first_err field.Length ws (λ length rest s. Done (Suffix length) rest s) e a [] n t m h.reads in
    done_err (Suffix n) z.0 e z.1 z.2

to_err : (start : ℕ) (ws : List Word) (e : NoRequest) (b : List ℕ) (n : ℕ) → texts ws ≡ b ∷ [] → Number b n → AfterTo start ws (Err e) → ⊥
to_err start ws e b n t m h =
    let z = first_err field.End ws (λ end rest s. Done (Bounded start end) rest s) e b [] n t m h.reads in
    done_err (Bounded start n) z.0 e z.1 z.2

-- after a start, nothing or `to` and an end
open_err : (start : ℕ) (ws : List Word) (e : NoRequest) → texts ws ≡ [] → StartThen start ws (Err e) → ⊥
open_err start [] e t z = err_ok (Offset start) e z
open_err start (w ∷ ws) e t z = nothing w.now (texts ws) t

shut_err : (start : ℕ) (ws : List Word) (e : NoRequest) (b : List ℕ) (n : ℕ) → texts ws ≡ codes "to" ∷ b ∷ [] → Number b n → StartThen start ws (Err e) → ⊥
shut_err start [] e b n t m z = nothing (codes "to") (b ∷ []) (sym t)
shut_err start (w ∷ ws) e b n t m (inl z) = to_err start ws e b n (rest_same w.now (codes "to") (texts ws) (b ∷ []) t) m z.1
shut_err start (w ∷ ws) e b n t m (inr z) = z.0 (head_same w.now (codes "to") (texts ws) (b ∷ []) t)

from_err : (ws : List Word) (e : NoRequest) (g : GetRange) → Says g (codes "from" ∷ texts ws) → AfterFrom ws (Err e) → ⊥
from_err ws e All t h = other_word (codes "from") (codes "all") (head_same _ _ _ _ t) (λ x. omega arith)
from_err ws e (Suffix length) t h = other_word (codes "from") (codes "tail") (head_same _ _ _ _ t.1) (λ x. omega arith)
from_err ws e (Offset start) t h =
    let z = first_err field.Start ws AfterStart e t.0 [] start (rest_same _ _ _ _ t.1) t.2 h.reads in
    open_err start z.0 e z.1 z.2.reads
from_err ws e (Bounded start end) t h =
    let z = first_err field.Start ws AfterStart e t.0 (codes "to" ∷ t.1 ∷ []) start (rest_same _ _ _ _ t.2) t.3 h.reads in
    shut_err start z.0 e t.1 end z.1 t.4 z.2.reads

-- a range begins with one of three words
says_some : (g : GetRange) → Says g [] → ⊥
says_some All t = nothing _ _ (sym t)
says_some (Bounded start end) t = nothing _ _ (sym t.2)
says_some (Offset start) t = nothing _ _ (sym t.1)
says_some (Suffix length) t = nothing _ _ (sym t.1)

says_kind : (g : GetRange) (w : List ℕ) (ts : List (List ℕ)) → Says g (w ∷ ts) → (w ≡ codes "all" → ⊥) → (w ≡ codes "from" → ⊥) → (w ≡ codes "tail" → ⊥) → ⊥
says_kind All w ts t a f l = a (head_same _ _ _ _ t)
says_kind (Bounded start end) w ts t a f l = f (head_same _ _ _ _ t.2)
says_kind (Offset start) w ts t a f l = f (head_same _ _ _ _ t.1)
says_kind (Suffix length) w ts t a f l = l (head_same _ _ _ _ t.1)

all_err : (ws : List Word) (e : NoRequest) (g : GetRange) → Says g (codes "all" ∷ texts ws) → Done All ws (Err e) → ⊥
all_err ws e All t h = done_err All ws e (rest_same _ _ _ _ t) h
all_err ws e (Bounded start end) t h = other_word (codes "all") (codes "from") (head_same _ _ _ _ t.2) (λ x. omega arith)
all_err ws e (Offset start) t h = other_word (codes "all") (codes "from") (head_same _ _ _ _ t.1) (λ x. omega arith)
all_err ws e (Suffix length) t h = other_word (codes "all") (codes "tail") (head_same _ _ _ _ t.1) (λ x. omega arith)

last_err : (ws : List Word) (e : NoRequest) (g : GetRange) → Says g (codes "tail" ∷ texts ws) → AfterTail ws (Err e) → ⊥
last_err ws e All t h = other_word (codes "tail") (codes "all") (head_same _ _ _ _ t) (λ x. omega arith)
last_err ws e (Bounded start end) t h = other_word (codes "tail") (codes "from") (head_same _ _ _ _ t.2) (λ x. omega arith)
last_err ws e (Offset start) t h = other_word (codes "tail") (codes "from") (head_same _ _ _ _ t.1) (λ x. omega arith)
last_err ws e (Suffix length) t h = tail_err ws e t.0 length (rest_same _ _ _ _ t.1) t.2 h

range_refused : (ws : List Word) (g : GetRange) (e : NoRequest) → Says g (texts ws) → RangeThen ws (Err e) → ⊥
range_refused [] g e t z = says_some g t
range_refused (w ∷ ws) g e t (inl z) = all_err ws e g (subst (λ (v : List ℕ). Says g (v ∷ texts ws)) z.0 t) z.1
range_refused (w ∷ ws) g e t (inr (inl z)) = from_err ws e g (subst (λ (v : List ℕ). Says g (v ∷ texts ws)) z.0 t) z.1
range_refused (w ∷ ws) g e t (inr (inr (inl z))) = last_err ws e g (subst (λ (v : List ℕ). Says g (v ∷ texts ws)) z.0 t) z.1
range_refused (w ∷ ws) g e t (inr (inr (inr z))) = says_kind g w.now (texts ws) t z.0 z.1 z.2

part_err : (size : ℕ) (ws : List Word) (q : Request) (e : NoRequest) → Says q.range (texts ws) → AfterPart size q.part_size.bytes ws (Err e) → ⊥
part_err size ws q e t h =
    ⊎_elim (λ (z : (PartSized q.part_size.bytes → ⊥) × (◌≡◌ {A = Result Request NoRequest} (Err e) (Err (BadPartSize (record { requested = q.part_size.bytes }))))). z.0 q.part_size.sized)
    (λ (z : PartSized q.part_size.bytes × Sized size q.part_size.bytes ws (Err e)). range_refused ws q.range e t z.1.reads)
    h.reads

pub request_err : (ws : List Word) (q : Request) (e : NoRequest) → SaysRequest (texts ws) q → RequestOf ws (Err e) → ⊥
request_err ws q e s h =
    let z = first_err field.ObjectSize ws AfterSize e s.size (s.part ∷ s.range) q.object_size s.line s.of_size h.reads in
    let y = first_err field.PartSize z.0 (AfterPart q.object_size) e s.part s.range q.part_size.bytes z.1 s.of_part z.2.reads in
    part_err q.object_size y.0 q e (subst (λ (v : List (List ℕ)). Says q.range v) (sym y.1) s.of_range) y.2

pub exact : Exact
exact = record { sound = request_ok; complete = request_err }
