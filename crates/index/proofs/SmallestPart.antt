-- The smallest part of a path.
use Rattle.std.proofs.Common.{◌≡◌, ℕ, ◌≤◌, min, true, ◌⊎◌, List, [], ◌∷◌, Some, None, Option, sym, refl, ap, ◌∙◌, subst, inl, inr, ⊎_elim, arith}
use Rattle.std.specs.List.{AllByRecursion as All, FoldsTo, cons_option, filter_map, reduce}
use Rattle.std.specs.Str.{bytes_eq}
use Rattle.std.proofs.ByRecursion.{All-weaker}
use Rattle.std.proofs.lemmas.Slice.Eq.{bytes_eq-Decides}
use Rattle.std.specs.Fn.{Called}
use Rattle.std.specs.Iterator.{FoldTurn, ReducesItems}
use denote.Param.Members.{Mut}
use Rattle.std.proofs.lemmas.Iterator.{YieldsList}
use Rattle.std.proofs.lemmas.Iterator.Consumers.{reduce_from_yields_List}
use Rattle.std.proofs.lemmas.Bool.{cases_Bool, cases_lt, cond-true, cond-false, or_left, or_right}
use Rattle.cache.specs.Keys.{Key, head_key, part_key, key_path, same_key, key_of}
use Rattle.cache.specs.Tracking.{Entry}
use Rattle.index.specs.declared.record.KeyRecord.{KeyRecord}
use Rattle.index.specs.Parts.{part_number, smaller_of, smallest_part}
use Rattle.index.specs.Table.{entries_of, tracks}
use Rattle.index.proofs.Counts.{same_key_true}

pub smaller_assoc : (a b c : Option ℕ) → smaller_of (smaller_of a b) c ≡ smaller_of a (smaller_of b c)
smaller_assoc None b c = refl
smaller_assoc (Some m) None c = refl
smaller_assoc (Some m) (Some n) None = refl
smaller_assoc (Some m) (Some n) (Some k) = let h : min (min m n) k ≡ min m (min n k) = omega arith in ap Some h

reduce_min : (o : Option ℕ) (ns : List ℕ) → reduce min (cons_option o ns) ≡ smaller_of o (reduce min ns)
reduce_min None ns = refl
reduce_min (Some m) [] = refl
reduce_min (Some m) (n ∷ ns) =
    reduce_min (Some (min m n)) ns
    ∙ smaller_assoc (Some m) (Some n) (reduce min ns)
    ∙ ap (smaller_of (Some m)) (sym (reduce_min (Some n) ns))

smallest_is : (path : List ℕ) (rs : List KeyRecord) → reduce min (filter_map (λ r. part_number path (key_of r.key)) rs) ≡ smallest_part path (entries_of rs)
smallest_is path [] = refl
smallest_is path (r ∷ rs) =
    reduce_min (part_number path (key_of r.key)) (filter_map (λ x. part_number path (key_of x.key)) rs)
    ∙ ap (smaller_of (part_number path (key_of r.key))) (smallest_is path rs)

-- what a closure gives that answers the smaller of two numbers
abbrev pub GivesSmaller : {F : Type 0} → Mut F (ℕ × (ℕ × Unit {0})) ℕ → F → Type 0
GivesSmaller {F} g f = (m n r : ℕ) (q : F) → Called g f (m, (n, tt)) r q → (q ≡ f) × (r ≡ min m n)

smaller_turns : {F : Type 0} (g : Mut F (ℕ × (ℕ × Unit {0})) ℕ) (f : F) → GivesSmaller g f → (ns : List ℕ) (p q : F × ℕ) → p.0 ≡ f → FoldsTo {P = F × ℕ} (FoldTurn g) p ns q → FoldsTo (λ a z c. c ≡ min a z) p.1 ns q.1
smaller_turns g f gives [] p q same run = ap (λ w. w.1) run
smaller_turns g f gives (n ∷ ns) p q same run =
    let turn = gives p.1 n run.0.1 run.0.0 (subst (λ w. Called g w (p.1, (n, tt)) run.0.1 run.0.0) same run.1) in
    (run.0.1, turn.1, smaller_turns g f gives ns run.0 q turn.0 run.2)

-- the least of the numbers of the parts is the smallest part
pub least_is_smallest : {S F : Type 0} {steps : S → Option ℕ → S → Type 0} {g : Mut F (ℕ × (ℕ × Unit {0})) ℕ} {f : F} {s : S} (path : List ℕ) (rs : List KeyRecord) (least : Option ℕ) → ReducesItems steps g s f least → GivesSmaller g f → YieldsList steps (λ n. n) s (filter_map (λ r. part_number path (key_of r.key)) rs) → least ≡ smallest_part path (entries_of rs)
least_is_smallest {s = s} path rs None picked gives numbers = reduce_from_yields_List min s None picked numbers ∙ smallest_is path rs
least_is_smallest {g = g} {f} {s} path rs (Some least) picked gives numbers =
    reduce_from_yields_List min s (Some least) (picked.0, picked.1, picked.3, smaller_turns g f gives picked.1 (f, picked.0) (picked.2, least) refl picked.4) numbers
    ∙ smallest_is path rs

-- what a number of a part says of the key
pub part_of_number : (path : List ℕ) (k : Key) (n : ℕ) → part_number path k ≡ Some n → k ≡ part_key path n
part_of_number path (head_key p) n h = absurd (let z : ◌≡◌ {A = ℕ} 0 1 = cc in omega arith)
part_of_number path (part_key p m) n h =
    ⊎_elim
    (λ t.
    let same = (bytes_eq-Decides p path).0 t in
    let number : Some m ≡ Some n = sym (cond-true (bytes_eq p path) (Some m) None t) ∙ h in
    let v : m ≡ n = cc in
    cc)
    (λ f.
    let none : None ≡ Some n = sym (cond-false (bytes_eq p path) (Some m) None f) ∙ h in
    absurd (let z : ◌≡◌ {A = ℕ} 0 1 = cc in omega arith))
    (cases_Bool (bytes_eq p path))

pub number_of_part : (path : List ℕ) (n : ℕ) → part_number path (part_key path n) ≡ Some n
number_of_part path n = cond-true (bytes_eq path path) (Some n) None ((bytes_eq-Decides path path).1 refl)

-- a key of the path is its head or one of its parts
pub head_or_part : (path : List ℕ) (k : Key) → key_path k ≡ path → (k ≡ head_key path) ⊎ ((n : ℕ) × (k ≡ part_key path n))
head_or_part path (head_key p) h = inl (ap head_key h)
head_or_part path (part_key p n) h = inr (n, ap (λ (q : List ℕ). part_key q n) h)

none_both : (a b : Option ℕ) → smaller_of a b ≡ None → (a ≡ None) × (b ≡ None)
none_both None b h = (refl, h)
none_both (Some m) None h = absurd (let z : ◌≡◌ {A = ℕ} 0 1 = cc in omega arith)
none_both (Some m) (Some n) h = absurd (let z : ◌≡◌ {A = ℕ} 0 1 = cc in omega arith)

-- no part of the path is tracked
pub none_smallest : (path : List ℕ) (es : List Entry) → smallest_part path es ≡ None → All (λ e. part_number path e.key ≡ None) es
none_smallest path [] h = tt
none_smallest path (e ∷ es) h =
    let both = none_both (part_number path e.key) (smallest_part path es) h in
    (both.0, none_smallest path es both.1)

abbrev pub AtLeast : ℕ → Option ℕ → Type 0
AtLeast n o = (m : ℕ) → o ≡ Some m → n ≤ m

min_is : (k j n : ℕ) → min k j ≡ n → (k ≡ n) ⊎ (j ≡ n)
min_is k j n h = ⊎_elim (λ a. inl (omega arith)) (λ b. inr (omega arith)) (cases_lt k j)

some_of : (a b : Option ℕ) (n : ℕ) → smaller_of a b ≡ Some n → ((a ≡ Some n) ⊎ (b ≡ Some n)) × AtLeast n a × AtLeast n b
some_of None b n h = (
  inr h,
  (λ m e. absurd (let z : ◌≡◌ {A = ℕ} 0 1 = cc in omega arith)),
  (λ m e. let same : n ≡ m = cc in omega arith),
)
some_of (Some k) None n h = (
  inl h,
  (λ m e. let same : n ≡ m = cc in omega arith),
  (λ m e. absurd (let z : ◌≡◌ {A = ℕ} 0 1 = cc in omega arith)),
)
some_of (Some k) (Some j) n h =
    let is : min k j ≡ n = cc in (
      ⊎_elim (λ a. inl (ap Some a)) (λ b. inr (ap Some b)) (min_is k j n is),
      (λ m e. let same : k ≡ m = cc in omega arith),
      (λ m e. let same : j ≡ m = cc in omega arith),
    )

-- either no part is tracked, or the smallest has a number
any_smallest : (path : List ℕ) (es : List Entry) → (smallest_part path es ≡ None) ⊎ ((k : ℕ) × (smallest_part path es ≡ Some k))
any_smallest path es = elim (smallest_part path es) as (λ o. (o ≡ None) ⊎ ((k : ℕ) × (o ≡ Some k))) [ None ↦ inl refl | Some k ↦ inr (k, refl) ]

-- the smallest part is tracked, and none has a smaller number
pub some_smallest : (path : List ℕ) (es : List Entry) (n : ℕ) → smallest_part path es ≡ Some n → (tracks (part_key path n) es ≡ true) × All (λ e. AtLeast n (part_number path e.key)) es
some_smallest path [] n h = absurd (let z : ◌≡◌ {A = ℕ} 0 1 = cc in omega arith)
some_smallest path (e ∷ es) n h =
    let s = some_of (part_number path e.key) (smallest_part path es) n h in (
      ⊎_elim
          (λ a. or_left (same_key e.key (part_key path n)) (tracks (part_key path n) es) (same_key_true e.key (part_key path n) (part_of_number path e.key n a)))
          (λ b. or_right (same_key e.key (part_key path n)) (tracks (part_key path n) es) (some_smallest path es n b).0)
          s.0,
      (
        s.1,
        ⊎_elim
            (λ none. All-weaker (λ f. part_number path f.key ≡ None) (λ f. AtLeast n (part_number path f.key)) (λ f e m g. absurd (let z : ◌≡◌ {A = ℕ} 0 1 = cc in omega arith)) es (none_smallest path es none))
            (λ k.
            let low : n ≤ k.0 = s.2 k.0 k.1 in
            All-weaker (λ f. AtLeast k.0 (part_number path f.key)) (λ f. AtLeast n (part_number path f.key)) (λ f e m g. let up = e m g in omega arith) es (some_smallest path es k.0 k.1).1)
            (any_smallest path es),
      ),
    )

pub smallest_tracked : (path : List ℕ) (es : List Entry) (n : ℕ) → Some n ≡ smallest_part path es → tracks (part_key path n) es ≡ true
smallest_tracked path es n h = (some_smallest path es n (sym h)).0
