-- What removing several keys leaves, and every key of a path.
use Rattle.std.proofs.Common.{◌≡◌, ℕ, ◌+◌, ◌<◌, ◌≤◌, true, false, List, [], ◌∷◌, ◌++◌, length, Some, None, sum_by, sym, refl, ap, ◌∙◌, ⊎_elim, arith}
use Rattle.std.specs.List.{AllByRecursion as All}
use Rattle.std.proofs.ByRecursion.{All-weaker, All-push}
use Rattle.std.proofs.lemmas.List.Sums.{sum_by-cons}
use Rattle.std.proofs.lemmas.Bool.{or_parts, or_from, both_ways}
use Rattle.cache.specs.Keys.{Key, head_key, part_key, key_path, same_key}
use Rattle.cache.specs.Tracking.{Entry, sizes}
use Rattle.index.specs.Parts.{part_number, smallest_part}
use Rattle.index.specs.Table.{tracks, once, rank, Removed, Removes, removes_none, removes_next, Upward, PathRemoved, TrackedAt}
use Rattle.index.proofs.Counts.{one_if, one_if_other, times, same_key_true, same_key_false, tracks_by_times, times_of_once, once_by_times}
use Rattle.index.proofs.Places.{all_at}
use Rattle.index.proofs.Removal.{removed_sums, removed_length, removed_gone, removed_tracks, removed_all, removed_other, removed_from}
use Rattle.index.proofs.SmallestPart.{AtLeast, none_smallest, some_smallest, number_of_part, head_or_part}

-- keys are removed one after the other

pub removes_sums : (f : Entry → ℕ) {gone es after : List Entry} → Removes gone es after → sum_by f after + sum_by f gone ≡ sum_by f es
removes_sums f removes_none = omega arith
removes_sums f (removes_next {e} {more} r rs) =
    let h = removed_sums f r in
    let k = removes_sums f rs in
    let c = sum_by-cons f e more in
    omega arith

pub removes_length : {gone es after : List Entry} → Removes gone es after → length after + length gone ≡ length es
removes_length removes_none = omega arith
removes_length (removes_next r rs) = let h = removed_length r in let k = removes_length rs in omega arith

pub removes_sizes : {gone es after : List Entry} → Removes gone es after → sizes after + sizes gone ≡ sizes es
removes_sizes rs = removes_sums (λ e. e.size) rs

pub removes_once : {gone es after : List Entry} → Removes gone es after → once es ≡ true → once after ≡ true
removes_once {gone} {es} {after} rs o =
    once_by_times after (λ j. let h = removes_sums (one_if j) rs in let top = times_of_once es o j in omega arith)

never_among : (j : Key) (gone : List Entry) → All (λ e. e.key ≡ j → ⊥) gone → times j gone ≡ 0
never_among j [] h = refl
never_among j (e ∷ gone) h =
    let none = one_if_other j e h.0 in
    let k = never_among j gone h.1 in
    let c = sum_by-cons (one_if j) e gone in
    omega arith

-- a key that is not among the removed ones is tracked as before
pub removes_tracks : {gone es after : List Entry} (j : Key) → Removes gone es after → All (λ e. e.key ≡ j → ⊥) gone → tracks j after ≡ tracks j es
removes_tracks {gone} {es} {after} j rs h =
    let s = removes_sums (one_if j) rs in
    let z = never_among j gone h in
    tracks_by_times j after es (omega arith)

-- and keeps its entry
pub removes_other : {gone es after : List Entry} {j : Key} {i : ℕ} {f : Entry} → Removes gone es after → All (λ e. e.key ≡ j → ⊥) gone → TrackedAt j es i f → (p : ℕ) × TrackedAt j after p f
removes_other {i} removes_none h a = (i, a)
removes_other (removes_next r rs) h a =
    let one = removed_other r (λ same. h.0 (sym same)) a in removes_other rs h.1 one.1

-- and nothing is new
pub removes_from : {gone es after : List Entry} {j : Key} {i : ℕ} {f : Entry} → Removes gone es after → TrackedAt j after i f → (p : ℕ) × TrackedAt j es p f
removes_from {i} removes_none a = (i, a)
removes_from (removes_next r rs) a = removed_from r (removes_from rs a).1

removes_push : {e : Entry} {gone es between after : List Entry} → Removes gone es between → Removed e between after → Removes (gone ++ e ∷ []) es after
removes_push removes_none r = removes_next r removes_none
removes_push (removes_next q rs) r = removes_next q (removes_push rs r)

upward_push : (e : Entry) (gone : List Entry) → Upward gone → All (λ f. rank f.key < rank e.key) gone → Upward (gone ++ e ∷ [])
upward_push e [] u h = (tt, tt)
upward_push e (f ∷ gone) u h =
    (All-push (λ x. rank f.key < rank x.key) gone e u.0 h.0, upward_push e gone u.1 h.1)

-- every key of a path is removed

away : (path : List ℕ) (j : Key) (gone : List Entry) → (key_path j ≡ path → ⊥) → All (λ e. key_path e.key ≡ path) gone → All (λ e. e.key ≡ j → ⊥) gone
away path j gone ne h =
    All-weaker (λ e. key_path e.key ≡ path) (λ e. e.key ≡ j → ⊥) (λ e p same. ne (ap key_path (sym same) ∙ p)) gone h

untracked_by_all : (j : Key) (es : List Entry) → All (λ e. e.key ≡ j → ⊥) es → tracks j es ≡ false
untracked_by_all j [] h = refl
untracked_by_all j (e ∷ es) h =
    or_from (same_key e.key j) (tracks j es) (same_key_false e.key j h.0) (untracked_by_all j es h.1)

pub path_gone : {path : List ℕ} {es after : List Entry} → PathRemoved path es after → (j : Key) → key_path j ≡ path → tracks j after ≡ false
path_gone {path} {es} {after} r j p =
    untracked_by_all j after
    (All-weaker (λ e. key_path e.key ≡ path → ⊥) (λ e. e.key ≡ j → ⊥) (λ e ne same. ne (ap key_path same ∙ p)) after r.none_left)

pub path_others : {path : List ℕ} {es after : List Entry} → PathRemoved path es after → (j : Key) → (key_path j ≡ path → ⊥) → tracks j after ≡ tracks j es
path_others {path} r j ne = removes_tracks j r.runs (away path j r.removed ne r.of_path)

pub path_other_place : {path : List ℕ} {es after : List Entry} {j : Key} {i : ℕ} {f : Entry} → PathRemoved path es after → (key_path j ≡ path → ⊥) → TrackedAt j es i f → (p : ℕ) × TrackedAt j after p f
path_other_place {path} {j} r ne a = removes_other r.runs (away path j r.removed ne r.of_path) a

pub path_from : {path : List ℕ} {es after : List Entry} {j : Key} {i : ℕ} {f : Entry} → PathRemoved path es after → TrackedAt j after i f → (p : ℕ) × TrackedAt j es p f
path_from r a = removes_from r.runs a

pub path_sizes : {path : List ℕ} {es after : List Entry} → PathRemoved path es after → sizes after ≤ sizes es
path_sizes r = let h = removes_sizes r.runs in omega arith

pub path_length : {path : List ℕ} {es after : List Entry} → PathRemoved path es after → length after ≤ length es
path_length r = let h = removes_length r.runs in omega arith

pub path_once : {path : List ℕ} {es after : List Entry} → PathRemoved path es after → once es ≡ true → once after ≡ true
path_once r o = removes_once r.runs o

-- the parts that are gone so far: each is below those that are left

abbrev Below : (path : List ℕ) → List Entry → Entry → Type 0
Below path left f = All (λ e. key_path e.key ≡ path → rank f.key < rank e.key) left

pub record PartsGone (path : List ℕ) (es left : List Entry) : Type 0 where
  pub gone : List Entry
  pub runs : Removes gone es left
  pub upward : Upward gone
  pub parts : All (λ f. (n : ℕ) × (f.key ≡ part_key path n)) gone
  pub no_head : tracks (head_key path) left ≡ false
  pub below : All (Below path left) gone

pub no_part_gone : (path : List ℕ) (es : List Entry) → tracks (head_key path) es ≡ false → PartsGone path es es
no_part_gone path es h = record { gone = []; runs = removes_none; upward = tt; parts = tt; no_head = h; below = tt }

all_both : (P Q : Entry → Type 0) (es : List Entry) → All P es → All Q es → All (λ e. P e × Q e) es
all_both P Q [] p q = tt
all_both P Q (e ∷ es) p q = ((p.0, q.0), all_both P Q es p.1 q.1)

all_untracked : (j : Key) (es : List Entry) → tracks j es ≡ false → All (λ e. e.key ≡ j → ⊥) es
all_untracked j [] h = tt
all_untracked j (e ∷ es) h =
    let parts = or_parts (same_key e.key j) (tracks j es) h in
    (λ same. both_ways (same_key e.key j) parts.0 (same_key_true e.key j same), all_untracked j es parts.1)

head_is_no_part : (path q : List ℕ) (n : ℕ) → head_key path ≡ part_key q n → ⊥
head_is_no_part path q n e = let z : ◌≡◌ {A = ℕ} 0 1 = cc in omega arith

-- the smallest part is below every key of the path that is left
smallest_below : (path : List ℕ) (n : ℕ) {e : Entry} {now after : List Entry} → Removed e now after → once now ≡ true → e.key ≡ part_key path n → smallest_part path now ≡ Some n → tracks (head_key path) after ≡ false → Below path after e
smallest_below path n {e} {now} {after} r o key least no_head =
    let low = removed_all (λ x. AtLeast n (part_number path x.key)) r (some_smallest path now n least).1 in
    let no-e = all_untracked e.key after (removed_gone r o) in
    let no-h = all_untracked (head_key path) after no_head in
    let P : Entry → Type 0 = λ x. AtLeast n (part_number path x.key) in
    let Q : Entry → Type 0 = λ x. (x.key ≡ e.key → ⊥) × (x.key ≡ head_key path → ⊥) in
    All-weaker (λ x. P x × Q x) (λ x. key_path x.key ≡ path → rank e.key < rank x.key)
    (λ x h p.
    ⊎_elim
    (λ head. absurd (h.1.1 head))
    (λ part.
    let m = part.0 in
    let up : n ≤ m = h.0 m (ap (part_number path) part.1 ∙ number_of_part path m) in
    let ne : n ≡ m → ⊥ = λ same. h.1.0 (part.1 ∙ ap (part_key path) (sym same) ∙ sym key) in
    let a : rank e.key ≡ n + 1 = ap rank key in
    let b : rank x.key ≡ m + 1 = ap rank part.1 in
    omega (arith, ne))
    (head_or_part path x.key p))
    after
    (all_both P Q after low (all_both (λ x. x.key ≡ e.key → ⊥) (λ x. x.key ≡ head_key path → ⊥) after no-e no-h))

pub part_gone : (path : List ℕ) (n : ℕ) {es now after : List Entry} {e : Entry} → PartsGone path es now → once now ≡ true → Some n ≡ smallest_part path now → Removed e now after → e.key ≡ part_key path n → PartsGone path es after
part_gone path n {es} {now} {after} {e} g o least r key =
    let no_head : tracks (head_key path) after ≡ false =
    removed_tracks r (head_key path) (λ same. head_is_no_part path path n (same ∙ key)) ∙ g.no_head in
    let of_path : key_path e.key ≡ path = ap key_path key in
    record {
      gone = g.gone ++ e ∷ [];
      runs = removes_push g.runs r;
      upward = upward_push e g.gone g.upward
          (All-weaker (Below path now) (λ f. rank f.key < rank e.key)
          (λ f h. all_at (λ x. key_path x.key ≡ path → rank f.key < rank x.key) h r.tracked of_path)
          g.gone g.below);
      parts = All-push (λ f. (m : ℕ) × (f.key ≡ part_key path m)) g.gone e g.parts (n, key);
      no_head = no_head;
      below = All-push (Below path after) g.gone e
          (All-weaker (Below path now) (Below path after) (λ f h. removed_all (λ x. key_path x.key ≡ path → rank f.key < rank x.key) r h) g.gone g.below)
          (smallest_below path n r o key (sym least) no_head);
    }

none_of_path : (path : List ℕ) (es : List Entry) → tracks (head_key path) es ≡ false → smallest_part path es ≡ None → All (λ e. key_path e.key ≡ path → ⊥) es
none_of_path path es no_head none =
    let P : Entry → Type 0 = λ e. part_number path e.key ≡ None in
    let Q : Entry → Type 0 = λ e. e.key ≡ head_key path → ⊥ in
    All-weaker (λ e. P e × Q e) (λ e. key_path e.key ≡ path → ⊥)
    (λ e h p.
    ⊎_elim
    (λ head. h.1 head)
    (λ part.
    let some : part_number path e.key ≡ Some part.0 = ap (part_number path) part.1 ∙ number_of_part path part.0 in
    let was = h.0 in
    let z : ◌≡◌ {A = ℕ} 0 1 = cc in
    omega arith)
    (head_or_part path e.key p))
    es
    (all_both P Q es (none_smallest path es none) (all_untracked (head_key path) es no_head))

parts_of_path : (path : List ℕ) (gone : List Entry) → All (λ f. (n : ℕ) × (f.key ≡ part_key path n)) gone → All (λ f. key_path f.key ≡ path) gone
parts_of_path path gone h =
    All-weaker (λ f. (n : ℕ) × (f.key ≡ part_key path n)) (λ f. key_path f.key ≡ path) (λ f p. ap key_path p.1) gone h

-- no part is left, and there was no head
pub parts_only : (path : List ℕ) {es left : List Entry} → PartsGone path es left → smallest_part path left ≡ None → PathRemoved path es left
parts_only path {es} {left} g none =
    record {
      removed = g.gone;
      runs = g.runs;
      upward = g.upward;
      of_path = parts_of_path path g.gone g.parts;
      none_left = none_of_path path left g.no_head none;
    }

-- no part is left, and the head went first
pub head_and_parts : (path : List ℕ) {e : Entry} {es between left : List Entry} → Removed e es between → e.key ≡ head_key path → PartsGone path between left → smallest_part path left ≡ None → PathRemoved path es left
head_and_parts path {e} {es} {between} {left} r key g none =
    record {
      removed = e ∷ g.gone;
      runs = removes_next r g.runs;
      upward = (
        All-weaker (λ f. (n : ℕ) × (f.key ≡ part_key path n)) (λ f. rank e.key < rank f.key)
            (λ f p. let a : rank e.key ≡ 0 = ap rank key in let b : rank f.key ≡ p.0 + 1 = ap rank p.1 in omega arith)
            g.gone g.parts,
        g.upward,
      );
      of_path = (ap key_path key, parts_of_path path g.gone g.parts);
      none_left = none_of_path path left g.no_head none;
    }
