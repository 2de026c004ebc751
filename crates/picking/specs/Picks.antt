-- Which keys are picked for eviction: by the draws of the host and the times of the keys.
use Rattle.std.specs.Prelude.{◌≡◌, ℕ, suc, ◌+◌, ◌*◌, ◌/◌, ◌%◌, ◌<◌, ◌≤◌, Bool, true, false, cond, not, ◌&&◌, ◌⊎◌, List, [], ◌∷◌, ◌++◌, length, get_or, replicate, ◌≤ℤ◌, ◌<ℤ◌, Some, None, Option, ◌==◌, slice_index_or, slice_set}
use Rattle.cache.specs.Tracking.{Entry, sizes}

-- what picking goes down to: nine tenths of the maximum, rounded down
abbrev pub target_of : (maximum : ℕ) → ℕ
target_of maximum = 9 * maximum / 10

-- marks say which keys are picked; these are not, in their order
abbrev pub unpicked : (marks : List Bool) → List Entry → List Entry
unpicked marks [] = []
unpicked [] (e ∷ es) = e ∷ es
unpicked (m ∷ marks) (e ∷ es) = cond m (unpicked marks es) (e ∷ unpicked marks es)

-- another index than this, if there is one
abbrev pub differs : Option ℕ → ℕ → Bool
differs None i = true
differs (Some j) i = not (i == j)

-- whether an index may be drawn: not picked yet, and not the one that it must differ from
abbrev pub available : (marks : List Bool) (but : Option ℕ) → ℕ → Bool
available marks but i = not (slice_index_or marks i false) && differs but i

-- an index below n may be drawn
abbrev pub SomeAvailable : (n : ℕ) (marks : List Bool) (but : Option ℕ) → Type 0
SomeAvailable n marks but = (j : ℕ) × (j < n) × (available marks but j ≡ true)

-- i is the next available index behind `last`, going round at n
pub record NextRound (n : ℕ) (marks : List Bool) (but : Option ℕ) (last i : ℕ) : Type 0 where
  pub steps : ℕ
  pub onward : 0 < steps
  pub once_round : steps ≤ n
  pub is : i ≡ (last + steps) % n
  pub fits : available marks but i ≡ true
  pub first : (k : ℕ) → 0 < k → k < steps → available marks but ((last + k) % n) ≡ false

module _ {H : Type 0} (draws : H → ℕ → ℕ → H → Type 0) where
  -- so many draws in a row below n that are not available, the last of them `last`
  pub data Misses (n : ℕ) (marks : List Bool) (but : Option ℕ) (begin : H) : ℕ → H → (last : ℕ) → Type 0 where
    no_miss : Misses n marks but begin 0 begin 0
    one_more : {count last i : ℕ} {between after : H} → Misses n marks but begin count between last → draws between n i after
        → available marks but i ≡ false → Misses n marks but begin (suc count) after i

  -- an index is drawn: by one of at most 64 draws, else it is the next available one behind the last, going round
  pub data Drawn (n : ℕ) (marks : List Bool) (but : Option ℕ) (begin : H) (i : ℕ) (after : H) : Type 0 where
    by_draw : {count last : ℕ} {between : H} → count < 64 → Misses n marks but begin count between last → draws between n i after
        → available marks but i ≡ true → Drawn n marks but begin i after
    by_round : {last : ℕ} → Misses n marks but begin 64 after last → NextRound n marks but last i → Drawn n marks but begin i after

  -- of two different unpicked keys the one whose time is earlier is picked, of equal times the first
  pub record Pick (es : List Entry) (marks : List Bool) (begin : H) (place : ℕ) (entry : Entry) (after : H) : Type 0 where
    pub first : ℕ
    pub second : ℕ
    pub between : H
    pub one : Drawn (length es) marks None begin first between
    pub other : Drawn (length es) marks (Some first) between second after
    pub first_in : first < length es
    pub second_in : second < length es
    pub earlier : (d : Entry) → (get_or es first d).time ≤ℤ (get_or es second d).time → place ≡ first
    pub later : (d : Entry) → (get_or es second d).time <ℤ (get_or es first d).time → place ≡ second
    pub is : entry ≡ slice_index_or es place entry

  -- keys picked one after the other, while more than the target remains and two are left
  pub data Picking (es : List Entry) (target : ℕ) (begin : H) : H → (marks : List Bool) (picked : List Entry) → Type 0 where
    none_yet : Picking es target begin begin (replicate 256 false) []
    picks_one : {between after : H} {marks : List Bool} {picked : List Entry} {place : ℕ} {entry : Entry}
        → Picking es target begin between marks picked
        → target < sizes (unpicked marks es) → 2 ≤ length (unpicked marks es)
        → Pick es marks between place entry after
        → Picking es target begin after (slice_set marks place true) (picked ++ (entry ∷ []))

  -- a whole run of picks, and the keys that it picked in their order
  pub record Picks (es : List Entry) (target : ℕ) (begin : H) (picked : List Entry) (after : H) : Type 0 where
    pub marks : List Bool
    pub run : Picking es target begin after marks picked
    pub ended : (sizes (unpicked marks es) ≤ target) ⊎ (length (unpicked marks es) < 2)
