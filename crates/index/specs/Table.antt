-- The table of tracked keys, and its changes.
use Rattle.std.specs.Prelude.{◌≡◌, ℕ, ◌+◌, ◌-◌, ◌^◌, ◌<◌, ◌≤◌, Bool, true, false, not, ◌&&◌, ◌||◌, ◌⊎◌, List, [], ◌∷◌, ◌++◌, map, length, take, ℤ, ◌≢◌, slice_index_or, slice_set}
use Rattle.std.specs.List.{AllByRecursion}
use Rattle.cache.specs.Keys.{Key, head_key, part_key, key_path, same_key, key_of}
use Rattle.cache.specs.Tracking.{Entry}
use Rattle.index.specs.declared.record.KeyRecord.{KeyRecord}

-- a record of the code, and a table of them
abbrev pub entry_of : KeyRecord → Entry
entry_of r = record { key = key_of r.key; size = r.size; time = r.time }

abbrev pub entries_of : List KeyRecord → List Entry
entries_of rs = map entry_of rs

-- whether a key is tracked
abbrev pub tracks : Key → List Entry → Bool
tracks k [] = false
tracks k (e ∷ es) = same_key e.key k || tracks k es

-- the key e is tracked at place i
pub record TrackedAt (k : Key) (es : List Entry) (i : ℕ) (e : Entry) : Type 0 where
  pub within : i < length es
  pub is : e ≡ slice_index_or es i e
  pub key : e.key ≡ k

-- no key is tracked twice: none comes again behind itself
abbrev pub once : List Entry → Bool
once [] = true
once (e ∷ es) = not (tracks e.key es) && once es

-- what is true of the keys of every index: at most 256, none twice, and each size is one of the code
pub record IsTable (es : List Entry) : Type 0 where
  pub few : length es ≤ 256
  pub distinct : once es ≡ true
  pub sized : AllByRecursion (λ e. e.size < 2 ^ 64) es

-- the time of one key is set, and nothing else
pub record Touched (k : Key) (time : ℤ) (es after : List Entry) : Type 0 where
  pub place : ℕ
  pub entry : Entry
  pub tracked : TrackedAt k es place entry
  pub is : after ≡ slice_set es place (record { key = entry.key; size = entry.size; time = time })

-- a key is used: a known one has its time set and keeps its size, a new one is appended
abbrev pub Used : (k : Key) (size : ℕ) (time : ℤ) (es after : List Entry) → Type 0
Used k size time es after =
    Touched k time es after ⊎ ((tracks k es ≡ false) × (after ≡ es ++ (record { key = k; size = size; time = time } ∷ [])))

-- a tracked key is removed, and the last one put into the gap
pub record Removed (e : Entry) (es after : List Entry) : Type 0 where
  pub place : ℕ
  pub tracked : TrackedAt e.key es place e
  pub is : after ≡ take (length es - 1) (slice_set es place (slice_index_or es (length es - 1) e))

-- keys are removed one after the other
pub data Removes : List Entry → List Entry → List Entry → Type 0 where
  removes_none : {es : List Entry} → Removes [] es es
  removes_next : {e : Entry} {more es between after : List Entry} → Removed e es between → Removes more between after → Removes (e ∷ more) es after

-- the head comes first, then the parts upward
abbrev pub rank : Key → ℕ
rank (head_key path) = 0
rank (part_key path number) = number + 1

-- each comes before the next
abbrev pub Upward : List Entry → Type 0
Upward [] = Unit {0}
Upward (e ∷ es) = AllByRecursion (λ f. rank e.key < rank f.key) es × Upward es

-- every key of a path is removed, the head first and then the parts upward
pub record PathRemoved (path : List ℕ) (es after : List Entry) : Type 0 where
  pub removed : List Entry
  pub runs : Removes removed es after
  pub upward : Upward removed
  pub of_path : AllByRecursion (λ e. key_path e.key ≡ path) removed
  pub none_left : AllByRecursion (λ e. key_path e.key ≢ path) after
