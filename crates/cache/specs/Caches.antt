-- What the calls of a cache may do to what it holds, and what its reads answer.
use Rattle.std.specs.Prelude.{◌≡◌, ℕ, ◌-◌, ◌≤◌, Bool, ◌⊎◌, List, ◌++◌, length, take, drop, Some, None, Ok, Err, Option, Result, ◌≢◌}
use Rattle.records.specs.declared.head.Head.{Head}
use Rattle.faults.specs.declared.fault.Fault.{Fault}
use Rattle.faults.specs.declared.cause.Cause.TheVariants.{CacheRefused}
use Rattle.stored_head.specs.Loads.{LoadAnswer}
use Rattle.cache.specs.Keys.{Key, key_path}
use Rattle.cache.specs.Tracking.{Tracked, Bounded}

-- what is held: the value under each key, for a part its bytes, for a head its stored form
abbrev pub Held : Type 0
Held = Key → Option (List ℕ)

-- refusal 13, where it arises
abbrev pub refused_save : Fault
refused_save = record { cause = CacheRefused; layers = 0 }

-- the key is held as it was, or is gone
abbrev pub Kept : (old new : Held) → Key → Type 0
Kept old new k = (new k ≡ old k) ⊎ (new k ≡ None)

-- an accepted save: the key is held with this value or dropped, and no other is altered
pub record Saved (old new : Held) (k : Key) (value : List ℕ) : Type 0 where
  pub here : (new k ≡ Some value) ⊎ (new k ≡ None)
  pub others : (j : Key) → (j ≢ k) → Kept old new j

-- a save, accepted or refused: a refused one alters nothing
abbrev pub SaveStep : (old new : Held) (k : Key) (value : List ℕ) → Result (Unit {0}) Fault → Type 0
SaveStep old new k value (Ok done) = Saved old new k value
SaveStep old new k value (Err e) = (e ≡ refused_save) × ((j : Key) → Kept old new j)

-- every key is held as it was
abbrev pub SameHeld : (old new : Held) → Type 0
SameHeld old new = (j : Key) → new j ≡ old j

-- the keys of one path are gone, and every other is held as it was
pub record Deleted (old new : Held) (path : List ℕ) : Type 0 where
  pub gone : (k : Key) → key_path k ≡ path → new k ≡ None
  pub others : (k : Key) → (key_path k ≢ path) → new k ≡ old k

-- one key is gone, and every other is held as it was
pub record Dropped (old new : Held) (k : Key) : Type 0 where
  pub gone : new k ≡ None
  pub others : (j : Key) → (j ≢ k) → new j ≡ old j

-- a read of a head answers the head whose stored form is held
abbrev pub HeadRead : Option (List ℕ) → Option Head → Type 0
HeadRead None r = r ≡ None
HeadRead (Some form) r = LoadAnswer form r

-- the bytes from `start` to before `end` of what is held can be given: they are there, and there is room for them
pub record Gives (held : Option (List ℕ)) (start end room : ℕ) : Type 0 where
  pub value : List ℕ
  pub is : held ≡ Some value
  pub forward : start ≤ end
  pub reaches : end ≤ length value
  pub fits : end - start ≤ room

-- a read of a part's range gives its bytes at the front of `out`, the rest of which stays; or nothing
abbrev pub PartRead : Option (List ℕ) → (start end : ℕ) (out after : List ℕ) → Option ℕ → Type 0
PartRead held start end out after None = (Gives held start end (length out) → ⊥) × (after ≡ out)
PartRead held start end out after (Some n) =
    (g : Gives held start end (length out)) × (n ≡ end - start) × (after ≡ take n (drop start g.value) ++ drop n out)

-- what the states of a cache mean, and what its calls do exactly
pub record CacheSense (C : Type 0) : Type 1 where
  -- what is held
  pub held : C → Held
  -- what is tracked for eviction; nothing where the cache does not evict
  pub tracked : C → Tracked
  -- what a read of a key leaves, answered or not
  pub reads : (before : C) → Key → (answered : Bool) → (after : C) → Type 0
  -- what a save of a value leaves, accepted or refused
  pub saves : (before : C) → Key → (value : List ℕ) → Result (Unit {0}) Fault → (after : C) → Type 0
  -- what deleting a path leaves
  pub deletes : (before : C) → (path : List ℕ) → (after : C) → Type 0

-- what the calls of a cache do: exactly what this cache does, what every cache may do to what is held, and the law on totals
module _ {C : Type 0} (sense : CacheSense C) where
  pub record Reads (s : C) (k : Key) (answered : Bool) (t : C) : Type 0 where
    pub exact : sense.reads s k answered t
    pub held : SameHeld (sense.held s) (sense.held t)
    pub bounded : Bounded (sense.tracked t)

  pub record Saves (s : C) (k : Key) (value : List ℕ) (r : Result (Unit {0}) Fault) (t : C) : Type 0 where
    pub exact : sense.saves s k value r t
    pub held : SaveStep (sense.held s) (sense.held t) k value r
    pub bounded : Bounded (sense.tracked t)

  pub record Deletes (s : C) (path : List ℕ) (t : C) : Type 0 where
    pub exact : sense.deletes s path t
    pub held : Deleted (sense.held s) (sense.held t) path
    pub bounded : Bounded (sense.tracked t)
