-- What an evicting cache does, over any cache that can be told what to forget and any host.
use Rattle.std.specs.Prelude.{◌≡◌, ℕ, ◌<◌, ◌≤◌, Bool, true, false, cond, List, [], ◌∷◌, ◌++◌, length, get_or, ℤ, None, Ok, Err, Result, ◌≢◌, slice_index_or}
use Rattle.faults.specs.declared.fault.Fault.{Fault}
use Rattle.cache.specs.Keys.{Key}
use Rattle.cache.specs.Caches.{CacheSense, Reads, Saves, Deletes, Held, Dropped, refused_save}
use Rattle.cache.specs.Tracking.{Entry, sizes}
use Rattle.index.specs.Table.{tracks, TrackedAt, Touched, Used, Removed, PathRemoved}
use Rattle.picking.specs.Picks.{Picks, target_of}

-- the cache below, the host, the tracked keys, the maximum, and the keys that the last accepted save evicted, in their order
pub record State (C H : Type 0) : Type 0 where
  pub inner : C
  pub host : H
  pub entries : List Entry
  pub maximum : ℕ
  pub evicted : List Entry

-- the same over another state of the cache below
abbrev pub over : {C H : Type 0} → State C H → C → State C H
over s c = record { inner = c; host = s.host; entries = s.entries; maximum = s.maximum; evicted = s.evicted }

-- what is held: of what the cache below holds, that which is tracked
abbrev pub held_tracked : List Entry → Held → Held
held_tracked es held k = cond (tracks k es) (held k) None

-- a key that is tracked, or finds less than 256 tracked
abbrev pub Room : Key → List Entry → Type 0
Room k es = tracks k es ≡ false → length es < 256

-- the host is asked for a time, and that of one key is set to it
pub record Noted {C H : Type 0} (times : H → ℤ → H → Type 0) (s t : State C H) (k : Key) : Type 0 where
  pub time : ℤ
  pub asked : times s.host time t.host
  pub touched : Touched k time s.entries t.entries
  pub inner : t.inner ≡ s.inner
  pub maximum : t.maximum ≡ s.maximum
  pub evicted : t.evicted ≡ s.evicted

module _ {C H : Type 0} (below : CacheSense C) where
  abbrev pub held_of : State C H → Held
  held_of s = held_tracked s.entries (below.held s.inner)

  -- a delete: below, and every tracked key of the path, the head first and then the parts upward
  pub record EvictingDeletes (s t : State C H) (path : List ℕ) : Type 0 where
    pub inner : Deletes below s.inner path t.inner
    pub entries : PathRemoved path s.entries t.entries
    pub host : t.host ≡ s.host
    pub maximum : t.maximum ≡ s.maximum
    pub evicted : t.evicted ≡ s.evicted

-- over a cache, and the times of a host
module _ {C H : Type 0} (below : CacheSense C) (times : H → ℤ → H → Type 0) where
  -- a read: an untracked key is not asked for below, and an answered read sets the key's time alone
  pub data EvictingReads (s t : State C H) (k : Key) : Bool → Type 0 where
    not_tracked : tracks k s.entries ≡ false → t ≡ s → EvictingReads s t k false
    not_answered : {c : C} → tracks k s.entries ≡ true → Reads below s.inner k false c → t ≡ over s c → EvictingReads s t k false
    answered : {c : C} → tracks k s.entries ≡ true → Reads below s.inner k true c → Noted times (over s c) t k → EvictingReads s t k true

-- keys that can be removed one after the other: each is tracked as it is told, and none comes twice
pub record Forgettable (es picked : List Entry) : Type 0 where
  pub tracked : (i : ℕ) (d : Entry) → i < length picked → (place : ℕ) × TrackedAt (get_or picked i d).key es place (slice_index_or picked i d)
  pub apart : (i j : ℕ) (d : Entry) → i < j → j < length picked → (get_or picked i d).key ≢ (get_or picked j d).key

-- over a cache, and how it drops one key
module _ {C : Type 0} (below : CacheSense C) (drops : C → Key → C → Type 0) where
  -- keys are dropped below and removed, one after the other
  pub data Forgets (c : C) (es : List Entry) : List Entry → C → List Entry → Type 0 where
    forgets_none : Forgets c es [] c es
    forgets_next : {between after : C} {left fewer gone : List Entry} {e : Entry}
        → Forgets c es gone between left → drops between e.key after → Dropped (below.held between) (below.held after) e.key
        → Removed e left fewer → Forgets c es (gone ++ (e ∷ [])) after fewer

  module _ {H : Type 0} (draws : H → ℕ → ℕ → H → Type 0) where
    -- where the total exceeds the maximum, keys are picked down to the target, then dropped in the order of picking
    pub data Evicts (s t : State C H) : Type 0 where
      within : sizes s.entries ≤ s.maximum
          → t ≡ record { inner = s.inner; host = s.host; entries = s.entries; maximum = s.maximum; evicted = [] } → Evicts s t
      beyond : s.maximum < sizes s.entries
          → Picks draws s.entries (target_of s.maximum) s.host t.evicted t.host
          → Forgets s.inner s.entries t.evicted t.inner t.entries → t.maximum ≡ s.maximum → Evicts s t

    -- what an accepted save below leads to: its key is used at the host's time, and what is then too much is evicted
    pub record Follows (times : H → ℤ → H → Type 0) (s t : State C H) (k : Key) (size : ℕ) : Type 0 where
      pub time : ℤ
      pub timed : H
      pub entries : List Entry
      pub asked : times s.host time timed
      pub used : Used k size time s.entries entries
      pub evicts : Evicts (record { inner = s.inner; host = timed; entries = entries; maximum = s.maximum; evicted = s.evicted }) t

    module _ (times : H → ℤ → H → Type 0) where
      -- a save of so many bytes, by a call of the cache below: a new key that finds 256 tracked is refused before anything goes below
      pub data SavesBy (call : C → Result (Unit {0}) Fault → C → Type 0) (s t : State C H) (k : Key) (size : ℕ) : Result (Unit {0}) Fault → Type 0 where
        table_full : tracks k s.entries ≡ false → length s.entries ≡ 256 → t ≡ s → SavesBy call s t k size (Err refused_save)
        refused_below : {c : C} {e : Fault} → Room k s.entries → call s.inner (Err e) c → t ≡ over s c → SavesBy call s t k size (Err e)
        accepted : {c : C} {done : Unit {0}} → Room k s.entries → call s.inner (Ok done) c → Follows times (over s c) t k size
            → SavesBy call s t k size (Ok done)

      -- a save of a value
      abbrev pub EvictingSaves : (s t : State C H) (k : Key) (value : List ℕ) → Result (Unit {0}) Fault → Type 0
      EvictingSaves s t k value r = SavesBy (λ c r d. Saves below c k value r d) s t k (length value) r
