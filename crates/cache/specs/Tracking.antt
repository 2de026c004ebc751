-- What an evicting cache tracks, as data that can be spoken of above any pile of caches.
use Rattle.std.specs.Prelude.{◌≡◌, ℕ, ◌<◌, ◌≤◌, List, [], length, ℤ, sum_by}
use Rattle.cache.specs.Keys.{Key}

-- a tracked key: the size that it was appended with, and when it was last used
pub record Entry : Type 0 where
  pub key : Key
  pub size : ℕ
  pub time : ℤ

pub record Tracked : Type 0 where
  pub entries : List Entry
  pub total : ℕ
  pub maximum : ℕ

abbrev pub sizes : List Entry → ℕ
sizes es = sum_by (λ e. e.size) es

-- a cache that does not evict
abbrev pub tracks_nothing : Tracked
tracks_nothing = record { entries = []; total = 0; maximum = 0 }

-- the total is the sum of the tracked sizes, and at most the maximum unless one key is left
pub record Bounded (t : Tracked) : Type 0 where
  pub sum : t.total ≡ sizes t.entries
  pub bound : 1 < length t.entries → t.total ≤ t.maximum
