-- What an evicting cache means, over what the cache below and the host mean.
use Rattle.std.specs.Prelude.{ℕ, ℤ}
use Rattle.cache.specs.Keys.{Key}
use Rattle.cache.specs.Caches.{CacheSense}
use Rattle.cache.specs.Tracking.{sizes}
use Rattle.evictor.specs.declared.evicting_cache.EvictingCache.{EvictingCache}
use Rattle.evictor.specs.Evicts.{held_of, EvictingReads, EvictingSaves, EvictingDeletes}
use Rattle.evictor.specs.States.{state_of}

abbrev pub evicting_sense : {C H : Type 0} → CacheSense C → (drops : C → Key → C → Type 0) → (draws : H → ℕ → ℕ → H → Type 0) → (times : H → ℤ → H → Type 0)
    → CacheSense (EvictingCache C H)
evicting_sense below drops draws times = record {
  held = λ s. held_of below (state_of s.evictor);
  tracked = λ s. record { entries = (state_of s.evictor).entries; total = sizes s.evictor.index; maximum = s.evictor.maximum };
  reads = λ s k answered t. EvictingReads below times (state_of s.evictor) (state_of t.evictor) k answered;
  saves = λ s k value r t. EvictingSaves below drops draws times (state_of s.evictor) (state_of t.evictor) k value r;
  deletes = λ s path t. EvictingDeletes below (state_of s.evictor) (state_of t.evictor) path;
}
