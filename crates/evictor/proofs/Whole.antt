-- Each call of the evictor is a call of a cache.
use Rattle.std.proofs.Common.{ℕ, Bool, List, ℤ, Result, refl}
use Rattle.faults.specs.declared.fault.Fault.{Fault}
use Rattle.cache.specs.Keys.{Key}
use Rattle.cache.specs.Caches.{CacheSense, Reads, Saves, Deletes}
use Rattle.cache.specs.Tracking.{Bounded, sizes}
use Rattle.evictor.specs.declared.evicting_cache.EvictingCache.{EvictingCache}
use Rattle.evictor.specs.Evicts.{EvictingReads, EvictingSaves, EvictingDeletes}
use Rattle.evictor.specs.Senses.{evicting_sense}
use Rattle.evictor.specs.States.{state_of}
use Rattle.evictor.proofs.Laws.{reads_same, saves_step, deletes_path}

-- what an evicting cache tracks is bounded
bounded : {C H : Type 0} (t : EvictingCache C H) → Bounded (record { entries = t.evictor.index; total = sizes t.evictor.index; maximum = t.evictor.maximum })
bounded t = record { sum = refl; bound = t.bound }

module _ {C H : Type 0} {below : CacheSense C} {drops : C → Key → C → Type 0} {draws : H → ℕ → ℕ → H → Type 0} {times : H → ℤ → H → Type 0} where
  pub a_read : {s t : EvictingCache C H} {k : Key} {answered : Bool}
      → EvictingReads below times (state_of s.evictor) (state_of t.evictor) k answered → Reads (evicting_sense below drops draws times) s k answered t
  a_read {s} {t} {k} {answered} reads = record {
    exact = reads;
    held = reads_same below times (state_of s.evictor) (state_of t.evictor) k answered reads;
    bounded = bounded t;
  }

  pub a_save : {s t : EvictingCache C H} {k : Key} {value : List ℕ} {r : Result (Unit {0}) Fault}
      → EvictingSaves below drops draws times (state_of s.evictor) (state_of t.evictor) k value r → Saves (evicting_sense below drops draws times) s k value r t
  a_save {s} {t} {k} {value} {r} saves = record {
    exact = saves;
    held = saves_step below drops draws times (state_of s.evictor) (state_of t.evictor) k value r saves;
    bounded = bounded t;
  }

  pub a_delete : {s t : EvictingCache C H} {path : List ℕ}
      → EvictingDeletes below (state_of s.evictor) (state_of t.evictor) path → Deletes (evicting_sense below drops draws times) s path t
  a_delete {s} {t} {path} deletes = record {
    exact = deletes;
    held = deletes_path below (state_of s.evictor) (state_of t.evictor) path deletes;
    bounded = bounded t;
  }
