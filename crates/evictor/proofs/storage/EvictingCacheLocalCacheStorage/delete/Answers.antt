use Rattle.evictor.proofs.Bounds.{deletes_bound}
use Rattle.evictor.proofs.Whole.{a_delete}
use Rattle.evictor.proofs.storage.EvictingCacheLocalCacheStorage.delete.Goals as goal

pub invariant_of-self : goal.invariant_of-self
invariant_of-self g c =
    record { bound = deletes_bound _ c.delete.ensures c.args.self.now.bound }

pub returns : goal.returns
returns g c =
    a_delete c.delete.ensures
