use Rattle.evictor.proofs.Bounds.{reads_bound}
use Rattle.evictor.proofs.Whole.{a_read}
use Rattle.evictor.proofs.storage.EvictingCacheLocalCacheStorage.read_head.Goals as goal

pub invariant_of-self : goal.invariant_of-self
invariant_of-self g c = record { bound = reads_bound _ _ c.read_head.ensures.state c.args.self.now.bound }

pub returns-clause-state : goal.returns-clause-state
returns-clause-state g c = a_read c.read_head.ensures.state
