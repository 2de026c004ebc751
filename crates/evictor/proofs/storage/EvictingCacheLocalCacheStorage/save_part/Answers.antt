use Rattle.evictor.proofs.Bounds.{saves_bound}
use Rattle.evictor.proofs.Whole.{a_save}
use Rattle.evictor.proofs.storage.EvictingCacheLocalCacheStorage.save_part.Goals as goal

pub invariant_of-self : goal.invariant_of-self
invariant_of-self g c =
    record { bound = saves_bound _ _ _ _ c.save_part.ensures.few c.save_part.ensures.saves c.args.self.now.bound }

pub returns : goal.returns
returns g c =
    a_save c.save_part.ensures.saves
