use Rattle.evictor.proofs.Bounds.{saves_bound}
use Rattle.evictor.proofs.Whole.{a_save}
use Rattle.evictor.proofs.storage.EvictingCacheLocalCacheStorage.save_head.Goals as goal

pub invariant_of-self : goal.invariant_of-self
invariant_of-self g c =
    record { bound = saves_bound _ _ _ _ c.save_head.ensures.few c.save_head.ensures.saves.2 c.args.self.now.bound }

pub returns : goal.returns
returns g c =
    let saved = c.save_head.ensures.saves in
    (saved.0, saved.1, a_save saved.2)
