use Rattle.std.proofs.Common.{sym, subst}
use Rattle.index.specs.Table.{entries_of}
use Rattle.evictor.specs.Evicts.{Forgettable}
use Rattle.evictor.proofs.Forgetting.{picks_forgettable}
use Rattle.evictor.proofs.evictor.Evictor.evict.Goals as goal

pub forget-requires : goal.forget-requires
forget-requires g c =
    let picking = c.pick_evict_targets.ensures in
    subst (λ l. Forgettable c.args.self.now.index (entries_of l)) (sym c.as_slice.ensures)
    (picks_forgettable g.H.Host.draws picking.table.few picking.table.distinct picking.picks)
