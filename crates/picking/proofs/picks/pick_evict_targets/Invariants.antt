use Rattle.std.proofs.Common.{◌≡◌, length}
use Rattle.index.specs.Table.{entries_of}
use Rattle.picking.specs.Left.{table_of, left_in}
use Rattle.picking.specs.Picks.{Picking}
use Rattle.picking.proofs.picks.pick_evict_targets.Given as goal

abbrev pub invariant-loop-candidates : goal.invariant-loop-candidates
invariant-loop-candidates g l = record {
  keys : table_of l.candidates ≡ l.index;
  run : Picking g.H.Host.draws l.index l.target l.initial.host l.host l.candidates.picked (entries_of l.targets);
}

abbrev pub decreases-loop-candidates : goal.decreases-loop-candidates
decreases-loop-candidates g l = length (left_in l.candidates)
