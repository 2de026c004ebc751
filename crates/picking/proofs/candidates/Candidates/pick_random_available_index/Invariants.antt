use Rattle.std.proofs.Common.{◌<◌}
use Rattle.picking.specs.Picks.{Misses}
use Rattle.picking.proofs.candidates.Candidates.pick_random_available_index.Given as goal

-- every draw so far was not available
abbrev pub invariant-loop-tried : goal.invariant-loop-tried
invariant-loop-tried g l = (l.last < l.n) × Misses g.H.Host.draws l.n l.self.picked l.but l.initial.host l._tried l.host l.last
