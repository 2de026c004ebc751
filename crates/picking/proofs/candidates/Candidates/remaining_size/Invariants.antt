use Rattle.std.proofs.Common.{◌≡◌, ◌+◌, ◌*◌, ◌^◌, ◌≤◌, length, drop}
use Rattle.cache.specs.Tracking.{sizes}
use Rattle.picking.specs.Left.{table_of, left_in}
use Rattle.picking.specs.Picks.{unpicked}
use Rattle.picking.proofs.candidates.Candidates.remaining_size.Given as goal

-- what was summed and what is left to sum
abbrev pub invariant-loop-key : goal.invariant-loop-key
invariant-loop-key l =
    let n = length l.yielded in
    (l.sum ≤ n * 2 ^ 64) × (l.sum + sizes (unpicked (drop n l.self.picked) (drop n (table_of l.self))) ≡ sizes (left_in l.self))
