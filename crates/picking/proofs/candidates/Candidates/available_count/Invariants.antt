use Rattle.std.proofs.Common.{◌≡◌, ◌+◌, ◌≤◌, length, drop}
use Rattle.picking.specs.Left.{table_of, left_in}
use Rattle.picking.specs.Picks.{unpicked}
use Rattle.picking.proofs.candidates.Candidates.available_count.Given as goal

-- what was counted and what is left to count
abbrev pub invariant-loop-picked : goal.invariant-loop-picked
invariant-loop-picked l =
    let n = length l.yielded in
    (l.count ≤ n) × (l.count + length (unpicked (drop n l.self.picked) (drop n (table_of l.self))) ≡ length (left_in l.self))
