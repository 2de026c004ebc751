use Rattle.std.proofs.Common.{arith}
use Rattle.ranges.proofs.Rounds.{down_of}
use Rattle.ranges.proofs.part_size.PartSize.round_down.Goals as goal

pub returns : goal.returns
returns c = search (arith, down_of)
