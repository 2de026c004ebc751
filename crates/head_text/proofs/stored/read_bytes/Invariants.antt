use Rattle.std.proofs.Common.{take, vec_items}
use Rattle.head_text.specs.Bytes.{Lists}
use Rattle.head_text.proofs.stored.read_bytes.Given as goal

abbrev pub invariant-loop-i : goal.invariant-loop-i
invariant-loop-i l = Lists (take l.i l.words) (vec_items l.bytes)
