use Rattle.std.proofs.Common.{length, vec_items}
use Rattle.head_text.proofs.Spelling.{Sofar}
use Rattle.head_text.proofs.escape.unescaped.Given as goal

abbrev pub invariant-loop-left : goal.invariant-loop-left
invariant-loop-left l = Sofar l.text l.left (vec_items l.bytes)

abbrev pub decreases-loop-left : goal.decreases-loop-left
decreases-loop-left l = length l.left
