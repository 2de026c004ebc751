use Rattle.std.proofs.Common.{take}
use Rattle.head_text.specs.Drafts.{Reads}
use Rattle.head_text.proofs.read.read_head.Given as goal

abbrev pub invariant-loop-i : goal.invariant-loop-i
invariant-loop-i l = Reads l.initial.draft (take l.i l.words) l.draft
