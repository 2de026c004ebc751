use Rattle.std.proofs.Common.{◌≡◌, ◌*◌, ◌≤◌, length, take}
use Rattle.stored_head.specs.Heads.{pairs, attributes_form}
use Rattle.stored_head.proofs.attributes.attributes_len.Given as goal

abbrev pub invariant-loop-entry : goal.invariant-loop-entry
invariant-loop-entry l = (l.len ≡ length (attributes_form (pairs (take l.entry-index l.entries)))) × (l.len ≤ 98 * l.entry-index)
