use Rattle.std.proofs.Common.{◌≡◌}
use Rattle.head_damage.proofs.damage.changed.Given as goal

abbrev pub invariant-loop-i : goal.invariant-loop-i
invariant-loop-i l = l.bytes ≡ l.fn.bytes
