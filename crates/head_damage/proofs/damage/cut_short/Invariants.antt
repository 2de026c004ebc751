use Rattle.std.proofs.Common.{◌≡◌}
use Rattle.head_damage.proofs.damage.cut_short.Given as goal

abbrev pub invariant-loop-end : goal.invariant-loop-end
invariant-loop-end l = l.count.forms ≡ l.end
