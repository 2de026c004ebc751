use Rattle.std.proofs.Common.{◌≡◌, slice_set}
use Rattle.head_damage.proofs.damage.changed_at.Given as goal

abbrev pub invariant-loop-step : goal.invariant-loop-step
invariant-loop-step l = slice_set l.bytes l.i l.was ≡ l.fn.bytes
