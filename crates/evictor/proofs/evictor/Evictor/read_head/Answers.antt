use Rattle.std.proofs.Common.{sym, refl}
use Rattle.evictor.specs.Evicts.{not_tracked, not_answered, answered}
use Rattle.evictor.proofs.evictor.Evictor.read_head.Goals as goal

pub returns-then-not-is_tracked-clause-state : goal.returns-then-not-is_tracked-clause-state
returns-then-not-is_tracked-clause-state g c = not_tracked (sym c.if-not-is_tracked.ensures.answer) refl

pub returns-in_err-head-clause-state : goal.returns-in_err-head-clause-state
returns-in_err-head-clause-state g c =
    rw c.from_residual.ensures (not_answered (sym c.if-not-is_tracked.ensures.answer) c.in_err-head.ensures.state refl)

pub returns-clause-state : goal.returns-clause-state
returns-clause-state g c = answered (sym c.if-not-is_tracked.ensures.answer) c.in_ok-head.ensures.state c.note_read.ensures
