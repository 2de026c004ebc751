use Rattle.std.proofs.Common.{Some, sym, refl}
use Rattle.cache.specs.Caches.{PartRead}
use Rattle.evictor.specs.Evicts.{not_tracked, not_answered, answered}
use Rattle.evictor.proofs.Through.{through}
use Rattle.evictor.proofs.evictor.Evictor.read_part.Goals as goal

pub returns-then-not-is_tracked-clause-state : goal.returns-then-not-is_tracked-clause-state
returns-then-not-is_tracked-clause-state g c = not_tracked (sym c.if-not-is_tracked.ensures.answer) refl

pub returns-in_err-count-clause-state : goal.returns-in_err-count-clause-state
returns-in_err-count-clause-state g c =
    rw c.from_residual.ensures (not_answered (sym c.if-not-is_tracked.ensures.answer) c.in_err-count.ensures.state refl)

pub returns-clause-state : goal.returns-clause-state
returns-clause-state g c = answered (sym c.if-not-is_tracked.ensures.answer) c.in_ok-count.ensures.state c.note_read.ensures

pub returns-clause-answer : goal.returns-clause-answer
returns-clause-answer g c =
    through (λ o. PartRead o c.args.piece.start c.args.piece.end c.args.out.now c.read_part.new.out (Some c.in_ok-count.count)) _ _
    (sym c.if-not-is_tracked.ensures.answer) c.in_ok-count.ensures.answer
