use Rattle.std.proofs.Common.{refl}
use Rattle.std.proofs.lemmas.Result.{err_from_is_err_and}
use Rattle.evictor.specs.Evicts.{refused_below, accepted}
use Rattle.evictor.proofs.Refusals.{no_room}
use Rattle.evictor.proofs.evictor.Evictor.save_with.Goals as goal

pub returns-then-not-has_room-clause-saves : goal.returns-then-not-has_room-clause-saves
returns-then-not-has_room-clause-saves g c = no_room c.new.result c.new.ensures c.if-not-has_room.ensures.room

pub returns-in_err-save-clause-saves : goal.returns-in_err-save-clause-saves
returns-in_err-save-clause-saves g c =
    let p = err_from_is_err_and c.from_residual.result c.from_residual.ensures.1 in
    rw (p.1, p.2) (refused_below c.if-not-has_room.ensures.room (record { shown = _; shows = refl; left = _; met = c.in_err-save.ensures; leaves = refl }) refl)

pub returns-clause-saves : goal.returns-clause-saves
returns-clause-saves g c = accepted c.if-not-has_room.ensures.room (record { shown = _; shows = refl; left = _; met = c.in_ok-save.ensures; leaves = refl }) c.note_save.ensures
