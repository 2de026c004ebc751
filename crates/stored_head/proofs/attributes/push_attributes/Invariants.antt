use Rattle.std.proofs.Common.{◌≡◌, length, take}
use Rattle.stored_head.specs.Forms.{Wrote}
use Rattle.stored_head.specs.Heads.{pairs, attributes_form}
use Rattle.stored_head.proofs.attributes.push_attributes.Given as goal

abbrev pub invariant-loop-entry : goal.invariant-loop-entry
invariant-loop-entry l =
    (l.form.room.ghost_name ≡ l.initial.form.room.ghost_name) × (length l.form.room.now ≡ length l.initial.form.room.now)
    × Wrote l.initial.form.room.now l.initial.form.len (attributes_form (pairs (take l.entry-index l.entries))) l.form.len l.form.room.now
