use Rattle.std.proofs.Common.{ℕ, List, length, take, refl, sym, ap, ◌∙◌, subst, arith}
use Rattle.stored_head.specs.Forms.{Wrote, sized}
use Rattle.stored_head.specs.Heads.{attributes_form, pair, pairs}
use Rattle.stored_head.proofs.Named.{form_none, form_more, form_more_long, form_more_room, form_all}
use Rattle.stored_head.proofs.Sequence.{wrote_none, wrote_two}
use Rattle.stored_head.proofs.attributes.push_attributes.Goals as goal

pub loop-entry-init : goal.loop-entry-init
loop-entry-init c = (
  refl,
  refl,
  subst (λ bs. Wrote c.args.form.now.room.now c.args.form.now.len bs c.args.form.now.len c.args.form.now.room.now) (sym form_none)
      (wrote_none c.args.form.now.room.now c.args.form.now.len),
)

pub push_sized-requires : goal.push_sized-requires
push_sized-requires c =
    let long = form_more_long c.args.entries.now c.loop-entry.entry-index c.entry-item.result c.loop-entry-test.true c.entry-item.is in
    let room = form_more_room c.args.entries.now c.loop-entry.entry-index c.entry-item.result c.loop-entry-test.true c.entry-item.is in
    let name = ap length c.name.ensures.value in
    record { few = omega (arith, c.name.ensures.long); room = omega (arith, c.loop-entry.invariant.1, c.loop-entry.invariant.2.place, c.requires) }

pub push_sized-requires-in-loop-entry : goal.push_sized-requires-in-loop-entry
push_sized-requires-in-loop-entry c =
    let long = form_more_long c.args.entries.now c.loop-entry.entry-index c.entry-item.result c.loop-entry-test.true c.entry-item.is in
    let room = form_more_room c.args.entries.now c.loop-entry.entry-index c.entry-item.result c.loop-entry-test.true c.entry-item.is in
    let name = ap length c.name.ensures.value in
    let value = ap length c.as_slice.ensures.value in
    record {
      few = c.as_slice.ensures.len.1;
      room = omega (
        arith,
        c.loop-entry.invariant.1,
        c.loop-entry.invariant.2.place,
        c.push_sized.ensures.long,
        c.push_sized.ensures.behind.place,
        c.requires,
      );
    }

pub loop-entry-preserved : goal.loop-entry-preserved
loop-entry-preserved c =
    let more = form_more c.args.entries.now c.loop-entry.entry-index c.entry-item.result c.loop-entry-test.true c.entry-item.is in
    let long = form_more_long c.args.entries.now c.loop-entry.entry-index c.entry-item.result c.loop-entry-test.true c.entry-item.is in
    let room = form_more_room c.args.entries.now c.loop-entry.entry-index c.entry-item.result c.loop-entry-test.true c.entry-item.is in
    let so_far : List ℕ = attributes_form (pairs (take c.loop-entry.entry-index c.args.entries.now)) in
    let name = ap length c.name.ensures.value in
    let one = rw c.name.ensures.value at c.push_sized.ensures.behind in
    let two = rw c.as_slice.ensures.value at c.push_sized-in-loop-entry.ensures.behind in (
      c.push_sized-in-loop-entry.ensures.slice ∙ c.push_sized.ensures.slice ∙ c.loop-entry.invariant.0,
      c.push_sized-in-loop-entry.ensures.long ∙ c.push_sized.ensures.long ∙ c.loop-entry.invariant.1,
      subst (λ bs. Wrote c.args.form.now.room.now c.args.form.now.len bs c.push_sized-in-loop-entry.new.form.len c.push_sized-in-loop-entry.new.form.room.now) (sym more)
          (wrote_two c.args.form.now.room.now c.args.form.now.len so_far _ _ (sized (pair c.entry-item.result).0) _ _ (sized (pair c.entry-item.result).1) _ _
          (omega (arith, c.requires)) (omega (arith, c.loop-entry.invariant.1, c.loop-entry.invariant.2.place, c.requires))
          c.loop-entry.invariant.2 one two),
    )

pub returns-clause-behind : goal.returns-clause-behind
returns-clause-behind c =
    subst (λ bs. Wrote c.args.form.now.room.now c.args.form.now.len bs c.loop-entry.form.len c.loop-entry.form.room.now)
    (form_all c.args.entries.now c.loop-entry.entry-index c.loop-entry-test.false) c.loop-entry.invariant.2
