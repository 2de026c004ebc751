use Rattle.std.proofs.Common.{length, sym, ap, ◌∙◌, arith}
use Rattle.stored_head.proofs.Named.{form_none, form_more_long, form_all}
use Rattle.stored_head.proofs.attributes.attributes_len.Goals as goal

pub loop-entry-init : goal.loop-entry-init
loop-entry-init c = (sym (ap length form_none), omega arith)

pub loop-entry-preserved : goal.loop-entry-preserved
loop-entry-preserved c =
    let more = form_more_long c.args.entries.now c.loop-entry.entry-index c.entry-item.result c.loop-entry-test.true c.entry-item.is in
    let name = ap length c.name.ensures.value in
    let value = ap length c.as_slice.ensures.value in
    (omega (arith, c.loop-entry.invariant.0), omega (arith, c.loop-entry.invariant.1, c.name.ensures.long, c.as_slice.ensures.len))

pub returns : goal.returns
returns c = record {
  value = c.loop-entry.invariant.0 ∙ ap length (form_all c.args.entries.now c.loop-entry.entry-index c.loop-entry-test.false);
  bound = omega (arith, c.loop-entry.invariant.1);
}
