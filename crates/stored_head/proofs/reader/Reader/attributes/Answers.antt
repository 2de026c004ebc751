use Rattle.std.proofs.Common.{ap, ◌∙◌, ◌+◌, arith}
use Rattle.std.proofs.lemmas.List.{length-take-le}
use Rattle.records.specs.Bytes.{entries_of}
use Rattle.stored_head.proofs.Named.{attributes_begin, attributes_step, no_attributes}
use Rattle.stored_head.proofs.reader.Reader.attributes.Goals as goal

pub loop-read-init : goal.loop-read-init
loop-read-init c = let begin = attributes_begin c.args.self.now.left.now _ c.new-attributes.ensures.1 in (c.new-attributes.ensures.0, begin.0, begin.1)

pub returns-in_err-entry : goal.returns-in_err-entry
returns-in_err-entry c =
    let known = c.loop-read.attributes in
    rw c.from_residual.ensures
    (no_attributes c.args.self.now.left.now _ (entries_of known) c.loop-read.invariant.2 c.loop-read._read c.args.count
    (omega arith) (length-take-le known.len known.entries (omega (arith, known.whole, known.few)) ∙ c.loop-read.invariant.0) c.in_err-entry.ensures)

pub loop-read-preserved : goal.loop-read-preserved
loop-read-preserved c =
    let known = c.loop-read.attributes in
    let pushed = rw c.unwrap.ensures at c.push.ensures in
    let step = attributes_step c.args.self.now.left.now _ (entries_of known) c.loop-read.invariant.2
    (entries_of c.push.new.self) _ _ pushed.2 c.loop-read.invariant.1 c.in_ok-entry.ensures in
    (pushed.1 ∙ ap (λ n. n + 1) c.loop-read.invariant.0, step.0, step.1)
