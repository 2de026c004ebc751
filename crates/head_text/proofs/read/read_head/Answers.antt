use Rattle.head_text.proofs.Reading.{reads_none, reads_more, wrong_at, reads_all}
use Rattle.head_text.proofs.read.read_head.Goals as goal

pub loop-i-init : goal.loop-i-init
loop-i-init c = reads_none c.new-draft.result

pub returns-in-Err : goal.returns-in-Err
returns-in-Err c =
    wrong_at c.new-draft.result c.loop-i.draft c.args.words.now c.loop-i.i _ c.in-Err.wrong c.new-draft.ensures c.loop-i-test.true c.loop-i.invariant c.in-Err.ensures

pub loop-i-preserved : goal.loop-i-preserved
loop-i-preserved c =
    reads_more c.new-draft.result c.loop-i.draft c.in-Ok.next c.args.words.now c.loop-i.i _ c.loop-i-test.true c.loop-i.invariant c.in-Ok.ensures

pub returns : goal.returns
returns c =
    reads_all c.new-draft.result c.loop-i.draft c.args.words.now c.loop-i.i c.head.result c.new-draft.ensures c.loop-i-test.false c.loop-i.invariant c.head.ensures
