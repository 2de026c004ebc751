use Rattle.std.proofs.Common.{vec_items}
use Rattle.head_text.proofs.Listing.{lists_none, lists_more, lists_wrong, lists_all}
use Rattle.head_text.proofs.stored.read_bytes.Goals as goal

pub loop-i-init : goal.loop-i-init
loop-i-init c = lists_none (vec_items c.new-bytes.result) c.new-bytes.ensures.items

pub returns-in_default : goal.returns-in_default
returns-in_default c =
    lists_wrong c.args.words.now c.loop-i.i (vec_items c.loop-i.bytes) _ c.loop-i-test.true c.loop-i.invariant c.in_default.ensures

pub loop-i-preserved : goal.loop-i-preserved
loop-i-preserved c =
    lists_more c.args.words.now c.loop-i.i (vec_items c.loop-i.bytes) (vec_items c.push.new.self) _ c.in-Some.b c.loop-i-test.true c.loop-i.invariant c.in-Some.ensures c.in_ok-push.ensures.items

pub returns : goal.returns
returns c = lists_all c.args.words.now c.loop-i.i (vec_items c.loop-i.bytes) c.loop-i-test.false c.loop-i.invariant
