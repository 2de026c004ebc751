use Rattle.std.proofs.Common.{rules}
use Rattle.head_text.proofs.Spelling.{again, ends, refuses}
use Rattle.head_text.proofs.escape.unescaped.Goals as goal

pub returns-in_default-first_byte : goal.returns-in_default-first_byte
returns-in_default-first_byte c = refuses c.loop-left.invariant (search rules) c.in_default-first_byte.ensures

pub loop-left-preserved : goal.loop-left-preserved
loop-left-preserved c = again c.loop-left.invariant c.in-Some.b c.in-Some.more.now (search rules) c.in-Some.ensures c.in_ok-push.ensures.items

pub returns : goal.returns
returns c = ends c.loop-left.invariant (search rules)
