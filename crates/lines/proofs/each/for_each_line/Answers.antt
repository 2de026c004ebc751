use Rattle.std.proofs.Common.{rules, of_calls}
use Rattle.std.specs.Iterator.Adapters.{enumerate_source}
use Rattle.std.specs.Io.Iter.{split_known_bytes}
use Rattle.lines.proofs.Visiting.{goes_on}
use Rattle.lines.proofs.each.for_each_line.Goals as goal

pub loop-i-preserved : goal.loop-i-preserved
loop-i-preserved g c = (
  search of_calls,
  search rules,
  goes_on (goal.F-step g) _ (split_known_bytes g.R.Read.remaining (enumerate_source c.loop-i.i-iterator)) _ _ c.loop-i.visit _
      _ c.in-Some.i _ c.in_ok-bytes.bytes.items c.from_utf8.result
      c.loop-i.invariant.2 (search rules) (search rules) (search rules) (search rules) c.in_ok-visit.ensures,
)
