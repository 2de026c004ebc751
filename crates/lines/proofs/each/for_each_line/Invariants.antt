use Rattle.std.proofs.Common.{◌≡◌}
use Rattle.std.specs.Iterator.Adapters.{enumerate_source, enumerate_count}
use Rattle.std.specs.Io.Iter.{split_byte, split_known_bytes}
use Rattle.lines.proofs.Visiting.{Keeps}
use Rattle.lines.proofs.each.for_each_line.Given as goal

abbrev pub invariant-loop-i : goal.invariant-loop-i
invariant-loop-i g l =
    goal.F-IsAlwaysCallable g l.visit
    × (split_byte (enumerate_source l.i-iterator) ≡ 10)
    × Keeps (λ f n t r h. goal.F-step g f n t r h) (g.R.Read.remaining l.fn.input) (split_known_bytes g.R.Read.remaining (enumerate_source l.i-iterator)) l.fn.visit l.visit (enumerate_count l.i-iterator)
