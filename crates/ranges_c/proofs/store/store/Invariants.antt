use Rattle.std.proofs.Common.{◌≡◌, ◌*◌, ◌++◌, take, drop}
use Rattle.ranges_c.specs.Numbers.{in_bytes}
use Rattle.ranges_c.proofs.store.store.Given as goal

-- the numbers so far, and behind them what was there
abbrev pub invariant-loop-i : goal.invariant-loop-i
invariant-loop-i l = l.out ≡ in_bytes (take l.i l.numbers) ++ drop (8 * l.i) l.initial.out
