use Rattle.std.proofs.Common.{◌≡◌, ◌+◌, ◌≤◌, ◌++◌, length, take}
use Rattle.stored_head.specs.Heads.{pairs, merged}
use Rattle.stored_head.specs.Loads.{Kinds}
use Rattle.stored_head.proofs.loading.merged.Given as goal

-- what is kept so far, and then what is left merged
abbrev pub invariant-loop-left : goal.invariant-loop-left
invariant-loop-left l =
    (merged (pairs l.entries) ≡ pairs (take l.all.len l.all.entries) ++ merged (pairs l.left)) × Kinds (take l.all.len l.all.entries)
    × (l.all.len + length l.left ≤ 8)

abbrev pub decreases-loop-left : goal.decreases-loop-left
decreases-loop-left l = length l.left
