use Rattle.std.proofs.Common.{length}
use Rattle.cache.specs.Keys.{path_bytes}
use Rattle.index.proofs.PathRemoval.{PartsGone}
use Rattle.index.proofs.index.Index.remove_path.Given as goal

abbrev pub invariant-loop-part : goal.invariant-loop-part
invariant-loop-part l = PartsGone (path_bytes l.path) l.initial.self l.self

abbrev pub decreases-loop-part : goal.decreases-loop-part
decreases-loop-part l = length l.self
