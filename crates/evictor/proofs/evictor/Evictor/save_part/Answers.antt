use Rattle.std.proofs.Common.{rules}
use Rattle.evictor.proofs.Refusals.{part_saved}
use Rattle.evictor.proofs.evictor.Evictor.save_part.Goals as goal

pub returns-clause-saves : goal.returns-clause-saves
returns-clause-saves g c = part_saved (λ d r after called. search rules) c.save_with.ensures.saves
