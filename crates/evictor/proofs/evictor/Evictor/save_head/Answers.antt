use Rattle.std.proofs.Common.{rules}
use Rattle.evictor.proofs.Refusals.{head_saved}
use Rattle.evictor.proofs.evictor.Evictor.save_head.Goals as goal

pub returns-clause-saves : goal.returns-clause-saves
returns-clause-saves g c = head_saved c.stored_len.ensures.long (λ d r after called. search rules) c.save_with.ensures.saves
