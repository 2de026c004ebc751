use Rattle.stored_head.proofs.Lawful.{stored_laws, stored_example}
use Rattle.stored_head.proofs.laws.stored_forms_are_exact.Goals as goal

pub returns : goal.returns
returns c = record { laws = stored_laws; examples = (c.definitions_are_exact.ensures.examples, stored_example) }
