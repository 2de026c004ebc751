use Rattle.head_text.proofs.Entering.{entered}
use Rattle.head_text.proofs.said.entry.Goals as goal

pub returns : goal.returns
returns c =
    entered c.args.name.now c.args.text.now c.in_ok-attribute.field-0 c.valued.result c.in_ok-attribute.ensures c.valued.ensures
