use Rattle.std.proofs.Common.{refl, arith}
use Rattle.std.proofs.lemmas.List.{take_more_set}
use Rattle.records.proofs.attributes.Attributes.push.Goals as goal

pub returns : goal.returns
returns c = (omega arith, refl, take_more_set c.args.self.now.entries c.args.self.now.len c.args.entry (omega arith))
