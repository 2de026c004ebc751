use Rattle.std.proofs.Common.{rules, of_calls}
use Rattle.std.proofs.lemmas.Result.{IfOk-weaker}
use Rattle.planning.proofs.Lined.{collected}
use Rattle.planning.proofs.split.words_of.Goals as goal

pub returns : goal.returns
returns c =
    IfOk-weaker c.collect.result _ _
    (λ v k. collected _ (λ f w b h called. search (rules, of_calls)) c.args.line.now k.0 v.items c.take_while.result k.1.0 (k.1.2 tt).0
    (search rules) k.2.0 (search rules) k.1.1 (k.1.2 tt).1)
    c.collect.ensures.ran
