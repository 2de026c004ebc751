use Rattle.std.proofs.Common.{Some, None, refl, inl, inr, arith}
use Rattle.std.proofs.lemmas.Str.Pattern.{split_parts}
use Rattle.head_text.proofs.draft.Draft.with_word.Goals as goal

pub returns-in-Some : goal.returns-in-Some
returns-in-Some c =
    let parts = split_parts 61 c.args.word.now (Some (c.in-Some.name, c.in-Some.text)) c.in-Some.ensures.cases (omega arith) in
    record { reads = inr (c.in-Some.name.now, c.in-Some.text.now, parts.0, record { never = parts.1 }, c.with_named.ensures) }

pub returns-in-None : goal.returns-in-None
returns-in-None c =
    record { reads = inl (record { never = split_parts 61 c.args.word.now None c.in-None.ensures.cases (omega arith) }, refl) }
