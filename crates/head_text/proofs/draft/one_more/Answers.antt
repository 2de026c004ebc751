use Rattle.std.proofs.Common.{refl, inr}
use Rattle.std.proofs.lemmas.Result.{err_from_is_err_and}
use Rattle.head_text.proofs.draft.one_more.Goals as goal

pub returns-in_err-push : goal.returns-in_err-push
returns-in_err-push c =
    let full = c.in_err-push.ensures in
    let failed = err_from_is_err_and c.from_residual-in_err-push.result c.from_residual-in_err-push.ensures.1 in
    rw (failed.1, failed.2)
    (record { reads = inr (c.in_ok-entry.entry, c.in_ok-entry.ensures, full.0, record { why = c.in_err-push.field-0.0; is = refl; refusal = full.1 }) })
