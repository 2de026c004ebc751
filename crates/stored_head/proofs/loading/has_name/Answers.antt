use Rattle.std.proofs.Common.{◌∙◌, rules, tests}
use Rattle.std.specs.Str.{bytes_eq}
use Rattle.std.proofs.lemmas.Iterator.{YieldsList-from_slice}
use Rattle.std.proofs.lemmas.Iterator.Search.{any_from_yields_List}
use Rattle.std.proofs.lemmas.Slice.Eq.{bytes_eq-Decides}
use Rattle.stored_head.specs.Heads.{pair}
use Rattle.stored_head.proofs.Merging.{name_in_any}
use Rattle.stored_head.proofs.loading.has_name.Goals as goal

pub returns : goal.returns
returns c =
    any_from_yields_List (λ e. bytes_eq c.args.name.now (pair e).0) _ _ _ c.any.ensures.ran (YieldsList-from_slice c.args.entries.now cc)
    (λ x b q k. search (rules, tests, bytes_eq-Decides))
    ∙ name_in_any c.args.name.now c.args.entries.now
