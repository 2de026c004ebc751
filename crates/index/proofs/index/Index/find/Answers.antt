use Rattle.std.proofs.Common.{◌≡◌, false, rules}
use Rattle.std.proofs.lemmas.Iterator.{IsFirst-from_position, YieldsList-from_slice}
use Rattle.cache.specs.Keys.{key_of, same_key}
use Rattle.index.specs.declared.record.KeyRecord.{KeyRecord}
use Rattle.index.proofs.Places.{searched}
use Rattle.index.proofs.index.Index.find.Goals as goal
use borrow.Author.Tests.{tests}

pub returns-clause-found : goal.returns-clause-found
returns-clause-found c =
    let k = key_of c.args.key.now in
    let Yes : KeyRecord → Type 0 = λ r. key_of r.key ≡ k in
    let No : KeyRecord → Type 0 = λ r. same_key (key_of r.key) k ≡ false in
    let rs = c.self.inside.table.records.items in
    rw (← c.self.view_is)
    (searched k rs c.position.result
    (IsFirst-from_position _ _ c.position.result Yes No c.position.ensures.ran (YieldsList-from_slice rs cc) (λ x q h. search (rules, tests)) (λ x q h. search (rules, tests))))
