use Rattle.std.proofs.Common.{rules}
use Rattle.std.proofs.lemmas.Iterator.{YieldsList-from_slice}
use Rattle.std.proofs.lemmas.Iterator.Consumers.{YieldsList-from_filter_map}
use Rattle.cache.specs.Keys.{key_of, path_bytes}
use Rattle.index.specs.declared.record.KeyRecord.{KeyRecord}
use Rattle.index.specs.Parts.{part_number}
use Rattle.index.proofs.SmallestPart.{least_is_smallest}
use Rattle.index.proofs.index.Index.smallest_part.Goals as goal
use borrow.Author.Tests.{tests}

pub returns-clause-smallest : goal.returns-clause-smallest
returns-clause-smallest c =
    let path = path_bytes c.args.path.now in
    let rs = c.self.inside.table.records.items in
    rw (← c.self.view_is)
    (least_is_smallest path rs _ c.reduce.ensures.ran (λ m n r q k. search (rules, tests))
    (YieldsList-from_filter_map _ (λ (r : KeyRecord). part_number path (key_of r.key)) (YieldsList-from_slice rs cc) c.filter_map.ensures.closure (λ x r q k. search (rules, tests))))
