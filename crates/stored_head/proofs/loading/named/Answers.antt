use Rattle.std.proofs.Common.{ap, ◌∙◌}
use Rattle.records.specs.Bytes.{bytes_of}
use Rattle.stored_head.proofs.Merging.{named_kind}
use Rattle.stored_head.proofs.loading.named.Goals as goal

pub returns : goal.returns
returns c =
    let made = rw c.unwrap-key.ensures at c.new.ensures in
    let known = named_kind c.unwrap-key.result c.named.result c.named.ensures in
    record { same = ap (λ n. (n, bytes_of c.args.entry.now.value)) (known.0 ∙ made.1 ∙ c.name.ensures.value); kind = known.1 }
