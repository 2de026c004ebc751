use Rattle.std.proofs.Common.{◌-◌, ◌∷◌, ◌++◌, length, take, drop, sym, ap, ◌∙◌, subst, arith}
use Rattle.std.proofs.lemmas.Slice.{first_rest}
use Rattle.stored_head.specs.Heads.{pairs, name_in, merged}
use Rattle.stored_head.specs.Loads.{Kinds}
use Rattle.stored_head.proofs.Merging.{merged_keeps, kinds_none, kinds_push}
use Rattle.stored_head.proofs.loading.merged.Goals as goal

pub loop-left-init : goal.loop-left-init
loop-left-init c = (
  ap (λ xs. pairs xs ++ merged (pairs c.args.entries.now)) (sym c.new-all.ensures.1),
  kinds_none _ c.new-all.ensures.1,
  omega (arith, c.new-all.ensures.0),
)

pub loop-left-preserved-then-not-has_name : goal.loop-left-preserved-then-not-has_name
loop-left-preserved-then-not-has_name c =
    let left = c.loop-left.left.now in
    let later = take (length left - 1) (drop 1 left) in
    let e = c.entry-item.result in
    let all = c.loop-left.all in
    let more = c.push.new.self in
    let pushed = rw c.unwrap.ensures at c.push.ensures in
    let split = first_rest left e (omega arith) ∙ ap (λ x. x ∷ later) (sym c.entry-item.is) in
    let last = ap (λ n. name_in n (pairs later)) (sym c.name.ensures.value) ∙ sym c.has_name.ensures ∙ c.if-not-has_name.true in (
      merged_keeps c.args.entries.now left later e split (take all.len all.entries) (take more.len more.entries) c.named.result
          c.loop-left.invariant.0 last pushed.2 c.named.ensures.same,
      subst Kinds (sym pushed.2) (kinds_push _ c.named.result c.loop-left.invariant.1 c.named.ensures.kind),
      omega (arith, c.loop-left.invariant.2, pushed.1),
    )
