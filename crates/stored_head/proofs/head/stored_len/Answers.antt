use Rattle.std.proofs.Common.{length, sym, ap, subst, arith}
use Rattle.stored_head.specs.Heads.{attributes_form, pairs}
use Rattle.stored_head.specs.Numbers.{Number}
use Rattle.stored_head.proofs.Whole.{stored_some}
use Rattle.stored_head.proofs.head.stored_len.Goals as goal

pub returns : goal.returns
returns c =
    let h = c.args.head.now in
    let entries = ap (λ es. length (attributes_form (pairs es))) c.as_slice.ensures.value in
    record {
      long = stored_some h c.number_len.result c.number_len-2.result _
          (λ a x. c.number_len.ensures.long a (subst (Number a) (sym c.size.ensures) x))
          (λ b y. c.number_len-2.ensures.long b (subst (Number b) (sym c.time.ensures) y))
          (omega (arith, c.label_len.ensures.value, c.label_len-2.ensures.value, c.attributes_len.ensures.value));
      bound = omega (arith, c.number_len.ensures.bound, c.number_len-2.ensures.bound, c.label_len.ensures.bound, c.label_len-2.ensures.bound, c.attributes_len.ensures.bound);
    }
