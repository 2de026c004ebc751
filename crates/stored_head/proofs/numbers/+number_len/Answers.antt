use Rattle.std.proofs.Common.{length, ap, arith}
use Rattle.stored_head.proofs.Groups.{number_single, number_split, below_less}
use Rattle.stored_head.proofs.numbers.+number_len.Goals as goal

pub returns-then-n-lt128 : goal.returns-then-n-lt128
returns-then-n-lt128 t c = record { bound = omega arith; long = λ bs form. ap length (number_single bs c.args.n c.if-n-lt128.true form) }

pub number_len-requires : goal.number_len-requires
number_len-requires t c =
    let less = below_less c.args.n c.args.more c.if-n-lt128.false c.requires.below in
    let measure = c.decreases in
    (omega (arith, less.0), (less.1, omega arith))

pub overflow_add-result : goal.overflow_add-result
overflow_add-result t c =
    record { fits = omega (arith, (below_less c.args.n c.args.more c.if-n-lt128.false c.requires.below).0) }

pub returns : goal.returns
returns t c =
    let less = (below_less c.args.n c.args.more c.if-n-lt128.false c.requires.below).0 in
    record {
      bound = omega arith;
      long = λ bs form.
          let split = number_split bs c.args.n c.if-n-lt128.false form in
          let above = c.number_len.ensures.long split.above split.form in
          let whole = ap length split.joined in
          omega arith;
    }
