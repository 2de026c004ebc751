use Rattle.std.proofs.Common.{◌-◌, arith}
use Rattle.stored_head.proofs.Groups.{number_one, no_number_long, number_fits, number_more}
use Rattle.stored_head.proofs.reader.Reader.+number.Goals as goal

pub returns-then-byte-lt128 : goal.returns-then-byte-lt128
returns-then-byte-lt128 t c = number_one c.args.self.now.left.now _ _ c.in_ok-byte.ensures c.args.more (omega arith)

pub returns-then-high-eq0 : goal.returns-then-high-eq0
returns-then-high-eq0 t c =
    no_number_long c.args.self.now.left.now _ _ c.in_ok-byte.ensures c.args.more (omega arith) _ (rw c.if-high-eq0.true at c.in_ok-high.ensures)

pub overflow_mul-result : goal.overflow_mul-result
overflow_mul-result t c = record {
  fits = omega (
    arith,
    number_fits c.args.self.now.left.now _ _ c.in_ok-byte.ensures c.args.more (omega arith) (omega arith)
        c.in_ok-high.high _ c.in_ok-high.ensures c.requires 0 (omega arith),
  );
}

pub overflow_add-result : goal.overflow_add-result
overflow_add-result t c = record {
  fits = number_fits c.args.self.now.left.now _ _ c.in_ok-byte.ensures c.args.more (omega arith) (omega arith)
      c.in_ok-high.high _ c.in_ok-high.ensures c.requires (c.in_ok-byte.field-0 - 128) (omega arith);
}

pub returns : goal.returns
returns t c =
    number_more c.args.self.now.left.now _ _ c.in_ok-byte.ensures c.args.more (omega arith) (omega arith)
    c.in_ok-high.high _ c.in_ok-high.ensures (omega arith) (omega arith)
