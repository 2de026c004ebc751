use Rattle.std.proofs.Common.{◌+◌, ◌%◌, ◌∷◌, length, arith}
use Rattle.stored_head.proofs.Groups.{room_some, below_less, number_make, written_single, written_more}
use Rattle.stored_head.proofs.numbers.+push_number.Goals as goal

pub push-requires : goal.push-requires
push-requires t c = room_some c.args.n c.args.more c.args.form.now.len (length c.args.form.now.room.now) c.requires.below c.requires.room

pub returns-then-n-lt128-clause-behind : goal.returns-then-n-lt128-clause-behind
returns-then-n-lt128-clause-behind t c = written_single c.args.form.now.len c.args.n c.if-n-lt128.true _ _ _ c.push.ensures.behind

pub push-requires-2 : goal.push-requires-2
push-requires-2 t c = room_some c.args.n c.args.more c.args.form.now.len (length c.args.form.now.room.now) c.requires.below c.requires.room

pub push_number-requires : goal.push_number-requires
push_number-requires t c =
    let less = below_less c.args.n c.args.more c.if-n-lt128.false c.requires.below in (
      omega (arith, less.0),
      (
        less.1,
        λ bs form. omega (
          arith,
          c.requires.room ((128 + c.args.n % 128) ∷ bs) (number_make bs c.args.n c.if-n-lt128.false form),
          c.push-2.ensures.long,
          c.push-2.ensures.behind.place,
        ),
      ),
    )

pub returns-clause-behind : goal.returns-clause-behind
returns-clause-behind t c =
    written_more c.args.n c.if-n-lt128.false c.args.form.now.room.now c.args.form.now.len _ _ _ _
    (omega (arith, room_some c.args.n c.args.more c.args.form.now.len (length c.args.form.now.room.now) c.requires.below c.requires.room))
    (rw c.low_group.ensures at c.push-2.ensures.behind) c.push_number.ensures.behind
