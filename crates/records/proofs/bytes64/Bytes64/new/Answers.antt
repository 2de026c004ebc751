use Rattle.std.proofs.Common.{◌-◌, length, arith}
use Rattle.records.proofs.Fill.{put_padded, put_held}
use Rattle.records.proofs.bytes64.Bytes64.new.Goals as goal

pub invariant_of-result : goal.invariant_of-result
invariant_of-result c =
    simp c.copy_from_slice.ensures.after
    (record { padded = put_padded c.args.bytes.now (length c.args.bytes.now - 0) (omega arith) (omega arith) })

pub returns : goal.returns
returns c =
    simp c.copy_from_slice.ensures.after
    (omega arith, put_held c.args.bytes.now (length c.args.bytes.now - 0) (omega arith) (omega arith))
