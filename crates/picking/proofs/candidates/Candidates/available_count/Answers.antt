use Rattle.std.proofs.Common.{Bool, Bor, length, ap, arith}
use Rattle.std.proofs.lemmas.List.{length_push}
use Rattle.index.specs.declared.record.KeyRecord.{KeyRecord}
use Rattle.picking.proofs.Unpicked.{pair_left}
use Rattle.picking.proofs.candidates.Candidates.available_count.Goals as goal

pub loop-picked-preserved-then-not-picked : goal.loop-picked-preserved-then-not-picked
loop-picked-preserved-then-not-picked c =
    let pair : Bor KeyRecord × Bor Bool = (c.in-Some.field-0-0, c.in-Some.picked) in
    let longer = length_push c.loop-picked.yielded pair in
    let step = ap length ((pair_left c.args.self.now.keys.now c.args.self.now.picked c.loop-picked.yielded c.into_iter-picked-iterator.result c.loop-picked.picked-iterator c.next.new.self c.next.result (cc) (cc) c.loop-picked.yielded_by pair c.in-Some.is c.next.ensures.steps).1 c.if-not-picked.true) in
    (omega arith, omega arith)

pub loop-picked-preserved : goal.loop-picked-preserved
loop-picked-preserved c =
    let pair : Bor KeyRecord × Bor Bool = (c.in-Some.field-0-0, c.in-Some.picked) in
    let longer = length_push c.loop-picked.yielded pair in
    let step = ap length ((pair_left c.args.self.now.keys.now c.args.self.now.picked c.loop-picked.yielded c.into_iter-picked-iterator.result c.loop-picked.picked-iterator c.next.new.self c.next.result (cc) (cc) c.loop-picked.yielded_by pair c.in-Some.is c.next.ensures.steps).0 c.if-not-picked.false) in
    (omega arith, omega arith)
