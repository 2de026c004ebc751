use Rattle.std.proofs.Common.{Bool, Bor, ◌∷◌, [], ◌++◌, length, ap, arith}
use Rattle.std.proofs.lemmas.List.{length_push}
use Rattle.std.proofs.lemmas.List.Sums.{sum_by-cons}
use Rattle.cache.specs.Tracking.{Entry, sizes}
use Rattle.index.specs.declared.record.KeyRecord.{KeyRecord}
use Rattle.index.specs.Table.{entry_of}
use Rattle.picking.proofs.Unpicked.{left_from, pair_left}
use Rattle.picking.proofs.candidates.Candidates.remaining_size.Goals as goal

pub loop-key-preserved-then-not-picked : goal.loop-key-preserved-then-not-picked
loop-key-preserved-then-not-picked c =
    let pair : Bor KeyRecord × Bor Bool = (c.in-Some.key, c.in-Some.picked) in
    let longer = length_push c.loop-key.yielded pair in
    let step = ap sizes ((pair_left c.args.self.now.keys.now c.args.self.now.picked c.loop-key.yielded c.into_iter-key-iterator.result c.loop-key.key-iterator c.next.new.self c.next.result (cc) (cc) c.loop-key.yielded_by pair c.in-Some.is c.next.ensures.steps).1 c.if-not-picked.true) in
    let more = sum_by-cons (λ (e : Entry). e.size) (entry_of c.in-Some.key.now) (left_from c.args.self.now.picked c.args.self.now.keys.now (length (c.loop-key.yielded ++ pair ∷ []))) in
    let fits = c.in-Some.key.now.fits in
    (omega arith, omega arith)

pub loop-key-preserved : goal.loop-key-preserved
loop-key-preserved c =
    let pair : Bor KeyRecord × Bor Bool = (c.in-Some.key, c.in-Some.picked) in
    let longer = length_push c.loop-key.yielded pair in
    let step = ap sizes ((pair_left c.args.self.now.keys.now c.args.self.now.picked c.loop-key.yielded c.into_iter-key-iterator.result c.loop-key.key-iterator c.next.new.self c.next.result (cc) (cc) c.loop-key.yielded_by pair c.in-Some.is c.next.ensures.steps).0 c.if-not-picked.false) in
    (omega arith, omega arith)
