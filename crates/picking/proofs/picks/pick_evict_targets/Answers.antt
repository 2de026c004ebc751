use Rattle.std.proofs.Common.{◌≡◌, List, length, get_or, sym, ap, ◌∙◌, subst, arith}
use Rattle.std.proofs.lemmas.List.{length-map, map_push}
use Rattle.cache.specs.Tracking.{Entry}
use Rattle.index.specs.Table.{entry_of, entries_of}
use Rattle.picking.specs.Left.{table_of}
use Rattle.picking.specs.Picks.{unpicked, Pick}
use Rattle.picking.proofs.Picked.{picked_length}
use Rattle.picking.proofs.Read.{read_entry}
use Rattle.picking.proofs.Run.{more_to_pick, two_left, run_begins, run_grows}
use Rattle.picking.proofs.Unpicked.{length_marked}
use Rattle.picking.proofs.picks.pick_evict_targets.Goals as goal

pub loop-candidates-init : goal.loop-candidates-init
loop-candidates-init g c =
    record { keys = c.of-candidates.ensures.keys; run = run_begins g.H.Host.draws c.of-candidates.ensures.picked (ap entries_of c.clear.ensures) }

pub push-requires : goal.push-requires
push-requires g c =
    let candidates = c.loop-candidates.candidates in
    let few = candidates.few in
    let same = ap (λ (es : List Entry). length (unpicked candidates.picked es)) c.loop-candidates.invariant.keys in
    let keys = ap (λ (es : List Entry). length es) c.loop-candidates.invariant.keys in
    let table = length-map candidates.keys.now entry_of in
    let two = two_left (table_of candidates) candidates.picked c.args.target (sym c.loop-candidates-test.ensures) in
    let parts = picked_length g.H.Host.draws {es = c.args.index.now} (omega arith) c.loop-candidates.invariant.run in
    let taken = length-map c.loop-candidates.targets entry_of in
    omega arith

pub loop-candidates-smaller : goal.loop-candidates-smaller
loop-candidates-smaller g c =
    let candidates = c.loop-candidates.candidates in
    let few = candidates.few in
    let long = candidates.whole in
    let table = length-map candidates.keys.now entry_of in
    let place = c.pick_one-place in
    let within = place.ensures.within in
    let same = ap (λ ks. length (unpicked c.pick.new.self.picked (entries_of ks))) c.pick.ensures.keys in
    let marked = ap (λ ms. length (unpicked ms (table_of candidates))) c.pick.ensures.picked in
    let falls = length_marked candidates.picked (table_of candidates) place.result (omega arith) (omega arith) place.ensures.fresh in
    omega arith

pub loop-candidates-preserved : goal.loop-candidates-preserved
loop-candidates-preserved g c =
    let candidates = c.loop-candidates.candidates in
    let same = c.loop-candidates.invariant.keys in
    let place = c.pick_one-place in
    let entry = entry_of c.pick.result in
    let is : entry ≡ get_or (table_of candidates) place.result entry
    = ap entry_of c.pick.ensures.key ∙ sym (read_entry candidates.keys.now place.result c.pick.result entry place.ensures.within) in
    record {
      keys = ap entries_of c.pick.ensures.keys ∙ same;
      run =
          run_grows g.H.Host.draws c.loop-candidates.invariant.run
          (ap (λ es. more_to_pick es candidates.picked c.args.target) (sym same) ∙ sym c.loop-candidates-test.ensures)
          (subst (λ es. Pick g.H.Host.draws es candidates.picked c.loop-candidates.host place.result entry place.new.host) same (place.ensures.pick entry is))
          c.pick.ensures.picked
          (ap entries_of c.push.ensures ∙ map_push entry_of c.loop-candidates.targets c.pick.result);
    }
