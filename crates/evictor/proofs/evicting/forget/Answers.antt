use Rattle.std.proofs.Common.{◌<◌, length}
use Rattle.std.proofs.lemmas.List.{length-map}
use Rattle.index.specs.Table.{entry_of, entries_of}
use Rattle.index.proofs.Places.{entry_read}
use Rattle.evictor.specs.Evicts.{forgets_none}
use Rattle.evictor.proofs.Forgetting.{forgets_one_more}
use Rattle.evictor.proofs.evicting.forget.Goals as goal

pub loop-record-init : goal.loop-record-init
loop-record-init g c = record { forgets = forgets_none; table = λ is. is }

pub loop-record-preserved : goal.loop-record-preserved
loop-record-preserved g c =
    let rs = c.args.picked.now in
    let i = c.loop-record.record-index in
    let r = c.record-item.result in
    let in' : i < length (entries_of rs) = rw length-map c.loop-record-test.true in
    record {
      forgets = forgets_one_more g.C.LocalCacheStorage.sense g.C.ForgetfulCache.drops i (entry_of r) _ c.remove_entry.result
          c.requires in' (entry_read rs i r c.loop-record-test.true c.record-item.is) c.remove_entry.ensures.table.distinct
          c.loop-record.invariant.forgets c.drop_entry.ensures.state c.drop_entry.ensures.held c.remove_entry.ensures.answer;
      table = λ is. c.remove_entry.ensures.after;
    }
