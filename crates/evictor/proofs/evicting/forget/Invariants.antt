use Rattle.std.proofs.Common.{take}
use Rattle.index.specs.Table.{entries_of, IsTable}
use Rattle.evictor.specs.Evicts.{Forgets}
use Rattle.evictor.proofs.evicting.forget.Given as goal

abbrev pub invariant-loop-record : goal.invariant-loop-record
invariant-loop-record g l = record {
  forgets : Forgets g.C.LocalCacheStorage.sense g.C.ForgetfulCache.drops l.initial.inner l.initial.index
      (take l.record-index (entries_of l.picked)) l.inner l.index;
  table : IsTable l.initial.index → IsTable l.index;
}
