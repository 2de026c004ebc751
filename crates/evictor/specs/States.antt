-- What an evictor of the code stands for.
use Rattle.index.specs.Table.{entries_of}
use Rattle.evictor.specs.declared.evictor.Evictor.{Evictor}
use Rattle.evictor.specs.Evicts.{State}

abbrev pub state_of : {C H : Type 0} → Evictor C H → State C H
state_of e = record {
  inner = e.inner;
  host = e.host;
  entries = e.index;
  maximum = e.maximum;
  evicted = entries_of e.targets;
}
