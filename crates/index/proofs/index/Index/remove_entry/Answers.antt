use Rattle.std.proofs.Common.{subst, arith}
use Rattle.index.specs.Table.{IsTable}
use Rattle.index.proofs.Removal.{swapped_removes, removed_sizes, removed_table}
use Rattle.index.proofs.index.Index.remove_entry.Goals as goal

pub invariant_of-self : goal.invariant_of-self
invariant_of-self c =
    let gone = (swapped_removes c.self.inside.table.records.items c.take_out-gone.new.self.records.items c.take_out-gone.result c.take_out-gone.ensures.value c.take_out-gone.ensures.items (rw (← c.self.view_is) at c.in_ok-i.ensures.found.1)).1 in
    let h = removed_sizes gone in
    let s = c.self.invariant.sum in record {
      room = (let m = c.self.invariant.room in omega arith);
      keys = removed_table gone c.self.invariant.keys;
      sum = omega arith;
    }

pub returns-clause-answer : goal.returns-clause-answer
returns-clause-answer c =
    rw (← c.self.view_is)
    (swapped_removes c.self.inside.table.records.items c.take_out-gone.new.self.records.items c.take_out-gone.result c.take_out-gone.ensures.value c.take_out-gone.ensures.items (rw (← c.self.view_is) at c.in_ok-i.ensures.found.1))

pub returns-clause-after : goal.returns-clause-after
returns-clause-after c = removed_table (returns-clause-answer c).1 (subst IsTable c.self.view_is c.self.invariant.keys)
