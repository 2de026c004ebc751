use Rattle.std.proofs.Common.{◌≡◌, sym, subst, ◌∙◌, rules}
use Rattle.index.specs.Table.{IsTable}
use Rattle.index.proofs.Changes.{set_touches, touched_table, touched_sizes}
use Rattle.index.proofs.index.Index.set_access_time.Goals as goal

pub invariant_of-self : goal.invariant_of-self
invariant_of-self c =
    let now : c.touch.new.self.time ≡ c.args.time = search rules in
    let touched = set_touches c.self.inside.table.records.items c.at.result.now c.touch.new.self (rw (← c.self.view_is) at c.in-Some.ensures.found.1) c.at.ensures.value c.touch.ensures.key c.touch.ensures.size now in record {
      room = c.self.invariant.room;
      keys = touched_table touched c.self.invariant.keys;
      sum = c.self.invariant.sum ∙ sym (touched_sizes touched);
    }

pub returns-clause-answer : goal.returns-clause-answer
returns-clause-answer c =
    let now : c.touch.new.self.time ≡ c.args.time = search rules in
    rw (← c.self.view_is)
    (set_touches c.self.inside.table.records.items c.at.result.now c.touch.new.self (rw (← c.self.view_is) at c.in-Some.ensures.found.1) c.at.ensures.value c.touch.ensures.key c.touch.ensures.size now)

pub returns-clause-after : goal.returns-clause-after
returns-clause-after c = touched_table (returns-clause-answer c) (subst IsTable c.self.view_is c.self.invariant.keys)
