use Rattle.std.proofs.Common.{◌≡◌, false, List, [], ◌∷◌, ◌++◌, inr, sym, ap, ◌∙◌, subst, arith, w64, to_z, of_z, rules}
use Rattle.std.proofs.lemmas.List.{length-map}
use Rattle.std.proofs.lemmas.Bool.{leb-false}
use Rattle.cache.specs.Keys.{key_of}
use Rattle.cache.specs.Tracking.{Entry, sizes}
use Rattle.index.specs.Indexes.{entries_in}
use Rattle.index.specs.Table.{entry_of, tracks, IsTable}
use Rattle.index.proofs.Changes.{sizes_fit, push_appends, appended_table, appended_sizes}
use Rattle.index.proofs.index.Index.track_entry_accessed.Goals as goal

pub overflow_add-self : goal.overflow_add-self
overflow_add-self c =
    let rs = c.self.inside.table.records.items in
    let h = sizes_fit rs in
    let few = c.self.invariant.keys.few in
    let sum = c.self.invariant.sum in
    omega arith

pub invariant_of-self : goal.invariant_of-self
invariant_of-self c =
    let was = c.self.inside in
    let new : Entry = record { key = key_of c.args.key; size = c.args.size; time = c.args.time } in
    let refused = c.if-set_access_time.ensures.answer in
    let at : to_z w64 (of_z w64 c.args.time) ≡ c.args.time = search rules in
    let absent : tracks (key_of c.args.key) (entries_in was) ≡ false = rw (c.self.view_is, refused.1) refused.0 in
    let appended = push_appends was.table.records.items c.push_reserved.new.self.items _ new c.push_reserved.ensures.items (cc) in
    let n = length-map was.table.records.items entry_of in
    let len = was.table.records.ok.0 in
    let free = leb-false 256 was.table.records.len (sym c.if-is_full.ensures) in
    let sizes-now = ap sizes appended ∙ appended_sizes (entries_in was) new in record {
      room = (let room = c.self.invariant.room in omega arith);
      keys = subst IsTable (sym appended) (appended_table (entries_in was) new absent (omega arith) (omega (arith, c.ranges.size)) c.self.invariant.keys);
      sum = (let sum = c.self.invariant.sum in omega arith);
    }

pub returns-clause-answer : goal.returns-clause-answer
returns-clause-answer c =
    let new : Entry = record { key = key_of c.args.key; size = c.args.size; time = c.args.time } in
    let refused = c.if-set_access_time.ensures.answer in
    let at : to_z w64 (of_z w64 c.args.time) ≡ c.args.time = search rules in
    let appended = push_appends c.self.inside.table.records.items c.push_reserved.new.self.items _ new c.push_reserved.ensures.items (cc) in
    inr (refused.0, appended ∙ ap (λ (xs : List Entry). xs ++ new ∷ []) (c.self.view_is ∙ refused.1))

pub returns-clause-after : goal.returns-clause-after
returns-clause-after c = (invariant_of-self c).keys
