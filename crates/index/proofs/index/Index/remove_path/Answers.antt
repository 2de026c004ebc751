use Rattle.std.proofs.Common.{◌≡◌, ℕ, true, false, List, Some, None, Option, sym, arith, MatchOption}
use Rattle.std.proofs.lemmas.Bool.{both_ways}
use Rattle.cache.specs.Keys.{Key, head_key, part_key, key_of, path_bytes}
use Rattle.cache.specs.Tracking.{Entry}
use Rattle.index.specs.declared.record.KeyRecord.{KeyRecord}
use Rattle.index.specs.Parts.{smallest_part}
use Rattle.index.specs.Table.{entry_of, tracks, once, Removed, PathRemoved}
use Rattle.index.proofs.PathRemoval.{PartsGone, no_part_gone, part_gone, parts_only, head_and_parts}
use Rattle.index.proofs.Removal.{removed_gone, removed_length}
use Rattle.index.proofs.SmallestPart.{smallest_tracked}
use Rattle.index.proofs.index.Index.remove_path.Goals as goal

-- what removing a key answers
abbrev Answered : Key → (old new : List Entry) → Option KeyRecord → Type 0
Answered k old new o =
    MatchOption o ((tracks k old ≡ false) × (new ≡ old)) (λ r. (key_of r.key ≡ k) × Removed (entry_of r) old new)

not_left : (k : Key) (old new : List Entry) (o : Option KeyRecord) → Answered k old new o → once old ≡ true → tracks k new ≡ false
not_left k old new None a once-old = rw a.1 a.0
not_left k old new (Some r) a once-old = rw (← a.0) (removed_gone a.1 once-old)

taken_out : (k : Key) (old new : List Entry) (o : Option KeyRecord) → Answered k old new o → tracks k old ≡ true → (e : Entry) × (e.key ≡ k) × Removed e old new
taken_out k old new None a t = absurd (both_ways (tracks k old) a.0 t)
taken_out k old new (Some r) a t = (entry_of r, a.0, a.1)

whole : (path : List ℕ) (old new left : List Entry) (o : Option KeyRecord) → Answered (head_key path) old new o → PartsGone path new left → smallest_part path left ≡ None → PathRemoved path old left
whole path old new left None a g none = rw (← a.1) (parts_only path g none)
whole path old new left (Some r) a g none = head_and_parts path a.1 a.0 g none

pub loop-part-init : goal.loop-part-init
loop-part-init c =
    let path = path_bytes c.args.path in
    no_part_gone path c.remove_entry.new.self
    (not_left (head_key path) c.args.self.now c.remove_entry.new.self c.remove_entry.result c.remove_entry.ensures.answer c.remove_entry.ensures.table.distinct)

pub loop-part-smaller : goal.loop-part-smaller
loop-part-smaller c =
    let path = path_bytes c.args.path in
    let old = c.loop-part.self in
    let new = c.remove_entry-in-Some.new.self in
    let out = taken_out (part_key path c.in-Some.part) old new c.remove_entry-in-Some.result c.remove_entry-in-Some.ensures.answer (smallest_tracked path old c.in-Some.part c.in-Some.ensures.smallest) in
    let fewer = removed_length out.2 in
    omega arith

pub loop-part-preserved : goal.loop-part-preserved
loop-part-preserved c =
    let path = path_bytes c.args.path in
    let old = c.loop-part.self in
    let new = c.remove_entry-in-Some.new.self in
    let out = taken_out (part_key path c.in-Some.part) old new c.remove_entry-in-Some.result c.remove_entry-in-Some.ensures.answer (smallest_tracked path old c.in-Some.part c.in-Some.ensures.smallest) in
    part_gone path c.in-Some.part c.loop-part.invariant c.remove_entry-in-Some.ensures.table.distinct c.in-Some.ensures.smallest out.2 out.1

pub returns-clause-answer : goal.returns-clause-answer
returns-clause-answer c =
    whole (path_bytes c.args.path) c.args.self.now c.remove_entry.new.self c.loop-part.self c.remove_entry.result
    c.remove_entry.ensures.answer c.loop-part.invariant (sym c.in_default.ensures.smallest)

pub returns-clause-after : goal.returns-clause-after
returns-clause-after c = c.smallest_part.ensures.table
