use Rattle.std.proofs.Common.{◌≡◌, ◌++◌}
use Rattle.records.specs.Bytes.{entries_of}
use Rattle.stored_head.specs.Heads.{pairs, attributes_form, AttributesWithin}
use Rattle.stored_head.proofs.reader.Reader.attributes.Given as goal

-- what is read so far, and what is behind it
abbrev pub invariant-loop-read : goal.invariant-loop-read
invariant-loop-read l =
    (l.attributes.len ≡ l._read) × AttributesWithin (pairs (entries_of l.attributes))
    × (l.initial.self.left.now ≡ attributes_form (pairs (entries_of l.attributes)) ++ l.self.left.now)
