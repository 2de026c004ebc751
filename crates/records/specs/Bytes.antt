-- What the values of the code hold.
use Rattle.std.specs.Prelude.{ℕ, List, Option, take}
use Rattle.records.specs.declared.attribute.AttributeEntry.{AttributeEntry}
use Rattle.records.specs.declared.attributes.Attributes.{Attributes}
use Rattle.records.specs.declared.bytes64.Bytes64.{Bytes64}
use Rattle.records.specs.declared.label.Label.{Label}
use Rattle.records.specs.Padded.{held, labelled}

-- a byte string
abbrev pub bytes_of : Bytes64 → List ℕ
bytes_of b = held b.len b.bytes

-- an e_tag or a version, where it is present
abbrev pub label_of : Label → Option (List ℕ)
label_of l = labelled l.len l.bytes

-- attributes, in their order
abbrev pub entries_of : Attributes → List AttributeEntry
entries_of a = take a.len a.entries
