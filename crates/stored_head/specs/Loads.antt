-- What a head is once it is loaded.
use Rattle.std.specs.Prelude.{◌≡◌, ℕ, List, [], ◌∷◌, Some, None, Option}
use Rattle.records.specs.declared.attribute.Attribute.{Attribute}
use Rattle.records.specs.declared.attribute.Attribute.TheVariants.{CacheControl, ContentDisposition, ContentEncoding, ContentLanguage, ContentType, Metadata}
use Rattle.records.specs.declared.attribute.AttributeEntry.{AttributeEntry}
use Rattle.records.specs.declared.head.Head.{Head}
use Rattle.records.specs.Bytes.{bytes_of, entries_of}
use Rattle.records.specs.Names.{Unknown}
use Rattle.stored_head.specs.Heads.{HeadData, data_of, pair, pairs, merged, Within, Stored, NoHead}

-- an attribute is metadata only where its name is none of the five
abbrev pub Kind : Attribute → Type 0
Kind CacheControl = Unit {0}
Kind ContentDisposition = Unit {0}
Kind ContentEncoding = Unit {0}
Kind ContentLanguage = Unit {0}
Kind ContentType = Unit {0}
Kind (Metadata k) = Unknown (bytes_of k.name)

unfoldable pub Kinds : List AttributeEntry → Type 0
Kinds [] = Unit {0}
Kinds (e ∷ es) = Kind e.attribute × Kinds es

-- the same name and value, of the kind that the name says
pub record Renamed (e r : AttributeEntry) : Type 0 where
  pub same : pair r ≡ pair e
  pub kind : Kind r.attribute

-- rs are es by their names, of equal names the later
pub record Refilled (es rs : List AttributeEntry) : Type 0 where
  pub same : pairs rs ≡ merged (pairs es)
  pub kinds : Kinds rs

-- d with its attributes merged
abbrev pub merge : HeadData → HeadData
merge d = record { size = d.size; time = d.time; e_tag = d.e_tag; version = d.version; attributes = merged d.attributes }

-- h is the head that d tells of: size, time, e_tag and version as they are, names merged, each attribute of its name's kind
pub record Loaded (d : HeadData) (h : Head) : Type 0 where
  pub same : data_of h ≡ merge d
  pub kinds : Kinds (entries_of h.attributes)

-- the head within its limits that is stored as these bytes, where there is one
abbrev pub LoadAnswer : (bytes : List ℕ) → Option Head → Type 0
LoadAnswer bytes None = NoHead bytes
LoadAnswer bytes (Some h) = (d : HeadData) × Within d × Stored d bytes × Loaded d h
