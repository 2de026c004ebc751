-- The stored form of a head.
use Rattle.std.specs.Prelude.{◌≡◌, ℕ, ◌<◌, ◌≤◌, Bool, false, cond, ◌||◌, List, [], ◌∷◌, ◌++◌, map, length, drop, Some, None, Ok, Err, Option, Result, ◌≢◌}
use Rattle.std.specs.Str.{bytes_eq}
use Rattle.records.specs.declared.attribute.AttributeEntry.{AttributeEntry}
use Rattle.records.specs.declared.head.Head.{Head}
use Rattle.records.specs.declared.refused.BufferTooShort.{BufferTooShort}
use Rattle.records.specs.Limits.{KeyLong, SizeWithin, TimeWithin, of_buffer, buffer_too_short}
use Rattle.stored_head.specs.declared.local_cache_head.LocalCacheHead.{LocalCacheHead}
use Rattle.records.specs.Names.{name_of}
use Rattle.records.specs.Bytes.{bytes_of, label_of, entries_of}
use Rattle.stored_head.specs.Forms.{sized, label_form, LabelWithin}
use Rattle.stored_head.specs.Numbers.{Formed}

-- an attribute as it is stored: its name and its value
abbrev pub Named : Type 0
Named = List ℕ × List ℕ

abbrev pub pair : AttributeEntry → Named
pair e = (name_of e.attribute, bytes_of e.value)

abbrev pub pairs : List AttributeEntry → List Named
pairs es = map pair es

unfoldable pub attributes_form : List Named → List ℕ
attributes_form [] = []
attributes_form (a ∷ more) = sized a.0 ++ (sized a.1 ++ attributes_form more)

-- the limits of attributes
unfoldable pub AttributesWithin : List Named → Type 0
AttributesWithin [] = Unit {0}
AttributesWithin (a ∷ more) = KeyLong (length a.0) × (length a.1 ≤ 64) × AttributesWithin more

-- an attribute comes first, and `rest` is behind it
pub record EntryFirst (bytes : List ℕ) (e : AttributeEntry) (rest : List ℕ) : Type 0 where
  pub within : AttributesWithin (pair e ∷ [])
  pub joined : bytes ≡ sized (pair e).0 ++ (sized (pair e).1 ++ rest)

-- none does
pub record NoEntry (bytes : List ℕ) : Type 0 where
  pub never : (a : Named) (rest : List ℕ) → AttributesWithin (a ∷ []) → bytes ≢ sized a.0 ++ (sized a.1 ++ rest)

-- so many attributes come first, and `rest` is behind them
pub record AttributesFirst (bytes : List ℕ) (count : ℕ) (es : List AttributeEntry) (rest : List ℕ) : Type 0 where
  pub many : length es ≡ count
  pub within : AttributesWithin (pairs es)
  pub joined : bytes ≡ attributes_form (pairs es) ++ rest

-- so many do not
pub record NoAttributes (bytes : List ℕ) (count : ℕ) : Type 0 where
  pub never : (named : List Named) (rest : List ℕ) → length named ≡ count → AttributesWithin named → bytes ≢ attributes_form named ++ rest

-- what a stored head tells: kinds of attributes are not stored, only names
pub record HeadData : Type 0 where
  pub size : ℕ
  pub time : ℕ
  pub e_tag : Option (List ℕ)
  pub version : Option (List ℕ)
  pub attributes : List Named

abbrev pub data_of : Head → HeadData
data_of h = record {
  size = h.size;
  time = h.time;
  e_tag = label_of h.e_tag;
  version = label_of h.version;
  attributes = pairs (entries_of h.attributes);
}

-- the limits of a head
pub record Within (d : HeadData) : Type 0 where
  pub size : SizeWithin d.size
  pub time : TimeWithin d.time
  pub e_tag : LabelWithin d.e_tag
  pub version : LabelWithin d.version
  pub few : length d.attributes ≤ 8
  pub attributes : AttributesWithin d.attributes

-- behind size and time: e_tag, version, the number of attributes, and each of them
abbrev pub rest_form : HeadData → List ℕ
rest_form d = label_form d.e_tag ++ (label_form d.version ++ ((length d.attributes ∷ []) ++ attributes_form d.attributes))

-- bs is the stored form of d
pub record Stored (d : HeadData) (bs : List ℕ) : Type 0 where
  pub size : Formed d.size
  pub time : Formed d.time
  pub joined : bs ≡ size.bytes ++ (time.bytes ++ rest_form d)

-- the stored form of d was written at the beginning of out, and has n bytes
pub record Saved (out : List ℕ) (d : HeadData) (n : ℕ) (after : List ℕ) : Type 0 where
  pub bytes : List ℕ
  pub form : Stored d bytes
  pub count : n ≡ length bytes
  pub joined : after ≡ bytes ++ drop n out

-- d's stored form has n bytes
pub record Long (d : HeadData) (n : ℕ) : Type 0 where
  pub bytes : List ℕ
  pub form : Stored d bytes
  pub count : length bytes ≡ n
  pub only : (bs : List ℕ) → Stored d bs → length bs ≡ n

-- saved where there is room, else refused with the room that it has and the room that it needs, and out as it was
abbrev pub SaveAnswer : (out : List ℕ) (d : HeadData) → Result ℕ BufferTooShort → (after : List ℕ) → Type 0
SaveAnswer out d (Ok n) after = (n ≤ length out) × Saved out d n after
SaveAnswer out d (Err e) after = (n : ℕ) × Long d n × (length out < n) × (of_buffer e ≡ buffer_too_short (length out) n) × (after ≡ out)

-- no head within its limits is stored as these bytes
pub record NoHead (bytes : List ℕ) : Type 0 where
  pub never : (d : HeadData) → Within d → Stored d bytes → ⊥

-- the head that is stored as these bytes, where one is
abbrev pub NamesRead : (bytes : List ℕ) → Option LocalCacheHead → Type 0
NamesRead bytes None = NoHead bytes
NamesRead bytes (Some h) = Within (data_of h.names) × Stored (data_of h.names) bytes

-- whether one of the attributes has this name
abbrev pub name_in : List ℕ → List Named → Bool
name_in k [] = false
name_in k (a ∷ more) = bytes_eq k a.0 || name_in k more

-- of equal names the later stays
abbrev pub merged : List Named → List Named
merged [] = []
merged (a ∷ more) = cond (name_in a.0 more) (merged more) (a ∷ merged more)
