-- What the text behind a `=` says, and the key before it.
use Rattle.std.specs.Prelude.{◌≡◌, ℕ, ◌<◌, ◌⊎◌, List, ◌++◌, length, Some, codes, ◌≢◌}
use Rattle.records.specs.declared.attribute.Attribute.{Attribute}
use Rattle.records.specs.declared.attribute.Attribute.TheVariants.{Metadata}
use Rattle.records.specs.declared.attribute.AttributeEntry.{AttributeEntry}
use Rattle.records.specs.declared.attribute.Key.{Key}
use Rattle.records.specs.declared.label.Label.{Label}
use Rattle.records.specs.declared.refused.InvalidHead.{InvalidHead}
use Rattle.records.specs.Limits.{KeyLong, of_head, invalid_head}
use Rattle.records.specs.Names.{Named}
use Rattle.records.specs.Bytes.{bytes_of, label_of}
use Rattle.head_text.specs.declared.no_head.Wrong.{Wrong}
use Rattle.head_text.specs.declared.no_head.Wrong.TheVariants.{NoByte, Limit, NoMemory}
use Rattle.head_text.specs.Texts.{Spells}

-- refusal 3 with this reason and this number
pub record Past (reason n : ℕ) (e : Wrong) : Type 0 where
  pub why : InvalidHead
  pub is : e ≡ Limit why
  pub refusal : of_head why ≡ invalid_head reason n

-- the text writes no bytes, or memory ran out
pub record Unspelled (text : List ℕ) (e : Wrong) : Type 0 where
  pub reads : (e ≡ NoMemory) ⊎ ((e ≡ NoByte) × ((bytes : List ℕ) → Spells text bytes → ⊥))

-- the text writes more than 64 bytes, which is refused with this reason, or none
pub record Oversized (reason : ℕ) (text : List ℕ) (e : Wrong) : Type 0 where
  pub reads : Unspelled text e ⊎ ((bytes : List ℕ) × Spells text bytes × (64 < length bytes) × Past reason (length bytes) e)

-- the text writes these bytes, and they are present
pub record Labels (text : List ℕ) (l : Label) : Type 0 where
  pub bytes : List ℕ
  pub spelled : Spells text bytes
  pub is : label_of l ≡ Some bytes

-- the text writes no bytes, or none that are a key
pub record Unkeyed (text : List ℕ) (e : Wrong) : Type 0 where
  pub reads : Unspelled text e ⊎ ((bytes : List ℕ) × Spells text bytes × (KeyLong (length bytes) → ⊥) × Past 6 (length bytes) e)

-- `metadata:` does not stand before the name
pub record Unmarked (name : List ℕ) : Type 0 where
  pub never : (own : List ℕ) → name ≢ codes "metadata:" ++ own

-- metadata behind `metadata:`, and else what the key names
pub record Means (name : List ℕ) (a : Attribute) : Type 0 where
  pub reads : ((own : List ℕ) × (k : Key) × (name ≡ codes "metadata:" ++ own) × Spells own (bytes_of k.name) × (a ≡ Metadata k))
      ⊎ ((k : Key) × Unmarked name × Spells name (bytes_of k.name) × Named k a)

pub record Meaningless (name : List ℕ) (e : Wrong) : Type 0 where
  pub reads : ((own : List ℕ) × (name ≡ codes "metadata:" ++ own) × Unkeyed own e) ⊎ (Unmarked name × Unkeyed name e)

-- `NAME=TEXT` is this attribute
pub record Enters (name text : List ℕ) (x : AttributeEntry) : Type 0 where
  pub attribute : Means name x.attribute
  pub value : Spells text (bytes_of x.value)

-- it is none, by its name or else by its text
pub record Unentered (name text : List ℕ) (e : Wrong) : Type 0 where
  pub reads : Meaningless name e ⊎ ((a : Attribute) × Means name a × Oversized 7 text e)
