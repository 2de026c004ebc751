-- What the words of a line say, one after the other.
use Rattle.std.specs.Prelude.{◌≡◌, ℕ, ◌+◌, ◌<◌, ◌⊎◌, List, [], ◌∷◌, ◌++◌, length, Some, None, Ok, Err, codes, Option, Result, ◌≢◌, slice_index}
use Rattle.std.specs.Borrow.{Bor}
use Rattle.std.specs.Option.{unwrap_or}
use Rattle.records.specs.declared.attribute.AttributeEntry.{AttributeEntry}
use Rattle.records.specs.declared.attributes.Attributes.{Attributes}
use Rattle.records.specs.declared.head.Head.{Head}
use Rattle.records.specs.declared.label.Label.{Label}
use Rattle.records.specs.Limits.{HeadRefused, of_head}
use Rattle.records.specs.Bytes.{label_of, entries_of}
use Rattle.lines.specs.Words.{Hashed, Plain, Number, NoNumber}
use Rattle.head_text.specs.declared.draft.Draft.{Draft}
use Rattle.head_text.specs.declared.no_head.NoHead.{NoHead}
use Rattle.head_text.specs.declared.no_head.NoHead.TheVariants as no_head
use Rattle.head_text.specs.declared.no_head.Wrong.{Wrong}
use Rattle.head_text.specs.declared.no_head.Wrong.TheVariants.{NoEquals, NotANumber, Twice}
use Rattle.head_text.specs.Said.{Past, Labels, Oversized, Enters, Unentered}

-- a word: its bytes are its `now`
abbrev pub Word : Type 0
Word = Bor (List ℕ)

-- a draft with another part
abbrev pub with_size : Draft → ℕ → Draft
with_size d n = record { size = Some n; time = d.time; e_tag = d.e_tag; version = d.version; attributes = d.attributes }

abbrev pub with_time : Draft → ℕ → Draft
with_time d n = record { size = d.size; time = Some n; e_tag = d.e_tag; version = d.version; attributes = d.attributes }

abbrev pub with_e_tag : Draft → Label → Draft
with_e_tag d l = record { size = d.size; time = d.time; e_tag = l; version = d.version; attributes = d.attributes }

abbrev pub with_version : Draft → Label → Draft
with_version d l = record { size = d.size; time = d.time; e_tag = d.e_tag; version = l; attributes = d.attributes }

abbrev pub with_attributes : Draft → Attributes → Draft
with_attributes d es = record { size = d.size; time = d.time; e_tag = d.e_tag; version = d.version; attributes = es }

-- nothing is said
pub record Blank (d : Draft) : Type 0 where
  pub size : d.size ≡ None
  pub time : d.time ≡ None
  pub e_tag : label_of d.e_tag ≡ None
  pub version : label_of d.version ≡ None
  pub attributes : entries_of d.attributes ≡ []

-- a number is said once
abbrev pub NumberSaid : Option ℕ → (text : List ℕ) → Result ℕ Wrong → Type 0
NumberSaid None text (Ok n) = Number text n
NumberSaid None text (Err e) = (e ≡ NotANumber) × NoNumber text
NumberSaid (Some m) text (Ok n) = ⊥
NumberSaid (Some m) text (Err e) = e ≡ Twice

pub record NumberRead (known : Option ℕ) (text : List ℕ) (r : Result ℕ Wrong) : Type 0 where
  pub reads : NumberSaid known text r

-- a label is said once; the reason for too many bytes is 3 of an e_tag and 4 of a version
abbrev pub LabelSaid : (reason : ℕ) → Option (List ℕ) → (text : List ℕ) → Result Label Wrong → Type 0
LabelSaid reason None text (Ok l) = Labels text l
LabelSaid reason None text (Err e) = Oversized reason text e
LabelSaid reason (Some bs) text (Ok l) = ⊥
LabelSaid reason (Some bs) text (Err e) = e ≡ Twice

pub record LabelRead (reason : ℕ) (known : Option (List ℕ)) (text : List ℕ) (r : Result Label Wrong) : Type 0 where
  pub reads : LabelSaid reason known text r

-- an attribute is one more, up to 8
abbrev pub EntrySaid : Attributes → (name text : List ℕ) → Result Attributes Wrong → Type 0
EntrySaid known name text (Ok es) = (x : AttributeEntry) × Enters name text x × (known.len < 8) × (entries_of es ≡ entries_of known ++ (x ∷ []))
EntrySaid known name text (Err e) =
    Unentered name text e ⊎ ((x : AttributeEntry) × Enters name text x × (known.len ≡ 8) × Past 5 9 e)

pub record EntryRead (known : Attributes) (name text : List ℕ) (r : Result Attributes Wrong) : Type 0 where
  pub reads : EntrySaid known name text r

-- what `part` came to is put into the draft
abbrev pub Puts : {A : Type 0} → (A → Draft) → Result A Wrong → Result Draft Wrong → Type 0
Puts put (Ok x) r = r ≡ Ok (put x)
Puts put (Err e) r = r ≡ Err e

-- `NAME=TEXT` after the draft d
pub record NamedRead (d : Draft) (name text : List ℕ) (r : Result Draft Wrong) : Type 0 where
  pub reads : ((name ≡ codes "size") × ((s : Result ℕ Wrong) × NumberRead d.size text s × Puts (with_size d) s r))
      ⊎ ((name ≡ codes "time") × ((s : Result ℕ Wrong) × NumberRead d.time text s × Puts (with_time d) s r))
      ⊎ ((name ≡ codes "etag") × ((s : Result Label Wrong) × LabelRead 3 (label_of d.e_tag) text s × Puts (with_e_tag d) s r))
      ⊎ ((name ≡ codes "version") × ((s : Result Label Wrong) × LabelRead 4 (label_of d.version) text s × Puts (with_version d) s r))
      ⊎ ((name ≢ codes "size") × (name ≢ codes "time") × (name ≢ codes "etag") × (name ≢ codes "version")
      × ((s : Result Attributes Wrong) × EntryRead d.attributes name text s × Puts (with_attributes d) s r))

-- no byte is `=`
pub record NoEqual (bs : List ℕ) : Type 0 where
  pub never : (i : ℕ) → i < length bs → slice_index bs i ≢ 61

-- one word after the draft d: its first `=` parts the name from the text
pub record WordRead (d : Draft) (w : List ℕ) (r : Result Draft Wrong) : Type 0 where
  pub reads : (NoEqual w × (r ≡ Err NoEquals))
      ⊎ ((name : List ℕ) × (text : List ℕ) × (w ≡ name ++ (61 ∷ text)) × NoEqual name × NamedRead d name text r)

-- words one after the other, all of them well
unfoldable pub Reads : Draft → List Word → Draft → Type 0
Reads d [] e = e ≡ d
Reads d (w ∷ ws) e = (m : Draft) × WordRead d w.now (Ok m) × Reads m ws e

-- what a draft comes to: a size is needed, a time is 0 unless it is said
abbrev pub DraftHead : Draft → Result Head NoHead → Type 0
DraftHead d (Ok h) =
    (d.size ≡ Some h.size) × (h.time ≡ unwrap_or d.time 0) × (h.e_tag ≡ d.e_tag) × (h.version ≡ d.version) × (h.attributes ≡ d.attributes)
DraftHead d (Err (no_head.Word n e)) = ⊥
DraftHead d (Err no_head.NoSize) = d.size ≡ None
DraftHead d (Err (no_head.Limit e)) = (n : ℕ) × (d.size ≡ Some n) × HeadRefused n (unwrap_or d.time 0) (of_head e)

pub record DraftRead (d : Draft) (r : Result Head NoHead) : Type 0 where
  pub reads : DraftHead d r

-- the words of a line: the first that is wrong, or what they come to
pub record WrongAt (d : Draft) (ws : List Word) (n : ℕ) (e : Wrong) : Type 0 where
  pub front : List Word
  pub w : Word
  pub back : List Word
  pub cut : ws ≡ front ++ (w ∷ back)
  pub place : n ≡ length front + 1
  pub before : Draft
  pub well : Reads d front before
  pub wrong : WordRead before w.now (Err e)

pub record HeadRead (ws : List Word) (r : Result Head NoHead) : Type 0 where
  pub first : Draft
  pub blank : Blank first
  pub reads : ((n : ℕ) × (e : Wrong) × WrongAt first ws n e × (r ≡ Err (no_head.Word n e))) ⊎ ((d : Draft) × Reads first ws d × DraftRead d r)

-- no words, or a comment
abbrev pub Silent : List Word → Type 0
Silent [] = Unit {0}
Silent (w ∷ ws) = Hashed w.now

abbrev pub Speaks : List Word → Type 0
Speaks [] = ⊥
Speaks (w ∷ ws) = Plain w.now
