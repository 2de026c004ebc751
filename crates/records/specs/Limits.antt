-- The limits of records, and their refusals.
use Rattle.std.specs.Prelude.{◌≡◌, ℕ, ◌^◌, ◌<◌, ◌≤◌, ◌⊎◌, [], ◌∷◌}
use Rattle.ranges.specs.Refusals.{Refusal}
use Rattle.records.specs.declared.label.LabelKind.{LabelKind}
use Rattle.records.specs.declared.refused.BufferTooShort.{BufferTooShort}
use Rattle.records.specs.declared.refused.InvalidPath.{InvalidPath}
use Rattle.records.specs.declared.refused.InvalidHead.{InvalidHead}
use Rattle.records.specs.declared.refused.InvalidHead.TheVariants.{Size, Time, ETag, Version, Attributes, Key, Value}

-- how many bytes a path has
abbrev pub PathLong : ℕ → Type 0
PathLong n = (1 ≤ n) × (n ≤ 64)

-- how many bytes an attribute's key has
abbrev pub KeyLong : ℕ → Type 0
KeyLong n = (1 ≤ n) × (n ≤ 32)

-- an object's size, and a time in milliseconds since 1970
abbrev pub SizeWithin : ℕ → Type 0
SizeWithin n = n ≤ 2 ^ 40

abbrev pub TimeWithin : ℕ → Type 0
TimeWithin n = n < 2 ^ 42

-- 2: a path of `length` bytes
abbrev pub invalid_path : (length : ℕ) → Refusal
invalid_path length = record { number = 2; reason = 0; values = length ∷ [] }

-- 3: something past a head's limits, and its number
abbrev pub invalid_head : (reason value : ℕ) → Refusal
invalid_head reason value = record { number = 3; reason = reason; values = value ∷ [] }

-- 4: a buffer of `length` bytes where `needed` are needed
abbrev pub buffer_too_short : (length needed : ℕ) → Refusal
buffer_too_short length needed = record { number = 4; reason = 0; values = length ∷ needed ∷ [] }

-- the refusals of the code, as such
abbrev pub of_buffer : BufferTooShort → Refusal
of_buffer e = buffer_too_short e.length e.needed

abbrev pub of_path : InvalidPath → Refusal
of_path e = invalid_path e.length

abbrev pub of_head : InvalidHead → Refusal
of_head (Size n) = invalid_head 1 n
of_head (Time n) = invalid_head 2 n
of_head (ETag n) = invalid_head 3 n
of_head (Version n) = invalid_head 4 n
of_head (Attributes n) = invalid_head 5 n
of_head (Key n) = invalid_head 6 n
of_head (Value n) = invalid_head 7 n

-- a head is refused with f: first for its size, then for its time
abbrev pub HeadRefused : (size time : ℕ) → Refusal → Type 0
HeadRefused size time f =
    ((2 ^ 40 < size) × (f ≡ invalid_head 1 size)) ⊎ (SizeWithin size × (2 ^ 42 ≤ time) × (f ≡ invalid_head 2 time))

-- which reason a head has for an e_tag, and for a version, that is too long
abbrev pub label_reason : LabelKind → ℕ
label_reason LabelKind.ETag = 3
label_reason LabelKind.Version = 4
