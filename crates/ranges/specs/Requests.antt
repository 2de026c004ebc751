-- Which bytes a request asks for, and what it is rounded to.
use Rattle.std.specs.Prelude.{◌≡◌, ℕ, ◌+◌, ◌^◌, ◌<◌, ◌≤◌, ◌⊎◌, Ok, Err, Result}
use Rattle.ranges.specs.declared.byte_range.ByteRange.{ByteRange}
use Rattle.ranges.specs.declared.get_range.AlignOverflow.{AlignOverflow}
use Rattle.ranges.specs.declared.get_range.GetRange.{GetRange}
use Rattle.ranges.specs.declared.get_range.GetRange.TheVariants.{All, Bounded, Offset, Suffix}
use Rattle.ranges.specs.declared.get_range.InvalidGetRange.{InvalidGetRange}
use Rattle.ranges.specs.Refusals.{Refusal, start_too_large, inconsistent, align_overflow, of_get_range, of_align}
use Rattle.ranges.specs.Rounding.{Down, Up, Overflows}

-- byte i of an object of `size` bytes is asked for
abbrev pub Asked : GetRange → (size i : ℕ) → Type 0
Asked All size i = i < size
Asked (Bounded start end) size i = (start ≤ i) × (i < end) × (i < size)
Asked (Offset start) size i = (start ≤ i) × (i < size)
Asked (Suffix length) size i = (i < size) × (size ≤ i + length)

-- the request is refused with f: first for a start at which the object has no byte, then for an end not past the start
abbrev pub Refuses : GetRange → (size : ℕ) → Refusal → Type 0
Refuses All size f = ⊥
Refuses (Bounded start end) size f =
    ((size ≤ start) × (f ≡ start_too_large start size)) ⊎ ((start < size) × (end ≤ start) × (f ≡ inconsistent start end))
Refuses (Offset start) size f = (size ≤ start) × (f ≡ start_too_large start size)
Refuses (Suffix length) size f = ⊥

-- start..end are the bytes that are asked for, all of them and no other; if there are none, it stands at the object's end
pub record Canonical (g : GetRange) (size start end : ℕ) : Type 0 where
  pub within : end ≤ size
  pub forward : start ≤ end
  pub all : (i : ℕ) → Asked g size i → (start ≤ i) × (i < end)
  pub only : (i : ℕ) → start ≤ i → i < end → Asked g size i
  pub empty : start ≡ end → end ≡ size

-- accepted with those bytes where nothing is to be refused, else refused with what is
abbrev pub Canonicalized : GetRange → (size : ℕ) → Result ByteRange InvalidGetRange → Type 0
Canonicalized g size (Ok r) = Canonical g size r.start r.end × ((f : Refusal) → Refuses g size f → ⊥)
Canonicalized g size (Err e) = Refuses g size (of_get_range e)

-- h is g rounded outward to whole parts, in 64 bits
abbrev pub Aligned : (p : ℕ) (g h : GetRange) → Type 0
Aligned p All h = h ≡ All
Aligned p (Bounded start end) h = (from : ℕ) × (to : ℕ) × (h ≡ Bounded from to) × Down p start from × Up p end to × (to < 2 ^ 64)
Aligned p (Offset start) h = (from : ℕ) × (h ≡ Offset from) × Down p start from
Aligned p (Suffix length) h = (to : ℕ) × (h ≡ Suffix to) × Up p length to × (to < 2 ^ 64)

-- the request is refused with f: a number of it overflows in rounding
abbrev pub TooFar : (p : ℕ) → GetRange → Refusal → Type 0
TooFar p All f = ⊥
TooFar p (Bounded start end) f = Overflows p end × (f ≡ align_overflow end)
TooFar p (Offset start) f = ⊥
TooFar p (Suffix length) f = Overflows p length × (f ≡ align_overflow length)

-- rounded where 64 bits hold the result, else refused
abbrev pub AlignedTo : (p : ℕ) → GetRange → Result GetRange AlignOverflow → Type 0
AlignedTo p g (Ok h) = Aligned p g h
AlignedTo p g (Err e) = TooFar p g (of_align e)
