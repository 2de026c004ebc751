-- What a call answers: its status, and the slice after it.
use Rattle.std.specs.Prelude.{◌≡◌, ℕ, ◌*◌, ◌<◌, ◌≤◌, ◌⊎◌, List, [], ◌∷◌, ◌++◌, length, drop, Ok, Err, Result}
use Rattle.ranges.specs.declared.get_range.GetRange.{GetRange}
use Rattle.ranges.specs.declared.get_range.GetRange.TheVariants.{All, Bounded, Offset, Suffix}
use Rattle.ranges.specs.Pieces.{PieceAt, Split}
use Rattle.ranges.specs.Refusals.{Refusal, invalid_part_size, inconsistent, of_part_size, of_get_range, of_align}
use Rattle.ranges.specs.Requests.{Canonical, Refuses, Aligned, TooFar}
use Rattle.ranges.specs.Rounding.{PartSized}
use Rattle.ranges_c.specs.declared.refused.Refused.{Refused}
use Rattle.ranges_c.specs.declared.refused.Refused.TheVariants.{PartSize, SliceTooShort, Range, Align}
use Rattle.ranges_c.specs.Numbers.{in_bytes}
use Rattle.ranges_c.specs.Status.{status}

-- the canonical range in the slice's first 16 bytes, or a refusal and the slice as it was
abbrev pub CanonicalAnswer : GetRange → (size : ℕ) (out : List ℕ) → Result (Unit {0}) Refused → (after : List ℕ) → Type 0
CanonicalAnswer g size out (Ok x) after =
    (16 ≤ length out) × ((f : Refusal) → Refuses g size f → ⊥)
    × ((start : ℕ) × (end : ℕ) × Canonical g size start end × (after ≡ in_bytes (start ∷ end ∷ []) ++ drop 16 out))
CanonicalAnswer g size out (Err (PartSize e)) after = ⊥
CanonicalAnswer g size out (Err SliceTooShort) after = (length out < 16) × (after ≡ out)
CanonicalAnswer g size out (Err (Range e)) after = (16 ≤ length out) × Refuses g size (of_get_range e) × (after ≡ out)
CanonicalAnswer g size out (Err (Align e)) after = ⊥

-- the numbers of a request
abbrev pub numbers_of : GetRange → List ℕ
numbers_of All = []
numbers_of (Bounded start end) = start ∷ end ∷ []
numbers_of (Offset start) = start ∷ []
numbers_of (Suffix length) = length ∷ []

-- the numbers of the rounded request, or a refusal and the slice as it was
abbrev pub AlignAnswer : GetRange → (p : ℕ) (out : List ℕ) → Result (Unit {0}) Refused → (after : List ℕ) → Type 0
AlignAnswer g p out (Ok x) after =
    PartSized p × (8 * length (numbers_of g) ≤ length out)
    × ((h : GetRange) × Aligned p g h × (after ≡ in_bytes (numbers_of h) ++ drop (8 * length (numbers_of g)) out))
AlignAnswer g p out (Err (PartSize e)) after = (PartSized p → ⊥) × (of_part_size e ≡ invalid_part_size p) × (after ≡ out)
AlignAnswer g p out (Err SliceTooShort) after = PartSized p × (length out < 8 * length (numbers_of g)) × (after ≡ out)
AlignAnswer g p out (Err (Range e)) after = ⊥
AlignAnswer g p out (Err (Align e)) after = PartSized p × (8 * length (numbers_of g) ≤ length out) × TooFar p g (of_align e) × (after ≡ out)

-- the number n of pieces and the piece at `index`, or n alone where there is no such piece
abbrev pub Listed : (p start end index n : ℕ) (out after : List ℕ) → Type 0
Listed p start end index n out after =
    ((part : ℕ) × (from : ℕ) × (to : ℕ) × (index < n) × PieceAt p start end index part from to × (after ≡ in_bytes (n ∷ part ∷ from ∷ to ∷ []) ++ drop 32 out))
    ⊎ ((n ≤ index) × (after ≡ in_bytes (n ∷ []) ++ drop 8 out))

-- the pieces of start..end, one at a time, or a refusal and the slice as it was
abbrev pub SplitAnswer : (start end p index : ℕ) (out : List ℕ) → Result (Unit {0}) Refused → (after : List ℕ) → Type 0
SplitAnswer start end p index out (Ok x) after =
    PartSized p × (32 ≤ length out) × (start ≤ end) × ((n : ℕ) × Split p start end n × Listed p start end index n out after)
SplitAnswer start end p index out (Err (PartSize e)) after = (PartSized p → ⊥) × (of_part_size e ≡ invalid_part_size p) × (after ≡ out)
SplitAnswer start end p index out (Err SliceTooShort) after = PartSized p × (length out < 32) × (after ≡ out)
SplitAnswer start end p index out (Err (Range e)) after = PartSized p × (32 ≤ length out) × (end < start) × (of_get_range e ≡ inconsistent start end) × (after ≡ out)
SplitAnswer start end p index out (Err (Align e)) after = ⊥

-- the same, by the status that the caller sees
abbrev pub Canonicalizes : GetRange → (size : ℕ) (out : List ℕ) (s : ℕ) (after : List ℕ) → Type 0
Canonicalizes g size out s after = (r : Result (Unit {0}) Refused) × (s ≡ status r) × CanonicalAnswer g size out r after

abbrev pub Aligns : GetRange → (p : ℕ) (out : List ℕ) (s : ℕ) (after : List ℕ) → Type 0
Aligns g p out s after = (r : Result (Unit {0}) Refused) × (s ≡ status r) × AlignAnswer g p out r after

abbrev pub Splits : (start end p index : ℕ) (out : List ℕ) (s : ℕ) (after : List ℕ) → Type 0
Splits start end p index out s after = (r : Result (Unit {0}) Refused) × (s ≡ status r) × SplitAnswer start end p index out r after
