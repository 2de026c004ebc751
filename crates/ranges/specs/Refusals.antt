-- What a refusal tells: its number in the closed list of docs/RULES.md, its reason, its numbers.
use Rattle.std.specs.Prelude.{ℕ, List, [], ◌∷◌}
use Rattle.ranges.specs.declared.get_range.AlignOverflow.{AlignOverflow}
use Rattle.ranges.specs.declared.get_range.InvalidCachePartSize.{InvalidCachePartSize}
use Rattle.ranges.specs.declared.get_range.InvalidGetRange.{InvalidGetRange}
use Rattle.ranges.specs.declared.get_range.InvalidGetRange.TheVariants.{StartTooLarge, Inconsistent}

pub record Refusal : Type 0 where
  pub number : ℕ
  -- which of the number's reasons, counted from 1; 0 where the number has only one
  pub reason : ℕ
  pub values : List ℕ

-- 1: `requested` is no part size
abbrev pub invalid_part_size : (requested : ℕ) → Refusal
invalid_part_size requested = record { number = 1; reason = 0; values = requested ∷ [] }

-- 6: the first byte that is asked for is not in the object, which has `length` bytes
abbrev pub start_too_large : (requested length : ℕ) → Refusal
start_too_large requested length = record { number = 6; reason = 1; values = requested ∷ length ∷ [] }

-- 6: the range ends at its start or before it
abbrev pub inconsistent : (start end : ℕ) → Refusal
inconsistent start end = record { number = 6; reason = 2; values = start ∷ end ∷ [] }

-- 7: `requested` rounds up past 2^64 - 1
abbrev pub align_overflow : (requested : ℕ) → Refusal
align_overflow requested = record { number = 7; reason = 0; values = requested ∷ [] }

-- the refusals of the code, as such
abbrev pub of_part_size : InvalidCachePartSize → Refusal
of_part_size e = invalid_part_size e.requested

abbrev pub of_get_range : InvalidGetRange → Refusal
of_get_range (StartTooLarge requested length) = start_too_large requested length
of_get_range (Inconsistent start end) = inconsistent start end

abbrev pub of_align : AlignOverflow → Refusal
of_align e = align_overflow e.requested
