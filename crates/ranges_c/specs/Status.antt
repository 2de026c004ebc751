-- The status that a call returns.
use Rattle.std.specs.Prelude.{ℕ, ◌+◌, ◌*◌, [], Ok, Err, Result}
use Rattle.ranges.specs.Refusals.{Refusal, of_part_size, of_get_range, of_align}
use Rattle.ranges_c.specs.declared.refused.Refused.{Refused}
use Rattle.ranges_c.specs.declared.refused.Refused.TheVariants.{PartSize, SliceTooShort, Range, Align}

-- 4: the slice has no room for the result
abbrev pub slice_too_short : Refusal
slice_too_short = record { number = 4; reason = 0; values = [] }

abbrev pub of_refused : Refused → Refusal
of_refused (PartSize e) = of_part_size e
of_refused SliceTooShort = slice_too_short
of_refused (Range e) = of_get_range e
of_refused (Align e) = of_align e

-- 0 where the call is accepted, else the refusal's number in the low byte and its reason above it
abbrev pub status : Result (Unit {0}) Refused → ℕ
status (Ok x) = 0
status (Err e) = (of_refused e).number + 256 * (of_refused e).reason
