-- The closed list: each cause's number, reason and values.
use Rattle.std.specs.Prelude.{ℕ, List, [], ◌∷◌}
use Rattle.ranges.specs.Refusals.{Refusal, of_part_size, of_get_range, of_align}
use Rattle.records.specs.Limits.{of_path, of_head, of_buffer}
use Rattle.faults.specs.declared.cause.Cause.{Cause}
use Rattle.faults.specs.declared.cause.Cause.TheVariants.{BadPartSize, BadPath, BadHead, ShortBuffer, NotFound, BadRange, RoundingOverflow, BodyOffPart, NoUploadPlace, UploadNotOpen, StoreFailed, ShortBody, CacheRefused}
use Rattle.faults.specs.declared.cause.StoreFailure.{StoreFailure}
use Rattle.faults.specs.declared.cause.StoreFailure.TheVariants.{Full, Unreachable}

-- a refusal with one reason
abbrev plain : (number : ℕ) (values : List ℕ) → Refusal
plain number values = record { number = number; reason = 0; values = values }

abbrev failed : StoreFailure → Refusal
failed Full = record { number = 11; reason = 1; values = [] }
failed Unreachable = record { number = 11; reason = 2; values = [] }

abbrev pub refusal_of : Cause → Refusal
refusal_of (BadPartSize e) = of_part_size e
refusal_of (BadPath e) = of_path e
refusal_of (BadHead e) = of_head e
refusal_of (ShortBuffer e) = of_buffer e
refusal_of NotFound = plain 5 []
refusal_of (BadRange e) = of_get_range e
refusal_of (RoundingOverflow e) = of_align e
refusal_of (BodyOffPart start) = plain 8 (start ∷ [])
refusal_of NoUploadPlace = plain 9 []
refusal_of (UploadNotOpen number) = plain 10 (number ∷ [])
refusal_of (StoreFailed how) = failed how
refusal_of ShortBody = plain 12 []
refusal_of CacheRefused = plain 13 []
