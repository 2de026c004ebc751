-- The text of each refusal.
use Rattle.std.specs.Prelude.{ℕ, List, ◌++◌, codes, decimal}
use Rattle.ranges.specs.declared.get_range.AlignOverflow.{AlignOverflow}
use Rattle.ranges.specs.declared.get_range.InvalidCachePartSize.{InvalidCachePartSize}
use Rattle.ranges.specs.declared.get_range.InvalidGetRange.{InvalidGetRange}
use Rattle.ranges.specs.declared.get_range.InvalidGetRange.TheVariants.{StartTooLarge, Inconsistent}

abbrev pub part_size_message : InvalidCachePartSize → List ℕ
part_size_message e = codes "Part size " ++ (decimal e.requested ++ codes " is no multiple of 1024 from 1024 to 16384")

abbrev pub get_range_message : InvalidGetRange → List ℕ
get_range_message (StartTooLarge requested length) =
    codes "Range start too large, requested: " ++ (decimal requested ++ (codes ", length: " ++ decimal length))
get_range_message (Inconsistent start end) = codes "Range started at " ++ (decimal start ++ (codes " and ended at " ++ decimal end))

abbrev pub align_message : AlignOverflow → List ℕ
align_message e = codes "Rounding " ++ (decimal e.requested ++ codes " up to a multiple of the part size passes 2^64 - 1")
