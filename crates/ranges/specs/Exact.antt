-- The definitions leave one answer open, and give the worked ones.
use Rattle.std.specs.Prelude.{◌≡◌, ℕ, ◌-◌, ◌^◌}
use Rattle.ranges.specs.declared.get_range.GetRange.{GetRange}
use Rattle.ranges.specs.declared.get_range.GetRange.TheVariants.{All, Bounded, Offset, Suffix}
use Rattle.ranges.specs.Pieces.{PieceAt, Split}
use Rattle.ranges.specs.Refusals.{Refusal, start_too_large, inconsistent, align_overflow}
use Rattle.ranges.specs.Requests.{Canonical, Refuses, Aligned, TooFar}
use Rattle.ranges.specs.Rounding.{Down, Up}

-- two answers that the definitions allow are one
pub record Determined : Type 0 where
  pub canonical : (g : GetRange) (size a b c d : ℕ) → Canonical g size a b → Canonical g size c d → (a ≡ c) × (b ≡ d)
  pub refusal : (g : GetRange) (size : ℕ) (e f : Refusal) → Refuses g size e → Refuses g size f → e ≡ f
  pub down : (p n a b : ℕ) → Down p n a → Down p n b → a ≡ b
  pub up : (p n a b : ℕ) → Up p n a → Up p n b → a ≡ b
  pub pieces : (p start end m n : ℕ) → Split p start end m → Split p start end n → m ≡ n

-- requests of an object of 10 bytes; an empty object; a range over two parts of 1,024; ends next to 2^64
pub record WorkedExamples : Type 0 where
  pub bounded_past_end : Refuses (Bounded 10 5) 10 (start_too_large 10 10)
  pub bounded_of_none : Refuses (Bounded 9 9) 10 (inconsistent 9 9)
  pub bounded_cut : Canonical (Bounded 9 11) 10 9 10
  pub offset_past_end : Refuses (Offset 10) 10 (start_too_large 10 10)
  pub suffix_of_all : Canonical (Suffix 11) 10 0 10
  pub suffix_of_none : Canonical (Suffix 0) 10 10 10
  pub all_of_nothing : Canonical All 0 0 0 × Split 1024 0 0 0
  pub two_parts : Split 1024 1000 1100 2 × PieceAt 1024 1000 1100 0 0 1000 1024 × PieceAt 1024 1000 1100 1 1 0 76
  pub end_stays : Aligned 1024 (Bounded 0 (2 ^ 64 - 1024)) (Bounded 0 (2 ^ 64 - 1024))
  pub end_overflows : TooFar 1024 (Bounded 0 (2 ^ 64 - 1)) (align_overflow (2 ^ 64 - 1))
