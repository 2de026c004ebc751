-- The definitions allow one answer, and give the worked examples.
use Rattle.std.proofs.Common.{◌≡◌, ℕ, ◌-◌, ◌^◌, refl, inl, inr, arith, lit<, lit≤}
use native.Mathlib.Decide.{dec_lt}
use Rattle.ranges.specs.declared.get_range.GetRange.{GetRange}
use Rattle.ranges.specs.Exact.{Determined, WorkedExamples}
use Rattle.ranges.specs.Pieces.{Split}
use Rattle.ranges.specs.Refusals.{Refusal}
use Rattle.ranges.specs.Requests.{Canonical, Refuses}
use Rattle.ranges.specs.Rounding.{Overflows}
use Rattle.ranges.proofs.Cuts.{met}
use Rattle.ranges.proofs.Rounds.{up_same, down_same}

same_bytes : (g : GetRange) (size a b c d : ℕ) → Canonical g size a b → Canonical g size c d → (a ≡ c) × (b ≡ d)
same_bytes g size a b c d x y = grind arith

same_refusal : (g : GetRange) (size : ℕ) (e f : Refusal) → Refuses g size e → Refuses g size f → e ≡ f
same_refusal g size e f x y = grind arith

same_number : (p start end m n : ℕ) → Split p start end m → Split p start end n → m ≡ n
same_number p start end m n x y =
    elim (dec_lt m n) [
      | yes l ↦ absurd (omega (arith, x.stops m (omega arith), y.exists m l))
      | no k ↦ elim (dec_lt n m) [ yes l ↦ absurd (omega (arith, y.stops n (omega arith), x.exists n l)) | no j ↦ omega (arith, k, j) ]
    ]

pub determined : Determined
determined = record { canonical = same_bytes; refusal = same_refusal; down = down_same; up = up_same; pieces = same_number }

-- 2^64 - 1 lies 1,023 past a multiple
overflows : Overflows 1024 (2 ^ 64 - 1)
overflows = grind arith

pub worked_examples : WorkedExamples
worked_examples = record {
  bounded_past_end = inl (lit≤ tt, refl);
  bounded_of_none = inr (lit< tt, lit≤ tt, refl);
  bounded_cut = record { within = lit≤ tt; forward = lit≤ tt; all = λ i h. (omega arith, omega arith); only = λ i l h. (omega arith, omega arith, omega arith); empty = λ e. omega arith };
  offset_past_end = (lit≤ tt, refl);
  suffix_of_all = record { within = lit≤ tt; forward = lit≤ tt; all = λ i h. (omega arith, omega arith); only = λ i l h. (omega arith, omega arith); empty = λ e. omega arith };
  suffix_of_none = record { within = lit≤ tt; forward = lit≤ tt; all = λ i h. (omega arith, omega arith); only = λ i l h. (omega arith, omega arith); empty = λ e. refl };
  all_of_nothing = (record { within = lit≤ tt; forward = lit≤ tt; all = λ i h. (omega arith, h); only = λ i l h. h; empty = λ e. refl }, (met 1024 0 0 (lit< tt) (lit≤ tt)).split);
  two_parts = ((met 1024 1000 1100 (lit< tt) (lit≤ tt)).split, record { number = refl; begins = refl; ends = refl; forward = lit≤ tt; inside = lit≤ tt }, record { number = refl; begins = refl; ends = refl; forward = lit≤ tt; inside = lit≤ tt });
  end_stays = (0, 2 ^ 64 - 1024, refl, record { multiple = (0, refl); not_beyond = lit≤ tt; near = lit< tt }, record { multiple = (2 ^ 54 - 1, refl); not_before = lit≤ tt; near = lit< tt }, lit< tt);
  end_overflows = (overflows, refl);
}
