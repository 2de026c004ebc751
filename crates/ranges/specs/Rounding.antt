-- Part sizes, and rounding to multiples of one.
use Rattle.std.specs.Prelude.{◌≡◌, ℕ, ◌+◌, ◌*◌, ◌%◌, ◌^◌, ◌<◌, ◌≤◌}

-- a multiple of 1,024 from 1,024 to 16,384
abbrev pub PartSized : ℕ → Type 0
PartSized p = (1024 ≤ p) × (p ≤ 16384) × (p % 1024 ≡ 0)

-- m is a multiple of p
abbrev pub Multiple : (p m : ℕ) → Type 0
Multiple p m = (times : ℕ) × (m ≡ times * p)

-- m is n rounded down: a multiple of p, not beyond n, less than one part away
pub record Down (p n m : ℕ) : Type 0 where
  pub multiple : Multiple p m
  pub not_beyond : m ≤ n
  pub near : n < m + p

-- m is n rounded up: a multiple of p, not before n, less than one part away
pub record Up (p n m : ℕ) : Type 0 where
  pub multiple : Multiple p m
  pub not_before : n ≤ m
  pub near : m < n + p

-- n rounds up to no number that 64 bits hold
pub record Overflows (p n : ℕ) : Type 0 where
  pub past : (m : ℕ) → Up p n m → 2 ^ 64 ≤ m
