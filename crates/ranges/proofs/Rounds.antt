-- Where the multiples of a part size lie.
use Rattle.std.proofs.Common.{◌≡◌, ℕ, ◌+◌, ◌-◌, ◌*◌, ◌/◌, ◌%◌, ◌^◌, ◌<◌, ◌≤◌, mod-lt, div-add-mod', arith}
use Rattle.ranges.specs.Rounding.{Down, Up, Overflows}

-- one multiple more is one part more
pub times_more : (p k : ℕ) → (k + 1) * p ≡ k * p + p
times_more p k = grind arith

-- a multiple past another is a whole part past it
pub times_past : (p j k : ℕ) → j < k → j * p + p ≤ k * p
times_past p j k h = grind arith

-- multiples less than one part apart are one
pub times_same : (p j k : ℕ) → j * p < k * p + p → k * p < j * p + p → j ≡ k
times_same p j k a b = grind arith

pub up_same : (p n a b : ℕ) → Up p n a → Up p n b → a ≡ b
up_same p n a b u v = grind (arith, times_same p u.multiple.0 v.multiple.0, u.multiple.1, v.multiple.1)

pub down_same : (p n a b : ℕ) → Down p n a → Down p n b → a ≡ b
down_same p n a b u v = grind (arith, times_same p u.multiple.0 v.multiple.0, u.multiple.1, v.multiple.1)

module _ (p n : ℕ) (h : 0 < p) where
  pub down_of : Down p n (n - n % p)
  down_of = record { multiple = (n / p, omega (arith, div-add-mod' n p)); not_beyond = omega arith; near = omega (arith, mod-lt n h, div-add-mod' n p) }

  pub rest_here : n % p ≡ 0 → Up p n n
  rest_here e = record { multiple = (n / p, omega (arith, div-add-mod' n p)); not_before = omega arith; near = omega arith }

  pub rest_above : 0 < n % p → Up p n (n + (p - n % p))
  rest_above e =
      record { multiple = (n / p + 1, omega (arith, div-add-mod' n p, times_more p (n / p), mod-lt n h)); not_before = omega arith; near = omega (arith, mod-lt n h) }

  pub overflows_of : 0 < n % p → 2 ^ 64 ≤ n + (p - n % p) → Overflows p n
  overflows_of e f = record { past = λ m u. omega (arith, up_same p n m (n + (p - n % p)) u (rest_above e), f) }
