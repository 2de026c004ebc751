-- What is left of a number is worked out right, and there is one answer.
use Rattle.std.proofs.Common.{◌≡◌, ℕ, zero, suc, ◌+◌, ◌-◌, ◌*◌, ◌/◌, ◌%◌, ◌<◌, true, false, ℤ, pos, negsuc, ◌+ℤ◌, ◌-ℤ◌, ◌*ℤ◌, nat_abs, sym, refl, ap, ◌∙◌, subst, mod-lt, mod-eq_of_lt, suc-mul, arith}
use native.Mathlib.Nat.{mod-add-div'}
use lib.Arith.{digits_mod}
use lib.Signed.{le_z}
use Rattle.std.specs.Int.{int_rem_euclid}
use Rattle.std.proofs.lemmas.Bool.{both_ways, le-leb}
use Rattle.std.proofs.lemmas.Int.{ints, int_rem_euclid_is}
use Rattle.hosts.specs.Numbers.{LeftOver}

-- a number that n goes into so many times
times_in : ℤ → ℕ → ℤ
times_in (pos m) n = pos (m / n)
times_in (negsuc m) n = negsuc (m / n)

-- how it is worked out; `negsuc m` is -(m + 1)
remainder : ℤ → ℕ → ℕ
remainder (pos m) n = m % n
remainder (negsuc m) n = n - 1 - m % n

remainder_below : (x : ℤ) (n : ℕ) → 0 < n → remainder x n < n
unfolding remainder
remainder_below (pos m) n some = mod-lt m some
remainder_below (negsuc m) n some = omega arith

remainder_is : (x : ℤ) (n : ℕ) → 0 < n → x ≡ (times_in x n *ℤ pos n) +ℤ pos (remainder x n)
unfolding times_in remainder
remainder_is (pos m) n some = ap pos (omega (arith, mod-add-div' m n))
remainder_is (negsuc m) n some =
    let below = mod-lt m some in
    let parts = mod-add-div' m n in
    let one_more = suc-mul (m / n) n in
    omega (arith, ints)

remainder_left : (x : ℤ) (n : ℕ) → 0 < n → LeftOver x n (remainder x n)
remainder_left x n some =
    record {
      below = remainder_below x n;
      multiple = times_in x n;
      is = remainder_is x n;
      nothing = λ e. absurd (omega arith);
    }

-- nothing is left where n is 0
pub left_of_none : {x : ℤ} {n : ℕ} → n ≡ 0 → LeftOver x n 0
left_of_none {x} none = record { below = λ some. omega arith; multiple = x; is = λ some. absurd (omega arith); nothing = λ e. refl }

one_remainder : (x multiple : ℤ) (n r : ℕ) → r < n → x ≡ (multiple *ℤ pos n) +ℤ pos r → int_rem_euclid x (pos n) ≡ pos r
one_remainder x (pos a) n r below is =
    int_rem_euclid_is x (pos n) n 0 (a * n + r) (omega arith) refl (omega (arith, ints)) ∙ ap pos (digits_mod a below)
one_remainder x (negsuc a) n r below is =
    int_rem_euclid_is x (pos n) n (suc a) r (omega arith) refl (omega (arith, ints)) ∙ ap pos (mod-eq_of_lt below)

-- one answer
pub left_over_once : (x : ℤ) (n r s : ℕ) → LeftOver x n r → LeftOver x n s → r ≡ s
left_over_once x zero r s a b = a.nothing refl ∙ sym (b.nothing refl)
left_over_once x (suc n) r s a b =
    let some : 0 < suc n = omega arith in
    let first = one_remainder x a.multiple (suc n) r (a.below some) (a.is some) in
    let other = one_remainder x b.multiple (suc n) s (b.below some) (b.is some) in
    ap nat_abs (sym first ∙ other)

-- what the library works out is what is left
pub left_by_rem : {x : ℤ} {n r : ℕ} → 0 < n → int_rem_euclid x (pos n) ≡ pos r → LeftOver x n r
left_by_rem {x} {n} {r} some is =
    let worked = one_remainder x (times_in x n) n (remainder x n) (remainder_below x n some) (remainder_is x n some) in
    subst (λ s. LeftOver x n s) (ap nat_abs (sym worked ∙ is)) (remainder_left x n some)

-- what the code works out of a number that is not negative
pub left_of_pos : {x : ℤ} {n r : ℕ} → le_z (pos 0) x ≡ true → 0 < n → r ≡ nat_abs x % n → LeftOver x n r
unfolding remainder
left_of_pos {x = pos m} {n} up some is = subst (λ s. LeftOver (pos m) n s) (sym is) (remainder_left (pos m) n some)
left_of_pos {x = negsuc m} up some is = absurd (both_ways (le_z (pos 0) (negsuc m)) refl up)

-- and of a negative one
pub left_of_neg : {x : ℤ} {n r : ℕ} → le_z (pos 0) x ≡ false → 0 < n → r ≡ n - 1 - nat_abs (pos 0 -ℤ (x +ℤ pos 1)) % n → LeftOver x n r
unfolding remainder
left_of_neg {x = pos m} down some is = absurd (both_ways (le_z (pos 0) (pos m)) down (le-leb 0 m (omega arith)))
left_of_neg {x = negsuc m} {n} {r} down some is =
    let size : nat_abs (pos 0 -ℤ (negsuc m +ℤ pos 1)) ≡ m = omega (arith, ints) in
    let worked : r ≡ n - 1 - m % n = is ∙ ap (λ k. n - 1 - k % n) size in
    subst (λ s. LeftOver (negsuc m) n s) (sym worked) (remainder_left (negsuc m) n some)
