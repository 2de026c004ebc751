-- Laws of numbers in groups of seven bits.
use Rattle.std.proofs.Common.{◌≡◌, ℕ, zero, suc, ◌+◌, ◌-◌, ◌*◌, ◌/◌, ◌%◌, ◌^◌, ◌<◌, ◌≤◌, List, [], ◌∷◌, ◌++◌, length, sym, refl, ap, ◌∙◌, subst, ⊎_elim, eq-zero-or-pos, pow-suc, arith}
use native.Mathlib.Nat.{pow-le-pow_right}
use native.Mathlib.Decide.{dec_lt}
use Rattle.stored_head.specs.Forms.{Wrote}
use Rattle.stored_head.specs.Numbers.{Number, single, further, Formed, NumberFirst, NoNumber, NumberWritten}
use Rattle.stored_head.proofs.Sequence.{wrote_then}

-- the form of a number below 128 is the number itself
pub number_single : (bs : List ℕ) (n : ℕ) → n < 128 → Number bs n → bs ≡ n ∷ []
number_single bs n h (single m b) = refl
number_single bs n h (further low high above l p r) = absurd (omega arith)

-- that of a larger one: its lowest group, and the form of what is above
pub record Split128 (bs : List ℕ) (n : ℕ) : Type 0 where
  pub above : List ℕ
  pub form : Number above (n / 128)
  pub joined : bs ≡ (128 + n % 128) ∷ above

pub number_split : (bs : List ℕ) (n : ℕ) → 128 ≤ n → Number bs n → Split128 bs n
number_split bs n h (single m b) = absurd (omega arith)
number_split bs n h (further low high above l p r) =
    let quotient : (low + 128 * high) / 128 ≡ high = omega arith in
    let rest : (low + 128 * high) % 128 ≡ low = omega arith in
    record { above = above; form = subst (Number above) (sym quotient) r; joined = ap (λ k. (128 + k) ∷ above) (sym rest) }

pub number_make : (above : List ℕ) (n : ℕ) → 128 ≤ n → Number above (n / 128) → Number ((128 + n % 128) ∷ above) n
number_make above n h r =
    subst (Number ((128 + n % 128) ∷ above)) (omega arith) (further (n % 128) (n / 128) above (omega arith) (omega arith) r)

-- no form begins another
pub number_free : (a b : List ℕ) (m n : ℕ) (r s : List ℕ) → Number a m → Number b n → a ++ r ≡ b ++ s → (m ≡ n) × (a ≡ b) × (r ≡ s)
number_free a b m n r s (single i g) (single j h) e = let same : i ≡ j = cc in (same, ap (λ k. k ∷ []) same, cc)
number_free a b m n r s (single i g) (further low high above l p x) e = let same : i ≡ 128 + low = cc in absurd (omega arith)
number_free a b m n r s (further low high above l p x) (single i g) e = let same : 128 + low ≡ i = cc in absurd (omega arith)
number_free a b m n r s (further low high above l p x) (further lower higher other k q y) e =
    let first : 128 + low ≡ 128 + lower = cc in
    let lows : low ≡ lower = omega arith in
    let rest : above ++ r ≡ other ++ s = cc in
    let all = number_free above other high higher r s x y rest in
    let highs : high ≡ higher = all.0 in
    let forms : above ≡ other = all.1 in
    (omega arith, cc, all.2)

pub number_some_long : (bs : List ℕ) (n : ℕ) → Number bs n → 1 ≤ length bs
number_some_long bs n (single m h) = omega arith
number_some_long bs n (further low high above l p r) = omega arith

-- one group less
power_more : (more : ℕ) → 0 < more → 128 ^ (more + 1) ≡ 128 ^ ((more - 1) + 1) * 128
power_more more p =
    let up : more + 1 ≡ suc ((more - 1) + 1) = omega arith in
    ap (λ k. 128 ^ k) up ∙ pow-suc 128 ((more - 1) + 1)

power_least : (more : ℕ) → 128 ≤ 128 ^ (more + 1)
power_least more = pow-le-pow_right {n = 128} (omega arith) {i = 1} {j = more + 1} (omega arith)

-- what is above the lowest group of a number that `more + 1` groups hold, `more` groups hold
pub below_less : (n more : ℕ) → 128 ≤ n → n < 128 ^ (more + 1) → (0 < more) × (n / 128 < 128 ^ ((more - 1) + 1))
below_less n more h b =
    ⊎_elim (λ (z : more ≡ 0). let one : 128 ^ (more + 1) ≡ 128 = ap (λ k. 128 ^ (k + 1)) z in absurd (omega arith))
    (λ (p : 0 < more). (p, omega (arith, power_more more p)))
    (eq-zero-or-pos more)

-- a number whose upper groups fit
pub below_further : (low high more : ℕ) → low < 128 → 0 < more → high < 128 ^ ((more - 1) + 1) → low + 128 * high < 128 ^ (more + 1)
below_further low high more l p h = omega (arith, power_more more p)

-- a number that 9 groups hold fits 64 bits
pub below_fits : (n more : ℕ) → more ≤ 8 → n < 128 ^ (more + 1) → n < 2 ^ 64
below_fits n more h b = let top : 128 ^ (more + 1) ≤ 128 ^ 9 = pow-le-pow_right {n = 128} (omega arith) {i = more + 1} {j = 9} (omega arith) in omega arith

-- every number that `more + 1` groups hold has a form
pub formed : (more n : ℕ) → n < 128 ^ (more + 1) → Formed n
formed zero n b = record { bytes = n ∷ []; form = single n (omega arith) }
formed (suc more) n b =
    elim (dec_lt n 128) [
      | yes h ↦ record { bytes = n ∷ []; form = single n h }
      | no h ↦
          let same : 128 ^ (suc more - 1 + 1) ≡ 128 ^ (more + 1) = ap (λ k. 128 ^ k) (omega arith) in
          let above : Formed (n / 128) = formed more (n / 128) (omega (arith, below_less n (suc more) (omega (arith, h)) b)) in
          record { bytes = (128 + n % 128) ∷ above.bytes; form = number_make above.bytes n (omega (arith, h)) above.form }
    ]

-- a form that begins with a byte of 128 or more goes on
goes_on : (byte : ℕ) (behind : List ℕ) → 128 ≤ byte → (n : ℕ) (bs rest : List ℕ) → Number bs n → byte ∷ behind ≡ bs ++ rest
    → (high : ℕ) × (above : List ℕ) × (n ≡ byte - 128 + 128 * high) × (0 < high) × Number above high × (behind ≡ above ++ rest)
goes_on byte behind large n bs rest (single m b) e = let same : byte ≡ m = cc in absurd (omega arith)
goes_on byte behind large n bs rest (further low high above l p r) e =
    let same : byte ≡ 128 + low = cc in
    (high, above, omega arith, p, r, cc)

module _ (bytes : List ℕ) (byte : ℕ) (behind : List ℕ) (split : bytes ≡ byte ∷ behind) (more : ℕ) where
  pub number_one : byte < 128 → NumberFirst bytes more byte behind
  number_one small =
      record { below = omega (arith, power_least more); formed = record { bytes = byte ∷ []; form = single byte small }; joined = split }

  module _ (large : 128 ≤ byte) where
    -- a last group of 0 is one group too many
    pub no_number_long : (rest : List ℕ) → NumberFirst behind (more - 1) 0 rest → NoNumber bytes more
    no_number_long rest zero-there = record {
      never = λ n bs left b form e.
          let on = goes_on byte behind large n bs left form (sym split ∙ e) in
          let same = number_free zero-there.formed.bytes on.1 0 on.0 rest left zero-there.formed.form on.4 (sym zero-there.joined ∙ on.5) in
          omega (arith, on.3, same.0);
    }

    module _ (p : 0 < more) (high : ℕ) (rest : List ℕ) (first : NumberFirst behind (more - 1) high rest) where
      -- it fits 64 bits, as 9 groups do
      pub number_fits : more ≤ 8 → (low : ℕ) → low < 128 → low + 128 * high < 2 ^ 64
      number_fits few low small = below_fits (low + 128 * high) more few (below_further low high more small p first.below)

      pub number_more : byte < 256 → 0 < high → NumberFirst bytes more (byte - 128 + 128 * high) rest
      number_more small q = record {
        below = below_further (byte - 128) high more (omega arith) p first.below;
        formed = record {
          bytes = (128 + (byte - 128)) ∷ first.formed.bytes;
          form = further (byte - 128) high first.formed.bytes (omega arith) q first.formed.form;
        };
        joined = split ∙ ap (λ k. byte ∷ k) first.joined ∙ ap (λ k. k ∷ (first.formed.bytes ++ rest)) (omega arith);
      }

-- a number that is written: one group, and then what is above it
pub written_single : (at n : ℕ) → n < 128 → (out : List ℕ) (next : ℕ) (after : List ℕ) → Wrote out at (n ∷ []) next after → NumberWritten out at n next after
written_single at n small out next after w =
    record { formed = record { bytes = n ∷ []; form = single n small }; place = w.place; joined = w.joined }

pub written_more : (n : ℕ) → 128 ≤ n → (out : List ℕ) (at middle : ℕ) (half : List ℕ) (next : ℕ) (after : List ℕ) → at ≤ length out
    → Wrote out at ((128 + n % 128) ∷ []) middle half → NumberWritten half middle (n / 128) next after → NumberWritten out at n next after
written_more n large out at middle half next after h w above =
    let all = wrote_then out at ((128 + n % 128) ∷ []) middle half above.formed.bytes next after h w
    (record { place = above.place; joined = above.joined }) in
    record {
      formed = record { bytes = (128 + n % 128) ∷ above.formed.bytes; form = number_make above.formed.bytes n large above.formed.form };
      place = all.place;
      joined = all.joined;
    }

-- room for a number's form is room for a byte
pub room_some : (n more at long : ℕ) → n < 128 ^ (more + 1) → ((bs : List ℕ) → Number bs n → at + length bs ≤ long) → at < long
room_some n more at long below room =
    let form : Formed n = formed more n below in
    omega (arith, number_some_long form.bytes n form.form, room form.bytes form.form)
