-- Draws, and the round to the next available index.
use Rattle.std.proofs.Common.{◌≡◌, ℕ, ◌+◌, ◌-◌, ◌%◌, ◌<◌, Bool, true, false, not, List, ◌++◌, length, length-append, get_or, Some, None, Option, MatchOption, refl, sym, ap, ◌∙◌, ⊎_elim, mod-lt, mod-eq_of_lt, zero-add, arith}
use native.Mathlib.Nat.{add-mod_left}
use Rattle.std.specs.declared.iter.Chain.{Chain}
use Rattle.std.specs.declared.ops.Range.{Range}
use Rattle.std.specs.Iterator.Adapters.{chain_first, chain_second, chain_first_done, chain_second_done, chain_steps}
use Rattle.std.specs.List.{range_with_len, AllWithin, HoldsAt}
use Rattle.std.proofs.iter.Yields.{nat_range_steps}
use Rattle.std.proofs.lemmas.Iterator.{YieldsList, YieldsList-from_range}
use Rattle.std.proofs.lemmas.Iterator.Consumers.{YieldsList-from_chain}
use Rattle.std.proofs.lemmas.List.{get_or_append_left, get_or-append_right}
use Rattle.std.proofs.lemmas.List.FromFn.{length-range_with_len, get_or-range_with_len}
use Rattle.std.proofs.lemmas.Bool.{and_parts, not-true, cases_lt, both_ways}
use Rattle.picking.specs.Picks.{available, differs, SomeAvailable, NextRound, Drawn, by_draw, by_round}

-- the indices of a round in its order: those behind the last, then from 0 up to it
abbrev pub round : (last n : ℕ) → List ℕ
round last n = range_with_len (last + 1) (n - (last + 1)) ++ range_with_len 0 (last + 1)

pub round_given : {s : Chain (Range ℕ) (Range ℕ)} (last n : ℕ) → chain_first s ≡ record { start = last + 1; end = n } → chain_second s ≡ record { start = 0; end = last + 1 }
    → chain_first_done s ≡ false → chain_second_done s ≡ false → YieldsList (chain_steps nat_range_steps nat_range_steps) (λ i. i) s (round last n)
round_given last n behind before first second =
    YieldsList-from_chain (YieldsList-from_range (last + 1) n (n - (last + 1)) behind refl) (YieldsList-from_range 0 (last + 1) (last + 1) before (omega arith)) first second

pub round_length : (last n : ℕ) → last < n → length (round last n) ≡ n
round_length last n l =
    omega (arith, length-append (range_with_len (last + 1) (n - (last + 1))) (range_with_len 0 (last + 1)), length-range_with_len (last + 1) (n - (last + 1)), length-range_with_len 0 (last + 1))

pub round_at : (last n i d : ℕ) → last < n → i < n → get_or (round last n) i d ≡ (last + (i + 1)) % n
round_at last n i d l h =
    let front = length-range_with_len (last + 1) (n - (last + 1)) in
    ⊎_elim
    (λ before.
    get_or_append_left (range_with_len (last + 1) (n - (last + 1))) (range_with_len 0 (last + 1)) d i (omega arith)
    ∙ get_or-range_with_len (last + 1) (n - (last + 1)) i d before
    ∙ (let e : last + 1 + i ≡ last + (i + 1) = omega arith in e)
    ∙ sym (mod-eq_of_lt (omega arith)))
    (λ behind.
    get_or-append_right (range_with_len (last + 1) (n - (last + 1))) (range_with_len 0 (last + 1)) (n - (last + 1)) i d front behind
    ∙ get_or-range_with_len 0 (last + 1) (i - (n - (last + 1))) d (omega arith)
    ∙ zero-add (i - (n - (last + 1)))
    ∙ sym (ap (λ x. x % n) (let e : last + (i + 1) ≡ n + (i - (n - (last + 1))) = omega arith in e) ∙ add-mod_left n (i - (n - (last + 1))) ∙ mod-eq_of_lt (omega arith)))
    (cases_lt i (n - (last + 1)))

pub round_below : (last n i j : ℕ) → last < n → i < length (round last n) → j ≡ get_or (round last n) i j → j < n
round_below last n i j l h is =
    let long = round_length last n l in
    let at = round_at last n i j l (omega arith) in
    let some : 0 < n = omega arith in
    let below = mod-lt (last + (i + 1)) some in
    omega arith

-- a round comes to every index
reaches : (last n j : ℕ) → last < n → j < n → (i : ℕ) × (i < n) × ((last + (i + 1)) % n ≡ j)
reaches last n j l h =
    ⊎_elim
    (λ behind.
    (j - last - 1, omega arith, ap (λ x. x % n) (let e : last + (j - last - 1 + 1) ≡ j = omega arith in e) ∙ mod-eq_of_lt h))
    (λ before. (
      n + j - last - 1,
      omega arith,
      ap (λ x. x % n) (let e : last + (n + j - last - 1 + 1) ≡ n + j = omega arith in e) ∙ add-mod_left n j ∙ mod-eq_of_lt h,
    ))
    (cases_lt last j)

-- the first available index of a round is the next one, and there is one where some index is available
pub round_finds : (marks : List Bool) (but : Option ℕ) (last n : ℕ) → last < n → SomeAvailable n marks but → (found : Option ℕ)
    → MatchOption found (AllWithin (λ j. available marks but j ≡ false) (round last n) 0 (length (round last n)))
    (λ j. (available marks but j ≡ true) × (i : ℕ) × (i < length (round last n)) × HoldsAt (λ y. y ≡ j) (round last n) i × AllWithin (λ y. available marks but y ≡ false) (round last n) 0 i)
    → (j : ℕ) × (found ≡ Some j) × NextRound n marks but last j
round_finds marks but last n l some None none =
    let r = reaches last n some.0 l some.1 in
    let long = round_length last n l in
    absurd
    (both_ways (available marks but some.0)
    (ap (available marks but) (sym r.2 ∙ sym (round_at last n r.0 0 l r.1)) ∙ none r.0 0 (omega arith) (omega (arith, r.1)))
    some.2)
round_finds marks but last n l some (Some j) first =
    let long = round_length last n l in
    let i = first.1 in
    let within = first.2 in (
      j,
      refl,
      record {
        steps = i + 1;
        onward = omega arith;
        once_round = omega arith;
        is = sym (first.3 0) ∙ round_at last n i 0 l (omega arith);
        fits = first.0;
        first = λ k up before.
            let e : k - 1 + 1 ≡ k = omega arith in
            ap (λ m. available marks but ((last + m) % n)) (sym e) ∙ ap (available marks but) (sym (round_at last n (k - 1) 0 l (omega arith))) ∙ first.4 (k - 1) 0 (omega arith) (omega arith);
      },
    )

-- an available index is not picked
pub unmarked : (marks : List Bool) (but : Option ℕ) (i : ℕ) → available marks but i ≡ true → get_or marks i false ≡ false
unmarked marks but i fits = not-true (get_or marks i false) (and_parts (not (get_or marks i false)) (differs but i) fits).0

module _ {H : Type 0} (draws : H → ℕ → ℕ → H → Type 0) where
  pub drawn_available : {n : ℕ} {marks : List Bool} {but : Option ℕ} {begin after : H} {i : ℕ} → Drawn draws n marks but begin i after
      → available marks but i ≡ true
  drawn_available (by_draw few misses draw fits) = fits
  drawn_available (by_round misses next) = next.fits
