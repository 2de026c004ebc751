-- A range cut with its parts has the laws of `Split`.
use Rattle.std.proofs.Common.{◌≡◌, ℕ, zero, suc, ◌+◌, ◌-◌, ◌*◌, ◌/◌, ◌%◌, ◌<◌, ◌≤◌, min, List, ◌++◌, take, drop, sym, refl, ap, ◌∙◌, ⊎_elim, mul-le-mul_right, mod-lt, add-mul, eq-zero-or-pos, div-add-mod', add-one, arith}
use Rattle.std.proofs.Math.Seq.{take-add}
use Rattle.std.proofs.lemmas.List.{drop-drop}
use Rattle.ranges.specs.Pieces.{part_at, cut_begin, cut_end, bytes_of, joined_pieces, part_count, Met, PartAt}
use Rattle.ranges.specs.Rounding.{Multiple, Down, Up}
use Rattle.ranges.proofs.Rounds.{times_past, up_same, down_same}

-- bytes up to b, and then up to c
bytes_then : (xs : List ℕ) (a b c : ℕ) → a ≤ b → b ≤ c → bytes_of xs a b ++ bytes_of xs b c ≡ bytes_of xs a c
bytes_then xs a b c h k = grind (arith, take-add (b - a) (c - b) (drop a xs), drop-drop (b - a) a xs)

module _ (p start end : ℕ) (h : 0 < p) (f : start ≤ end) where
  -- the first part behind the range
  abbrev past : ℕ
  past = end / p + min 1 (end % p)

  past_up : Up p end (past * p)
  past_up = record { multiple = (past, refl); not_before = grind (arith, mod-lt end h); near = grind (arith, mod-lt end h) }

  first_down : Down p start (start / p * p)
  first_down = record { multiple = (start / p, refl); not_beyond = omega (arith, div-add-mod' start p); near = omega (arith, div-add-mod' start p, mod-lt start h) }

  first_past : start / p ≤ past
  first_past = grind arith

  abbrev count : ℕ
  count = part_count p start end

  exists_at : (i : ℕ) → i < count → part_at p start i * p < end
  exists_at i b =
      let l : part_at p start i < past = omega (arith, first_past) in
      omega (arith, times_past p (part_at p start i) past l, past_up.near)

  -- every part but the first begins behind the range's start
  later_at : (i : ℕ) → 0 < i → start < part_at p start i * p
  later_at i b = grind arith

  near_at : (i : ℕ) → start < part_at p start i * p + p
  near_at i = grind arith

  stops_at : (i : ℕ) → count ≤ i → end ≤ part_at p start i * p
  stops_at i b = omega (arith, mul-le-mul_right {m = past} {n = part_at p start i} p (omega (arith, first_past)), past_up.not_before)

  number_of : (low high : ℕ) → Down p start low → Up p end high → low + count * p ≡ high
  number_of low high d u =
      let l : low ≡ start / p * p = down_same p start low (start / p * p) d first_down in
      let t : high ≡ past * p = up_same p end high (past * p) u past_up in
      let sum : start / p + count ≡ past = omega (arith, first_past) in
      let spread : (start / p + count) * p ≡ start / p * p + count * p = add-mul (start / p) count p in
      let whole : (start / p + count) * p ≡ past * p = ap (λ k. k * p) sum in
      omega arith

  first_of : cut_begin p start 0 ≡ start
  first_of = grind arith

  -- the next part begins where this one ends
  begin_more : (i : ℕ) → part_at p start (i + 1) * p ≡ part_at p start i * p + p
  begin_more i = grind arith

  next_of : (i : ℕ) → i + 1 < count → cut_begin p start (i + 1) ≡ cut_end p start end i
  next_of i b = omega (arith, begin_more i, exists_at (i + 1) b, later_at (i + 1) (omega arith))

  last_of : (i : ℕ) → i + 1 ≡ count → cut_end p start end i ≡ end
  last_of i b = omega (arith, begin_more i, stops_at (i + 1) (omega arith))

  end_within : (i : ℕ) → start ≤ cut_end p start end i
  end_within i = grind arith

  joined_to : (m : ℕ) (xs : List ℕ) → m < count → joined_pieces p start end xs (suc m) ≡ bytes_of xs start (cut_end p start end m)
  unfolding joined_pieces
  joined_to zero xs b = ap (λ a. bytes_of xs a (cut_end p start end 0)) first_of
  joined_to (suc m) xs b =
      let begin : cut_begin p start (suc m) ≡ cut_end p start end m = rw (← add-one) (next_of m (omega arith)) in
      let order : cut_end p start end m ≤ cut_end p start end (suc m) = rw (← add-one) (omega (arith, begin_more m)) in
      let front : joined_pieces p start end xs (suc m) ≡ bytes_of xs start (cut_end p start end m) = joined_to m xs (omega arith) in
      let back : bytes_of xs (cut_begin p start (suc m)) (cut_end p start end (suc m)) ≡ bytes_of xs (cut_end p start end m) (cut_end p start end (suc m)) =
      ap (λ a. bytes_of xs a (cut_end p start end (suc m))) begin in
      let whole = bytes_then xs start (cut_end p start end m) (cut_end p start end (suc m)) (end_within m) order in
      cc

  joined_none : (xs : List ℕ) → count ≡ 0 → joined_pieces p start end xs count ≡ bytes_of xs start end
  unfolding joined_pieces
  joined_none xs e =
      let nothing : end - start ≡ 0 = omega (arith, stops_at 0 (omega arith), first_of) in
      ap (joined_pieces p start end xs) e ∙ sym (ap (λ n. take n (drop start xs)) nothing)

  joined_of : (xs : List ℕ) → joined_pieces p start end xs count ≡ bytes_of xs start end
  joined_of xs =
      ⊎_elim (joined_none xs)
      (λ (e : 0 < count).
      let more : count ≡ suc (count - 1) = omega arith in
      ap (joined_pieces p start end xs) more ∙ joined_to (count - 1) xs (omega arith)
      ∙ ap (bytes_of xs start) (last_of (count - 1) (omega arith)))
      (eq-zero-or-pos count)

  inside_of : start ≡ end → (Multiple p start → ⊥) → count ≡ 1
  inside_of e n =
      let quotient : start / p ≡ end / p = ap (λ k. k / p) e in
      let rest : start % p ≡ end % p = ap (λ k. k % p) e in
      ⊎_elim (λ (z : start % p ≡ 0). absurd (n (start / p, omega (arith, div-add-mod' start p)))) (λ (z : 0 < start % p). omega arith) (eq-zero-or-pos (start % p))

  between_of : start ≡ end → Multiple p start → count ≡ 0
  between_of e m = grind (arith, down_same p start start (start / p * p) (record { multiple = m; not_beyond = omega arith; near = omega arith }) first_down)

  pub met : Met p start end (start / p) past
  met = record {
    begun = refl;
    forward = first_past;
    counted = refl;
    split = record {
      number = number_of;
      exists = exists_at;
      stops = stops_at;
      first = λ _. first_of;
      next = next_of;
      last = last_of;
      joined = joined_of;
      empty_inside = inside_of;
      empty_between = between_of;
    };
  }

  pub part_met : (i : ℕ) → i < count → PartAt p start end i (part_at p start i) (part_at p start i * p)
  part_met i b = record { number = refl; place = refl; exists = exists_at i b; near = near_at i }

  pub part_small : (i : ℕ) → i < count → part_at p start i < end
  part_small i b = grind arith
