-- Numbers that are written one after the other.
use Rattle.std.proofs.Common.{◌≡◌, ℕ, ◌+◌, ◌*◌, ◌<◌, ◌≤◌, List, [], ◌∷◌, ◌++◌, length, get_or, take, drop, refl, ap, ◌∙◌, append_assoc, arith}
use borrow.Rule.Slice.PartMut.{put_mid}
use Rattle.std.proofs.lemmas.List.{take_at, drop_at, drop-drop, take_more, length-take-le}
use Rattle.std.proofs.lemmas.Grind.{flat_map-append}
use Rattle.ranges_c.specs.Numbers.{low_first, in_bytes}

pub length_in_bytes : (ns : List ℕ) → length (in_bytes ns) ≡ 8 * length ns
unfolding in_bytes
length_in_bytes [] = refl
length_in_bytes (n ∷ ns) = omega (arith, length_in_bytes ns)

in_bytes_push : (ns : List ℕ) (n : ℕ) → in_bytes (ns ++ n ∷ []) ≡ in_bytes ns ++ low_first n
unfolding in_bytes
in_bytes_push ns n = flat_map-append low_first ns (n ∷ [])

pub in_bytes_none : (out : List ℕ) → out ≡ in_bytes [] ++ out
unfolding in_bytes
in_bytes_none out = refl

-- one number more, behind those that stand
module _ (ns before out part : List ℕ) (i k : ℕ) (below : i < length ns) (room : 8 * length ns ≤ length before)
    (so_far : out ≡ in_bytes (take i ns) ++ drop (8 * i) before) (eight : k ≡ 8) (written : part ≡ low_first (get_or ns i 0)) where
  pub store_more : put_mid (8 * i) k out part ≡ in_bytes (take (i + 1) ns) ++ drop (8 * (i + 1)) before
  store_more =
      let front : List ℕ = in_bytes (take i ns) in
      let back : List ℕ = drop (8 * i) before in
      let long : length front ≡ 8 * i = length_in_bytes (take i ns) ∙ ap (λ m. 8 * m) (length-take-le i ns (omega arith)) in
      let head : take (8 * i) out ≡ front = ap (take (8 * i)) so_far ∙ take_at front back (8 * i) long in
      let tail : drop (8 * i) out ≡ back = ap (drop (8 * i)) so_far ∙ drop_at front back (8 * i) long in
      let rest : drop 8 back ≡ drop (8 * (i + 1)) before = drop-drop 8 (8 * i) before ∙ ap (λ m. drop m before) (omega arith) in
      let behind : drop k (drop (8 * i) out) ≡ drop (8 * (i + 1)) before = ap (λ m. drop m (drop (8 * i) out)) eight ∙ ap (drop 8) tail ∙ rest in
      let more : in_bytes (take (i + 1) ns) ≡ front ++ low_first (get_or ns i 0) = ap in_bytes (take_more ns i 0 below) ∙ in_bytes_push (take i ns) (get_or ns i 0) in
      let joins = append_assoc front (low_first (get_or ns i 0)) (drop (8 * (i + 1)) before) in
      cc
