-- A range cut with the parts of an object. Part number k holds the bytes from k × p to before (k + 1) × p.
use Rattle.std.specs.Prelude.{◌≡◌, ℕ, zero, suc, ◌+◌, ◌-◌, ◌*◌, ◌/◌, ◌%◌, ◌<◌, ◌≤◌, min, max, List, [], ◌++◌, take, drop}
use Rattle.ranges.specs.Rounding.{Multiple, Down, Up}

-- the i-th part that a range from `start` on meets: the first is the one that holds byte `start`
abbrev pub part_at : (p start i : ℕ) → ℕ
part_at p start i = start / p + i

-- the i-th piece is the range cut with that part: it begins here in the object,
abbrev pub cut_begin : (p start i : ℕ) → ℕ
cut_begin p start i = max start (part_at p start i * p)

-- and ends before here
abbrev pub cut_end : (p start end i : ℕ) → ℕ
cut_end p start end i = min end (part_at p start i * p + p)

-- the i-th piece, by its part and by where it begins and ends in its part
pub record PieceAt (p start end i part from to : ℕ) : Type 0 where
  pub number : part ≡ part_at p start i
  pub begins : part * p + from ≡ cut_begin p start i
  pub ends : part * p + to ≡ cut_end p start end i
  pub forward : from ≤ to
  pub inside : to ≤ p

-- the bytes of xs from `from` to before `to`
abbrev pub bytes_of : (xs : List ℕ) (from to : ℕ) → List ℕ
bytes_of xs from to = take (to - from) (drop from xs)

-- the bytes of the first n pieces, one after the other
unfoldable pub joined_pieces : (p start end : ℕ) (xs : List ℕ) (n : ℕ) → List ℕ
joined_pieces p start end xs zero = []
joined_pieces p start end xs (suc n) =
    joined_pieces p start end xs n ++ bytes_of xs (cut_begin p start n) (cut_end p start end n)

-- the range has n pieces, and what follows from how it is cut
pub record Split (p start end n : ℕ) : Type 0 where
  -- as many as there are parts from `start` rounded down to `end` rounded up
  pub number : (low high : ℕ) → Down p start low → Up p end high → low + n * p ≡ high
  -- the i-th exists exactly if its part begins before the range ends
  pub exists : (i : ℕ) → i < n → part_at p start i * p < end
  pub stops : (i : ℕ) → n ≤ i → end ≤ part_at p start i * p
  -- the first begins where the range does, each further one where the one before it ends, and the last ends where the range does
  pub first : 0 < n → cut_begin p start 0 ≡ start
  pub next : (i : ℕ) → i + 1 < n → cut_begin p start (i + 1) ≡ cut_end p start end i
  pub last : (i : ℕ) → i + 1 ≡ n → cut_end p start end i ≡ end
  -- joined, they are the range's bytes, of any object
  pub joined : (xs : List ℕ) → joined_pieces p start end xs n ≡ bytes_of xs start end
  -- an empty range inside a part has one piece, of no bytes; one at a multiple of the part size has none
  pub empty_inside : start ≡ end → (Multiple p start → ⊥) → n ≡ 1
  pub empty_between : start ≡ end → Multiple p start → n ≡ 0

-- how many parts there are from `start` rounded down to `end` rounded up
abbrev pub part_count : (p start end : ℕ) → ℕ
part_count p start end = end / p + min 1 (end % p) - start / p

-- the parts from `first` to before `past` are those that the range meets
pub record Met (p start end first past : ℕ) : Type 0 where
  pub begun : first ≡ start / p
  pub forward : first ≤ past
  pub counted : past - first ≡ part_count p start end
  pub split : Split p start end (past - first)

-- the i-th part that the range meets, and where it begins: before the range ends
pub record PartAt (p start end i part begin : ℕ) : Type 0 where
  pub number : part ≡ part_at p start i
  pub place : begin ≡ part * p
  pub exists : begin < end
  pub near : start < begin + p
