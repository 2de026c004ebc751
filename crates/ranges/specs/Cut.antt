-- What the pieces of a range are, as a value and one after the other.
use Rattle.std.specs.Prelude.{◌≡◌, ℕ, ◌+◌, ◌<◌, ◌≤◌, Some, None, Option}
use Rattle.ranges.specs.declared.pieces.Piece.{Piece}
use Rattle.ranges.specs.declared.pieces.Pieces.{Pieces}
use Rattle.ranges.specs.Pieces.{PartAt, PieceAt}

-- the i-th part that the range of s meets, and where it begins
abbrev pub IsPart : (s : Pieces) (i part begin : ℕ) → Type 0
IsPart s i part begin = PartAt s.part_size.bytes s.range.start s.range.end i part begin

-- q is the i-th piece of s
abbrev pub IsPiece : (s : Pieces) (i : ℕ) (q : Piece) → Type 0
IsPiece s i q = PieceAt s.part_size.bytes s.range.start s.range.end i q.part_id q.start q.end

-- one call of the iterator: the piece at `next`, while there is one
abbrev pub Steps : (s : Pieces) (next : ℕ) → Option Piece → (after : ℕ) → Type 0
Steps s next None after = (s.len ≤ next) × (after ≡ next)
Steps s next (Some q) after = (next < s.len) × (after ≡ next + 1) × IsPiece s next q
