-- A piece and its place in the object.
use Rattle.std.specs.Prelude.{◌≡◌, ℕ}
use Rattle.ranges.specs.Pieces.{PieceAt, cut_begin, cut_end}
use Rattle.planning.specs.declared.cut.PlacedPiece.{PlacedPiece}

-- q is the i-th piece of start..end in parts of p bytes, and its bytes are the range's share of that part
pub record PlacedAt (p start end i : ℕ) (q : PlacedPiece) : Type 0 where
  pub piece : PieceAt p start end i q.piece.part_id q.piece.start q.piece.end
  pub from : q.start ≡ cut_begin p start i
  pub to : q.end ≡ cut_end p start end i
