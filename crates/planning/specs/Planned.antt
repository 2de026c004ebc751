-- What is to come of a request.
use Rattle.std.specs.Prelude.{◌≡◌, ℕ, Bool, true, false, Ok, Err, Result}
use Rattle.ranges.specs.declared.get_range.InvalidGetRange.{InvalidGetRange}
use Rattle.ranges.specs.Pieces.{Split}
use Rattle.ranges.specs.Requests.{Canonicalized, AlignedTo}
use Rattle.ranges.specs.Rounding.{Multiple}
use Rattle.planning.specs.declared.cut.Cut.{Cut}
use Rattle.planning.specs.declared.plan.Prefetch.{Prefetch}
use Rattle.planning.specs.declared.plan.NoPrefetch.{NoPrefetch}
use Rattle.planning.specs.declared.plan.NoPrefetch.TheVariants.{Overflows, Refused, OffMultiple}
use Rattle.planning.specs.declared.request.Request.{Request}

-- a part begins at byte n
pub record OnPart (p n : ℕ) : Type 0 where
  pub begins : Multiple p n

-- no part does
pub record OffPart (p n : ℕ) : Type 0 where
  pub inside : Multiple p n → ⊥

-- whether one does
abbrev pub At : (p n : ℕ) → Bool → Type 0
At p n true = OnPart p n
At p n false = OffPart p n

-- with a head held: the bytes that are asked for, in their pieces, or refusal 6
abbrev pub Answers : Request → Result Cut InvalidGetRange → Type 0
Answers q (Err why) = Canonicalized q.range q.object_size (Err why)
Answers q (Ok cut) =
    Canonicalized q.range q.object_size (Ok cut.pieces.range) × (cut.pieces.part_size ≡ q.part_size)
    × Split q.part_size.bytes cut.pieces.range.start cut.pieces.range.end cut.pieces.len

-- the rounded request goes down, and the store below answers it by the same rule
abbrev pub GoesDown : Request → Prefetch → Type 0
GoesDown q p = AlignedTo q.part_size.bytes q.range (Ok p.request) × Canonicalized p.request q.object_size (Ok p.body)

-- with no head held: what goes down and its body, which can be filed under part numbers exactly if a part
-- begins at the first of its bytes; or the refusal
abbrev pub Fetches : Request → Result Prefetch NoPrefetch → Type 0
Fetches q (Err (Overflows overflow)) = AlignedTo q.part_size.bytes q.range (Err overflow)
Fetches q (Err (Refused request why)) =
    AlignedTo q.part_size.bytes q.range (Ok request) × Canonicalized request q.object_size (Err why)
Fetches q (Err (OffMultiple p)) = GoesDown q p × OffPart q.part_size.bytes p.body.start
Fetches q (Ok p) = GoesDown q p × OnPart q.part_size.bytes p.body.start

-- an open is refused
abbrev pub refused_held : Result Cut InvalidGetRange → Bool
refused_held (Err why) = true
refused_held (Ok cut) = false

abbrev pub refused_not_held : Result Prefetch NoPrefetch → Result Cut InvalidGetRange → Bool
refused_not_held (Err why) a = true
refused_not_held (Ok p) a = refused_held a
