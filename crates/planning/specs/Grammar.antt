-- The written form of a request, whole.
use Rattle.std.specs.Prelude.{◌≡◌, ℕ, List, [], ◌∷◌, Ok, Err, codes}
use Rattle.ranges.specs.declared.get_range.GetRange.{GetRange}
use Rattle.ranges.specs.declared.get_range.GetRange.TheVariants.{All, Bounded, Offset, Suffix}
use Rattle.planning.specs.declared.request.NoRequest.{NoRequest}
use Rattle.planning.specs.declared.request.Request.{Request}
use Rattle.lines.specs.Words.{Word, Number}
use Rattle.planning.specs.Words.{RequestOf}

-- the bytes of each word
abbrev pub texts : List Word → List (List ℕ)
texts [] = []
texts (w ∷ ws) = w.now ∷ texts ws

-- the words are `all`, `from A to B`, `from A` or `tail N`
abbrev pub Says : GetRange → List (List ℕ) → Type 0
Says All ts = ts ≡ codes "all" ∷ []
Says (Bounded start end) ts =
    (a : List ℕ) × (b : List ℕ) × (ts ≡ codes "from" ∷ a ∷ codes "to" ∷ b ∷ []) × Number a start × Number b end
Says (Offset start) ts = (a : List ℕ) × (ts ≡ codes "from" ∷ a ∷ []) × Number a start
Says (Suffix length) ts = (a : List ℕ) × (ts ≡ codes "tail" ∷ a ∷ []) × Number a length

-- the words are SIZE PART_SIZE RANGE, and say q
pub record SaysRequest (ts : List (List ℕ)) (q : Request) : Type 0 where
  pub size : List ℕ
  pub part : List ℕ
  pub range : List (List ℕ)
  pub line : ts ≡ size ∷ part ∷ range
  pub of_size : Number size q.object_size
  pub of_part : Number part q.part_size.bytes
  pub of_range : Says q.range range

-- what is read is what the words say, and words that say a request are read
pub record Exact : Type 0 where
  pub sound : (ws : List Word) (q : Request) → RequestOf ws (Ok q) → SaysRequest (texts ws) q
  pub complete : (ws : List Word) (q : Request) (e : NoRequest) → SaysRequest (texts ws) q → RequestOf ws (Err e) → ⊥
