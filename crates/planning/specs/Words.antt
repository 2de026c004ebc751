-- Which words say a request, and what is the first thing wrong with words that say none.
use Rattle.std.specs.Prelude.{◌≡◌, ℕ, ◌⊎◌, List, [], ◌∷◌, Ok, Err, codes, Result, ◌≢◌}
use Rattle.lines.specs.Words.{Word, Number, NoNumber}
use Rattle.ranges.specs.Rounding.{PartSized}
use Rattle.ranges.specs.declared.get_range.GetRange.{GetRange}
use Rattle.ranges.specs.declared.get_range.GetRange.TheVariants.{All, Bounded, Offset, Suffix}
use Rattle.planning.specs.declared.request.Field.{Field}
use Rattle.planning.specs.declared.request.Field.TheVariants as field
use Rattle.planning.specs.declared.request.NoRequest.{NoRequest}
use Rattle.planning.specs.declared.request.NoRequest.TheVariants.{Missing, NotANumber, BadPartSize, UnknownRange, NoTo, Surplus}
use Rattle.planning.specs.declared.request.Request.{Request}

-- the first word writes n, and `rest` follows it
abbrev pub Leads : List Word → ℕ → List Word → Type 0
Leads [] n rest = ⊥
Leads (w ∷ ws) n rest = Number w.now n × (rest ≡ ws)

-- no number leads the words, where the one for f is due
abbrev pub NoLead : Field → List Word → NoRequest → Type 0
NoLead f [] e = e ≡ Missing f
NoLead f (w ∷ ws) e = NoNumber w.now × (e ≡ NotANumber f)

-- the words say g, and no word is left
abbrev pub Done : GetRange → List Word → Result GetRange NoRequest → Type 0
Done g [] r = r ≡ Ok g
Done g (w ∷ ws) r = r ≡ Err Surplus

-- a number stands first, for f, and More says what it and the words after it come to
abbrev pub First : {A : Type 0} → Field → List Word → (ℕ → List Word → Result A NoRequest → Type 0) → Result A NoRequest → Type 0
First f ws More r =
    ((e : NoRequest) × NoLead f ws e × (r ≡ Err e)) ⊎ ((n : ℕ) × (rest : List Word) × Leads ws n rest × More n rest r)

-- after `tail`: a length
pub record AfterTail (ws : List Word) (r : Result GetRange NoRequest) : Type 0 where
  pub reads : First field.Length ws (λ length rest s. Done (Suffix length) rest s) r

-- after `to`: an end
pub record AfterTo (start : ℕ) (ws : List Word) (r : Result GetRange NoRequest) : Type 0 where
  pub reads : First field.End ws (λ end rest s. Done (Bounded start end) rest s) r

-- after a start: `to` and an end, or nothing
abbrev pub StartThen : ℕ → List Word → Result GetRange NoRequest → Type 0
StartThen start [] r = r ≡ Ok (Offset start)
StartThen start (w ∷ ws) r =
    ((w.now ≡ codes "to") × AfterTo start ws r) ⊎ ((w.now ≢ codes "to") × (r ≡ Err NoTo))

pub record AfterStart (start : ℕ) (ws : List Word) (r : Result GetRange NoRequest) : Type 0 where
  pub reads : StartThen start ws r

-- after `from`: a start
pub record AfterFrom (ws : List Word) (r : Result GetRange NoRequest) : Type 0 where
  pub reads : First field.Start ws AfterStart r

-- `all`, `from A to B`, `from A` or `tail N`
abbrev pub RangeThen : List Word → Result GetRange NoRequest → Type 0
RangeThen [] r = r ≡ Err (Missing field.Kind)
RangeThen (w ∷ ws) r =
    ((w.now ≡ codes "all") × Done All ws r) ⊎ ((w.now ≡ codes "from") × AfterFrom ws r) ⊎ ((w.now ≡ codes "tail") × AfterTail ws r)
    ⊎ ((w.now ≢ codes "all") × (w.now ≢ codes "from") × (w.now ≢ codes "tail") × (r ≡ Err UnknownRange))

pub record RangeOf (ws : List Word) (r : Result GetRange NoRequest) : Type 0 where
  pub reads : RangeThen ws r

-- the two sizes, and what the words after them come to
abbrev pub Sized : (size p : ℕ) → List Word → Result Request NoRequest → Type 0
Sized size p ws (Ok q) = (q.object_size ≡ size) × (q.part_size.bytes ≡ p) × RangeOf ws (Ok q.range)
Sized size p ws (Err e) = RangeOf ws (Err e)

-- after the part size, which is refused before the words after it are read
pub record AfterPart (size p : ℕ) (ws : List Word) (r : Result Request NoRequest) : Type 0 where
  pub reads : ((PartSized p → ⊥) × (r ≡ Err (BadPartSize (record { requested = p })))) ⊎ (PartSized p × Sized size p ws r)

-- after the object's size: a part size
pub record AfterSize (size : ℕ) (ws : List Word) (r : Result Request NoRequest) : Type 0 where
  pub reads : First field.PartSize ws (AfterPart size) r

-- `SIZE PART_SIZE RANGE`
pub record RequestOf (ws : List Word) (r : Result Request NoRequest) : Type 0 where
  pub reads : First field.ObjectSize ws AfterSize r
