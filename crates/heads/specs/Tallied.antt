-- What one more line adds to the counts.
use Rattle.std.specs.Prelude.{◌≡◌, ℕ}
use Rattle.lines.specs.Counts.{one_more}
use Rattle.heads.specs.declared.tally.Said.{Said}
use Rattle.heads.specs.declared.tally.Said.TheVariants.{Nothing, Head, Stored, NoHead, Neither}
use Rattle.heads.specs.declared.tally.Tally.{Tally}

abbrev pub Counts : Tally → (heads stored no-heads neither : ℕ) → Type 0
Counts t heads stored no-heads neither =
    (t.heads ≡ heads) × (t.stored ≡ stored) × (t.no_heads ≡ no-heads) × (t.neither ≡ neither)

abbrev pub Counted : Tally → Said → Tally → Type 0
Counted t Nothing u = Counts u t.heads t.stored t.no_heads t.neither
Counted t Head u = Counts u (one_more t.heads) t.stored t.no_heads t.neither
Counted t Stored u = Counts u t.heads (one_more t.stored) t.no_heads t.neither
Counted t NoHead u = Counts u t.heads t.stored (one_more t.no_heads) t.neither
Counted t Neither u = Counts u t.heads t.stored t.no_heads (one_more t.neither)
