-- What one more form adds to the counts.
use Rattle.std.specs.Prelude.{◌≡◌, ℕ}
use Rattle.lines.specs.Counts.{one_more}
use Rattle.head_damage.specs.declared.count.Count.{Count}
use Rattle.head_damage.specs.declared.tries.Came.{Came}
use Rattle.head_damage.specs.declared.tries.Came.TheVariants.{NoHead, Same, Other, Astray}

abbrev pub Counts : Count → (forms loads others no-heads astray : ℕ) → Type 0
Counts c forms loads others no-heads astray =
    (c.forms ≡ forms) × (c.loads ≡ loads) × (c.others ≡ others) × (c.no_heads ≡ no-heads) × (c.astray ≡ astray)

-- each form is counted, and a head that loads as well, whatever it is saved as
abbrev pub Counted : Count → Came → Count → Type 0
Counted c NoHead d = Counts d (one_more c.forms) c.loads c.others (one_more c.no_heads) c.astray
Counted c Same d = Counts d (one_more c.forms) (one_more c.loads) c.others c.no_heads c.astray
Counted c Other d = Counts d (one_more c.forms) (one_more c.loads) (one_more c.others) c.no_heads c.astray
Counted c Astray d = Counts d (one_more c.forms) (one_more c.loads) c.others c.no_heads (one_more c.astray)
