-- What one more line adds to the counts.
use Rattle.std.specs.Prelude.{◌≡◌, ℕ, if◌then◌else◌}
use Rattle.lines.specs.Counts.{one_more}
use Rattle.planning.specs.Planned.{refused_held, refused_not_held}
use Rattle.plan.specs.declared.tally.Said.{Said}
use Rattle.plan.specs.declared.tally.Said.TheVariants.{Nothing, NoRequest, Request}
use Rattle.plan.specs.declared.tally.Tally.{Tally}

abbrev pub Counts : Tally → (requests held not_held no_requests : ℕ) → Type 0
Counts t requests held not_held no_requests =
    (t.requests ≡ requests) × (t.refused_held ≡ held) × (t.refused_not_held ≡ not_held) × (t.no_requests ≡ no_requests)

abbrev pub Counted : Tally → Said → Tally → Type 0
Counted t Nothing u = u ≡ t
Counted t NoRequest u = Counts u t.requests t.refused_held t.refused_not_held (one_more t.no_requests)
Counted t (Request plan) u =
    Counts u (one_more t.requests)
    (if refused_held plan.answer then one_more t.refused_held else t.refused_held)
    (if refused_not_held plan.prefetch plan.answer then one_more t.refused_not_held else t.refused_not_held)
    t.no_requests
