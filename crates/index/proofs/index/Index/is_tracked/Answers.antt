use Rattle.std.proofs.Common.{◌≡◌, ℕ, false, List, is_some, Some, None, Option, sym, ◌∙◌, MatchOption}
use Rattle.cache.specs.Keys.{Key, key_of}
use Rattle.cache.specs.Tracking.{Entry}
use Rattle.index.specs.Table.{tracks, TrackedAt}
use Rattle.index.proofs.Places.{tracks_at}
use Rattle.index.proofs.index.Index.is_tracked.Goals as goal

found_is_tracked : (k : Key) (es : List Entry) (o : Option ℕ) → MatchOption o (tracks k es ≡ false) (λ i. (e : Entry) × TrackedAt k es i e) → is_some o ≡ tracks k es
found_is_tracked k es None f = sym f
found_is_tracked k es (Some i) p = sym (tracks_at p.1)

pub returns-clause-answer : goal.returns-clause-answer
returns-clause-answer c =
    c.is_some.ensures ∙ found_is_tracked (key_of c.args.key.now) c.args.self.now c.find.result c.find.ensures.found
