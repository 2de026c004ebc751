-- A run of picks grows by one pick, and ends.
use Rattle.std.proofs.Common.{◌≡◌, ℕ, ◌≤◌, Bool, true, false, ◌&&◌, ltb, leb, List, [], ◌∷◌, ◌++◌, length, set, replicate, sym, subst}
use Rattle.std.proofs.lemmas.Bool.{and_parts, ltb-true, leb-true}
use Rattle.cache.specs.Tracking.{Entry, sizes}
use Rattle.picking.specs.Picks.{unpicked, Pick, Picking, none_yet, picks_one}

-- whether another key is picked
abbrev pub more_to_pick : (es : List Entry) (marks : List Bool) (target : ℕ) → Bool
more_to_pick es marks target = ltb target (sizes (unpicked marks es)) && leb 2 (length (unpicked marks es))

pub two_left : (es : List Entry) (marks : List Bool) (target : ℕ) → more_to_pick es marks target ≡ true → 2 ≤ length (unpicked marks es)
two_left es marks target more = leb-true 2 (length (unpicked marks es)) (and_parts _ (leb 2 (length (unpicked marks es))) more).1

module _ {H : Type 0} (draws : H → ℕ → ℕ → H → Type 0) where
  pub run_begins : {es : List Entry} {target : ℕ} {begin : H} {marks : List Bool} {picked : List Entry}
      → marks ≡ replicate 256 false → picked ≡ [] → Picking draws es target begin begin marks picked
  run_begins {es} {target} {begin} {marks} {picked} unmarked empty =
      subst (λ ms. Picking draws es target begin begin ms picked) (sym unmarked)
      (subst (λ ps. Picking draws es target begin begin (replicate 256 false) ps) (sym empty) none_yet)

  pub run_grows : {es : List Entry} {target : ℕ} {begin between after : H} {marks grown : List Bool} {picked more : List Entry} {place : ℕ} {entry : Entry}
      → Picking draws es target begin between marks picked → more_to_pick es marks target ≡ true
      → Pick draws es marks between place entry after → grown ≡ set marks place true → more ≡ picked ++ entry ∷ []
      → Picking draws es target begin after grown more
  run_grows {es} {target} {begin} {between} {after} {marks} {grown} {picked} {more} {place} {entry} run goes pick marked pushed =
      subst (λ ms. Picking draws es target begin after ms more) (sym marked)
      (subst (λ ps. Picking draws es target begin after (set marks place true) ps) (sym pushed)
      (picks_one run (ltb-true target _ (and_parts (ltb target (sizes (unpicked marks es))) _ goes).0) (two_left es marks target goes) pick))
