use Rattle.std.proofs.Common.{◌≡◌, ℕ, true, false, length, subst, rules}
use Rattle.std.proofs.lemmas.Iterator.{first_from_find}
use Rattle.std.proofs.lemmas.Iterator.Adapters.{serves_from_places}
use Rattle.picking.specs.Picks.{available, NextRound}
use Rattle.picking.proofs.Draws.{round_given, round_below, round_finds}
use Rattle.picking.proofs.candidates.Candidates.next_round.Goals as goal
use borrow.Author.Tests.{tests}

pub find-requires-clause-callable : goal.find-requires-clause-callable
find-requires-clause-callable c =
    let last = c.args.last in
    let n = length c.args.self.now.keys.now in
    serves_from_places (round_given last n (cc) (cc) (cc) (cc))
    (λ x q h. search rules)
    (λ x k h at y is _ _ _ _ _ _ _. rw is (round_below last n k x c.requires.last_within h at))

pub unwrap-requires : goal.unwrap-requires
unwrap-requires c =
    let last = c.args.last in
    let n = length c.args.self.now.keys.now in
    let Yes : ℕ → Type 0 = λ i. available c.args.self.now.picked c.args.but i ≡ true in
    let No : ℕ → Type 0 = λ i. available c.args.self.now.picked c.args.but i ≡ false in
    let found = round_finds c.args.self.now.picked c.args.but last n c.requires.last_within c.requires.some c.find.result
    (first_from_find _ _ c.find.result Yes No c.find.ensures.ran (round_given last n (cc) (cc) (cc) (cc)) (λ x q h. search (rules, tests)) (λ x q h. search (rules, tests))) in
    rw found.1

pub returns-clause-next : goal.returns-clause-next
returns-clause-next c =
    let last = c.args.last in
    let n = length c.args.self.now.keys.now in
    let Yes : ℕ → Type 0 = λ i. available c.args.self.now.picked c.args.but i ≡ true in
    let No : ℕ → Type 0 = λ i. available c.args.self.now.picked c.args.but i ≡ false in
    let found = round_finds c.args.self.now.picked c.args.but last n c.requires.last_within c.requires.some c.find.result
    (first_from_find _ _ c.find.result Yes No c.find.ensures.ran (round_given last n (cc) (cc) (cc) (cc)) (λ x q h. search (rules, tests)) (λ x q h. search (rules, tests))) in
    let same : found.0 ≡ c.unwrap.result = cc (found.1, c.unwrap.ensures) in
    subst (NextRound n c.args.self.now.picked c.args.but last) same found.2
