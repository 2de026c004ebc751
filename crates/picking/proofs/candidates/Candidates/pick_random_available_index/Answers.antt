use Rattle.std.proofs.Common.{◌≡◌, length, sym, subst, add-one, arith}
use Rattle.picking.specs.Picks.{Misses, no_miss, one_more, by_draw, by_round}
use Rattle.picking.proofs.candidates.Candidates.pick_random_available_index.Goals as goal

pub loop-tried-init : goal.loop-tried-init
loop-tried-init g c = (let some = c.requires.1 in omega arith, no_miss)

pub loop-tried-preserved : goal.loop-tried-preserved
loop-tried-preserved g c =
    let more = one_more c.loop-tried.invariant.1 c.draw-last.ensures.drawn (sym c.if-is_available.ensures) in
    (c.draw-last.ensures.below (omega (arith, c.requires.1)), rw add-one more)

pub returns-then-is_available-clause-drawn : goal.returns-then-is_available-clause-drawn
returns-then-is_available-clause-drawn g c =
    by_draw (omega arith) c.loop-tried.invariant.1 c.draw-last.ensures.drawn (sym c.if-is_available.ensures)

pub returns-clause-drawn : goal.returns-clause-drawn
returns-clause-drawn g c =
    let all : c.loop-tried._tried ≡ 64 = omega arith in
    by_round
    (subst (λ k. Misses g.H.Host.draws (length c.args.self.now.keys.now) c.args.self.now.picked c.args.but c.args.host.now k c.loop-tried.host c.loop-tried.last) all c.loop-tried.invariant.1)
    c.next_round.ensures.next
