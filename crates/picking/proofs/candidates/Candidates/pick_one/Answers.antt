use Rattle.std.proofs.Common.{get_or, Some, None, sym, subst, arith, w64, SFits, rules}
use Rattle.std.proofs.lemmas.List.{length-map}
use Rattle.cache.specs.Tracking.{Entry}
use Rattle.index.specs.Table.{entry_of}
use Rattle.picking.specs.Left.{table_of}
use Rattle.picking.specs.Picks.{Drawn}
use Rattle.picking.proofs.Draws.{drawn_available, unmarked}
use Rattle.picking.proofs.Read.{read_time, same_le, same_lt}
use Rattle.picking.proofs.Unpicked.{some_available, other_available}
use Rattle.picking.proofs.candidates.Candidates.pick_one.Goals as goal

pub pick_random_available_index-first-requires : goal.pick_random_available_index-first-requires
pick_random_available_index-first-requires g c =
    let same = length-map c.args.self.now.keys.now entry_of in
    let s = some_available c.args.self.now.picked (table_of c.args.self.now) (omega arith) in
    (s.0, omega arith, s.2)

pub pick_random_available_index-second-requires : goal.pick_random_available_index-second-requires
pick_random_available_index-second-requires g c =
    let same = length-map c.args.self.now.keys.now entry_of in
    let first = c.pick_random_available_index-first in
    let marks = c.args.self.now.picked in
    let few = c.args.self.now.few in
    let long = c.args.self.now.whole in
    let within = first.ensures.within in
    let fresh = unmarked marks None first.result (drawn_available g.H.Host.draws first.ensures.drawn) in
    let s = other_available marks (table_of c.args.self.now) first.result (omega arith) (omega arith) fresh c.requires in
    (s.0, omega arith, s.2)

pub returns-clause-pick : goal.returns-clause-pick
returns-clause-pick g c e is =
    let draws = g.H.Host.draws in
    let keys = c.args.self.now.keys.now in
    let marks = c.args.self.now.picked in
    let one = c.pick_random_available_index-first in
    let other = c.pick_random_available_index-second in
    let same = length-map keys entry_of in
    let one-fits : SFits w64 (get_or keys one.result c.index-self-first.result).time = search rules in
    let other_fits : SFits w64 (get_or keys other.result c.index-self-second.result).time = search rules in
    let one_time = λ (d : Entry). read_time keys one.result c.index-self-first.result d one.ensures.within one-fits in
    let other-time = λ (d : Entry). read_time keys other.result c.index-self-second.result d other.ensures.within other_fits in
    record {
      first = one.result;
      second = other.result;
      between = one.new.host;
      one = subst (λ n. Drawn draws n marks None c.args.host.now one.result one.new.host) (sym same) one.ensures.drawn;
      other = subst (λ n. Drawn draws n marks (Some one.result) one.new.host other.result other.new.host) (sym same) other.ensures.drawn;
      first_in = omega (arith, one.ensures.within);
      second_in = omega (arith, other.ensures.within);
      earlier = λ d h. c.used_earlier.ensures.first (same_le (one_time d) (other-time d) h);
      later = λ d h. c.used_earlier.ensures.second (same_lt (other-time d) (one_time d) h);
      is = is;
    }
