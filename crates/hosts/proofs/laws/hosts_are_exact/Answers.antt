use Rattle.std.proofs.Common.{pos, get_or, ap, ◌∙◌, add-zero, drop-drop}
use Rattle.std.proofs.lemmas.List.{get_or-drop}
use Rattle.hosts.proofs.Remainders.{left_over_once}
use Rattle.hosts.proofs.laws.hosts_are_exact.Goals as goal

pub returns-clause-remainder : goal.returns-clause-remainder
returns-clause-remainder c = left_over_once

pub returns-clause-list : goal.returns-clause-list
returns-clause-list c xs i = (get_or-drop i xs 0 (pos 0) ∙ ap (λ n. get_or xs n (pos 0)) (add-zero i), drop-drop 1 i xs)
