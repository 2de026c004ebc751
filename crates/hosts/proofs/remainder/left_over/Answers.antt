use Rattle.std.proofs.Common.{◌≡◌, true, false, ◌%◌, pos, ◌+ℤ◌, ◌-ℤ◌, nat_abs, ap, ◌∙◌, subst, w64, to_z, of_z, arith, rules}
use Rattle.std.proofs.lemmas.Int.{to_z-of_z}
use lib.Signed.{le_z}
use Rattle.hosts.proofs.Remainders.{left_of_none, left_of_pos, left_of_neg}
use Rattle.hosts.proofs.remainder.left_over.Goals as goal

pub returns-then-n-eq0 : goal.returns-then-n-eq0
returns-then-n-eq0 c = left_of_none c.if-n-eq0.true

pub returns-then-x-ge0 : goal.returns-then-x-ge0
returns-then-x-ge0 c =
    let same = to_z-of_z w64 c.args.x c.ranges.x in
    let some = c.if-n-eq0.false in
    let rest = ap (λ z. nat_abs z % c.args.n) same in
    left_of_pos (subst (λ z. le_z (pos 0) z ≡ true) same c.if-x-ge0.true) (omega (arith, some)) (omega (arith, rest))

pub returns-else-x-ge0 : goal.returns-else-x-ge0
returns-else-x-ge0 c =
    let same = to_z-of_z w64 c.args.x c.ranges.x in
    let some = c.if-n-eq0.false in
    let negative = subst (λ z. le_z (pos 0) z ≡ false) same c.if-x-ge0.false in
    let one : to_z w64 (of_z w64 (c.args.x +ℤ pos 1)) ≡ c.args.x +ℤ pos 1 = search rules in
    let up : to_z w64 (of_z w64 (pos 0 -ℤ (c.args.x +ℤ pos 1))) ≡ pos 0 -ℤ (c.args.x +ℤ pos 1) = search rules in
    let size =
    ap (λ z. to_z w64 (of_z w64 (pos 0 -ℤ to_z w64 (of_z w64 (z +ℤ pos 1))))) same ∙ ap (λ z. to_z w64 (of_z w64 (pos 0 -ℤ z))) one ∙ up in
    let rest = ap (λ z. nat_abs z % c.args.n) size in
    left_of_neg negative (omega (arith, some)) (omega (arith, rest))
