use Rattle.head_text.proofs.Spelling.{no_upper, no_lower}
use Rattle.head_text.proofs.escape.hex_byte.Goals as goal

pub returns-in_err-h : goal.returns-in_err-h
returns-in_err-h c = rw c.from_residual.ensures (no_upper c.args.high c.args.low c.in_err-h.ensures)

pub returns-in_err-l : goal.returns-in_err-l
returns-in_err-l c = rw c.from_residual-in_err-l.ensures (no_lower c.args.high c.args.low c.in_err-l.ensures)
