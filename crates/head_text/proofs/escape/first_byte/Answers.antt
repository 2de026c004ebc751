use Rattle.std.proofs.Common.{rules}
use Rattle.head_text.proofs.Spelling.{no_first, first_hex, from_two}
use Rattle.head_text.proofs.escape.first_byte.Goals as goal

pub returns-in_err-hex_byte : goal.returns-in_err-hex_byte
returns-in_err-hex_byte c =
    rw c.from_residual.ensures
    (no_first c.args.first c.args.rest.now _ _ _ c.if-first-ne37.false (from_two c.args.rest.now (search rules)) c.in_err-hex_byte.ensures)

pub returns : goal.returns
returns c =
    first_hex c.args.first c.args.rest.now _ _ _ _ c.if-first-ne37.false (from_two c.args.rest.now (search rules)) c.in_ok-hex_byte.ensures
