use Rattle.std.proofs.Common.{rules}
use Rattle.records.specs.Names.{name_of}
use Rattle.stored_head.specs.Heads.{AttributesWithin}
use Rattle.stored_head.proofs.Named.{no_name, no_value, entry_first}
use Rattle.stored_head.proofs.reader.Reader.entry.Goals as goal

pub returns-in_err-name : goal.returns-in_err-name
returns-in_err-name c = rw c.from_residual.ensures (no_name c.args.self.now.left.now c.in_err-name.ensures)

pub returns-in_err-value : goal.returns-in_err-value
returns-in_err-value c =
    rw c.from_residual-in_err-value.ensures (no_value c.args.self.now.left.now _ _ c.in_ok-name.ensures c.in_err-value.ensures)

pub returns : goal.returns
unfolding name_of AttributesWithin
returns c = search (rules, entry_first)
