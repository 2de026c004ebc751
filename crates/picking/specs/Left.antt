-- What is left of a table.
use Rattle.std.specs.Prelude.{List}
use Rattle.cache.specs.Tracking.{Entry}
use Rattle.index.specs.Table.{entries_of}
use Rattle.picking.specs.declared.candidates.Candidates.{Candidates}
use Rattle.picking.specs.Picks.{unpicked}

-- the table, picked keys too
abbrev pub table_of : Candidates → List Entry
table_of c = entries_of c.keys.now

-- those that are not picked, in their order
abbrev pub left_in : Candidates → List Entry
left_in c = unpicked c.picked (table_of c)
