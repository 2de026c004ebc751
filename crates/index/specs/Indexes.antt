-- What an index holds.
use Rattle.std.specs.Prelude.{◌≡◌, ◌≤◌, List, vec_capacity, vec_items}
use Rattle.cache.specs.Tracking.{Entry, sizes}
use Rattle.index.specs.declared.index.Index.TheInside.{Inside}
use Rattle.index.specs.Table.{entries_of, IsTable}

-- what its records say
abbrev pub entries_in : Inside → List Entry
entries_in x = entries_of (vec_items x.table.records)

-- what is true of every index
pub record IsIndex (x : Inside) : Type 0 where
  pub room : 256 ≤ vec_capacity x.table.records
  pub keys : IsTable (entries_in x)
  pub sum : x.total ≡ sizes (entries_in x)
