-- The two sizes before a range.
use Rattle.std.proofs.Common.{ℕ, List, Result, inr}
use Rattle.lines.specs.Words.{Word}
use Rattle.planning.specs.declared.request.NoRequest.{NoRequest}
use Rattle.planning.specs.declared.request.Request.{Request}
use Rattle.planning.specs.Words.{Leads, AfterPart, RequestOf}

pub sizes_then : (ws front back : List Word) (size p : ℕ) (r : Result Request NoRequest) → Leads ws size front → Leads front p back → AfterPart size p back r → RequestOf ws r
sizes_then ws front back size p r l m a = record { reads = inr (size, front, l, record { reads = inr (p, back, m, a) }) }
