use Rattle.std.proofs.Common.{rules, inl, inr}
use Rattle.planning.proofs.Heads.{sizes_then}
use Rattle.planning.proofs.words.read_request.Goals as goal

pub returns-in_err-part_size : goal.returns-in_err-part_size
returns-in_err-part_size c = sizes_then _ _ _ c.in_ok-object_size.object_size c.in_ok-bytes.bytes _ c.in_ok-object_size.ensures c.in_ok-bytes.ensures (record { reads = inl (search rules) })

pub returns-in_err-range : goal.returns-in_err-range
returns-in_err-range c = sizes_then _ _ _ c.in_ok-object_size.object_size c.in_ok-bytes.bytes _ c.in_ok-object_size.ensures c.in_ok-bytes.ensures (record { reads = inr (search rules) })

pub returns : goal.returns
returns c = sizes_then _ _ _ c.in_ok-object_size.object_size c.in_ok-bytes.bytes _ c.in_ok-object_size.ensures c.in_ok-bytes.ensures (record { reads = inr (search rules) })
