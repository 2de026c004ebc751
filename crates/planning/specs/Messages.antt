-- The text of a range and of each fault.
use Rattle.std.specs.Prelude.{ℕ, List, ◌++◌, codes, decimal}
use Rattle.ranges.specs.Messages.{part_size_message}
use Rattle.ranges.specs.declared.get_range.GetRange.{GetRange}
use Rattle.ranges.specs.declared.get_range.GetRange.TheVariants.{All, Bounded, Offset, Suffix}
use Rattle.planning.specs.declared.request.Field.{Field}
use Rattle.planning.specs.declared.request.Field.TheVariants as field
use Rattle.planning.specs.declared.request.NoRequest.{NoRequest}
use Rattle.planning.specs.declared.request.NoRequest.TheVariants.{Missing, NotANumber, BadPartSize, UnknownRange, NoTo, Surplus}

abbrev pub written : GetRange → List ℕ
written All = codes "all"
written (Bounded start end) = codes "from " ++ (decimal start ++ (codes " to " ++ decimal end))
written (Offset start) = codes "from " ++ decimal start
written (Suffix length) = codes "tail " ++ decimal length

abbrev pub field_name : Field → List ℕ
field_name field.ObjectSize = codes "the object size (word 1)"
field_name field.PartSize = codes "the part size (word 2)"
field_name field.Kind = codes "the word all, from or tail (word 3)"
field_name field.Start = codes "the start (word 4)"
field_name field.End = codes "the end (word 6)"
field_name field.Length = codes "the length (word 4)"

abbrev pub fault_message : NoRequest → List ℕ
fault_message (Missing f) = codes "the line ends before " ++ field_name f
fault_message (NotANumber f) = field_name f ++ codes " is no decimal number from 0 to 18446744073709551615"
fault_message (BadPartSize bad) = codes "refused 1: " ++ part_size_message bad
fault_message UnknownRange = codes "word 3 is none of all, from and tail"
fault_message NoTo = codes "only the word to may follow the start (word 4)"
fault_message Surplus = codes "words follow the end of the request"
