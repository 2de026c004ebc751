-- The parts of a path among the tracked keys.
use Rattle.std.specs.Prelude.{ℕ, min, cond, List, [], ◌∷◌, Some, None, Option}
use Rattle.std.specs.Str.{bytes_eq}
use Rattle.cache.specs.Keys.{Key, head_key, part_key}
use Rattle.cache.specs.Tracking.{Entry}

-- the number of the part, where the key is of a part of the path
abbrev pub part_number : (path : List ℕ) → Key → Option ℕ
part_number path (head_key p) = None
part_number path (part_key p number) = cond (bytes_eq p path) (Some number) None

-- the smaller of two numbers, or the one that is there
abbrev pub smaller_of : Option ℕ → Option ℕ → Option ℕ
smaller_of None b = b
smaller_of (Some m) None = Some m
smaller_of (Some m) (Some n) = Some (min m n)

-- the smallest number of a tracked part of the path
abbrev pub smallest_part : (path : List ℕ) → List Entry → Option ℕ
smallest_part path [] = None
smallest_part path (e ∷ es) = smaller_of (part_number path e.key) (smallest_part path es)
