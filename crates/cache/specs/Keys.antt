-- What a cache holds values under: the head of a path, or one of its parts.
use Rattle.std.specs.Prelude.{ℕ, Bool, false, ◌&&◌, List, ◌==◌}
use Rattle.std.specs.Str.{bytes_eq}
use Rattle.records.specs.declared.path.Path.{Path}
use Rattle.records.specs.Bytes.{bytes_of}
use Rattle.cache.specs.declared.key.CacheKey.{CacheKey}
use Rattle.cache.specs.declared.key.CacheKey.TheVariants.{Head, Part}

pub data Key : Type 0 where
  head_key : (path : List ℕ) → Key
  part_key : (path : List ℕ) (number : ℕ) → Key

abbrev pub key_path : Key → List ℕ
key_path (head_key path) = path
key_path (part_key path number) = path

-- whether two keys are the same
abbrev pub same_key : Key → Key → Bool
same_key (head_key p) (head_key q) = bytes_eq p q
same_key (head_key p) (part_key q m) = false
same_key (part_key p n) (head_key q) = false
same_key (part_key p n) (part_key q m) = n == m && bytes_eq p q

-- the bytes of a path of the code
abbrev pub path_bytes : Path → List ℕ
path_bytes p = bytes_of p.name

-- a key of the code
abbrev pub key_of : CacheKey → Key
key_of (Head p) = head_key (path_bytes p)
key_of (Part p n) = part_key (path_bytes p) n
