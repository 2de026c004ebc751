-- Bytes in a longer array: the array holds them, and zeros behind them.
use Rattle.std.specs.Prelude.{◌≡◌, ℕ, ◌-◌, ◌≤◌, List, length, take, drop, replicate, Option}
use Rattle.std.specs.Option.{option_map}

-- the first `len` bytes are held
abbrev pub held : (len : ℕ) (bytes : List ℕ) → List ℕ
held len bytes = take len bytes

-- an array of `room` bytes that holds `len`, with zeros behind them
abbrev pub Padded : (room len : ℕ) (bytes : List ℕ) → Type 0
Padded room len bytes = (length bytes ≡ room) × (len ≤ room) × (drop len bytes ≡ replicate (room - len) 0)

-- the bytes of an e_tag or a version, where it is present
abbrev pub labelled : (len : Option ℕ) (bytes : List ℕ) → Option (List ℕ)
labelled len bytes = option_map (λ n. held n bytes) len
