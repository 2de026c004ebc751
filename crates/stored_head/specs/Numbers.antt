-- Numbers as a stored head has them.
use Rattle.std.specs.Prelude.{◌≡◌, ℕ, ◌+◌, ◌*◌, ◌^◌, ◌<◌, List, [], ◌∷◌, ◌++◌, length, take, drop, ◌≢◌}

-- bs is the stored form of n: groups of seven bits, the lowest first, each but the last with its high bit set,
-- and as few as there can be, since the last of several is not 0
pub data Number : List ℕ → ℕ → Type 0 where
  single : (n : ℕ) → n < 128 → Number (n ∷ []) n
  further : (low high : ℕ) (bs : List ℕ) → low < 128 → 0 < high → Number bs high → Number ((128 + low) ∷ bs) (low + 128 * high)

-- the form of n, with its bytes
pub record Formed (n : ℕ) : Type 0 where
  pub bytes : List ℕ
  pub form : Number bytes n

-- the form of a number below 128^(more + 1) comes first, and `rest` is behind it
pub record NumberFirst (bytes : List ℕ) (more n : ℕ) (rest : List ℕ) : Type 0 where
  pub below : n < 128 ^ (more + 1)
  pub formed : Formed n
  pub joined : bytes ≡ formed.bytes ++ rest

-- no form of such a number does
pub record NoNumber (bytes : List ℕ) (more : ℕ) : Type 0 where
  pub never : (n : ℕ) (bs rest : List ℕ) → n < 128 ^ (more + 1) → Number bs n → bytes ≢ bs ++ rest

-- the form of n was written at `at`, and ends before `next`
pub record NumberWritten (out : List ℕ) (at n next : ℕ) (after : List ℕ) : Type 0 where
  pub formed : Formed n
  pub place : next ≡ at + length formed.bytes
  pub joined : after ≡ take at out ++ (formed.bytes ++ drop next out)
