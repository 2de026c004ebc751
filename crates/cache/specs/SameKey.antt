-- That `same_key` tells exactly whether two keys are the same. It stands here, since the laws of `==` in src/ cite it.
use Rattle.std.specs.Cmp.{IsEquivalence, decided}
use Rattle.std.proofs.Common.{◌≡◌, ℕ, eqb, List, Decides, ap, arith}
use Rattle.std.specs.Str.{bytes_eq}
use Rattle.std.proofs.lemmas.Slice.Eq.{bytes_eq-Decides}
use Rattle.std.proofs.lemmas.Bool.{and_parts, and_from, eqb-true, eq-eqb, false≢true}
use Rattle.cache.specs.Keys.{Key, head_key, part_key, same_key}

heads_apart : {p q : List ℕ} {n : ℕ} → head_key p ≡ part_key q n → ⊥
heads_apart e = let z : ◌≡◌ {A = ℕ} 0 1 = cc in omega arith

pub same_key_decides : (j k : Key) → Decides (same_key j k) (j ≡ k)
same_key_decides (head_key p) (head_key q) =
    (λ t. ap head_key ((bytes_eq-Decides p q).0 t), λ e. (bytes_eq-Decides p q).1 (let f : p ≡ q = cc in f))
same_key_decides (head_key p) (part_key q m) = (λ t. absurd (false≢true t), λ e. absurd (heads_apart e))
same_key_decides (part_key p n) (head_key q) = (λ t. absurd (false≢true t), λ e. absurd (let z : ◌≡◌ {A = ℕ} 0 1 = cc in omega arith))
same_key_decides (part_key p n) (part_key q m) = (
  λ t. let b = and_parts (eqb n m) (bytes_eq p q) t in let x = eqb-true n m b.0 in let y = (bytes_eq-Decides p q).0 b.1 in cc,
  λ e. and_from (eqb n m) (bytes_eq p q) (eq-eqb n m (let f : n ≡ m = cc in f)) ((bytes_eq-Decides p q).1 (let f : p ≡ q = cc in f)),
)

pub same_key_equiv : IsEquivalence same_key
same_key_equiv = decided same_key same_key_decides
