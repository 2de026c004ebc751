-- Bytes put at the beginning of an array of zeros.
use Rattle.std.proofs.Common.{◌≡◌, ℕ, ◌-◌, ◌≤◌, List, ◌++◌, length, take, drop, replicate, refl, ap, ◌∙◌, arith, length-append}
use borrow.Rule.Slice.PartMut.{put_mid}
use Rattle.std.proofs.lemmas.List.{take_at, drop_at, drop-replicate, length-replicate}
use Rattle.records.specs.Padded.{Padded}

abbrev zeros : ℕ → List ℕ
zeros n = replicate n 0

module _ (xs : List ℕ) (k : ℕ) (is : k ≡ length xs) (fits : length xs ≤ 64) where
  behind : drop k (zeros 64) ≡ zeros (64 - length xs)
  behind = drop-replicate k 64 _ ∙ ap (λ n. zeros (64 - n)) is

  pub put_padded : Padded 64 (length xs) (put_mid 0 k (zeros 64) xs)
  put_padded = (
    ap length (ap (λ ys. xs ++ ys) behind) ∙ length-append xs (zeros (64 - length xs))
        ∙ omega (arith, fits, length-replicate {A = ℕ} (64 - length xs) 0),
    fits,
    drop_at xs (drop k (zeros 64)) (length xs) refl ∙ behind,
  )

  pub put_held : take (length xs) (put_mid 0 k (zeros 64) xs) ≡ xs
  put_held = take_at xs (drop k (zeros 64)) (length xs) refl
