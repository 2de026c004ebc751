-- What is held through the table of tracked keys.
use Rattle.std.proofs.Common.{◌≡◌, Bool, true, cond, None, Option, sym, subst}
use Rattle.std.proofs.lemmas.Bool.{cond-true}

module _ {X : Type 0} (P : Option X → Type 0) (tracked : Bool) (o : Option X) where
  pub through : tracked ≡ true → P o → P (cond tracked o None)
  through t p = subst P (sym (cond-true tracked o None t)) p
