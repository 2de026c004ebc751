use Rattle.std.proofs.Common.{refl, inl, inr}
use Rattle.head_text.proofs.said.attribute.Goals as goal

pub returns-in_ok-key-in-Some : goal.returns-in_ok-key-in-Some
returns-in_ok-key-in-Some c =
    record { reads = inl (c.in-Some.own.now, c.in_ok-key-in-Some.field-0, c.in-Some.ensures, c.in_ok-key-in-Some.ensures, refl) }

pub returns-in_ok-key-in-None : goal.returns-in_ok-key-in-None
returns-in_ok-key-in-None c =
    record { reads = inr (c.in_ok-key-in-None.field-0, c.in-None.ensures, c.in_ok-key-in-None.ensures, c.named.ensures) }
