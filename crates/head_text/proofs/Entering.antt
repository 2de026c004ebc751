-- An attribute from its name and its text.
use Rattle.std.proofs.Common.{◌≡◌, ℕ, List, Ok, Err, Result, sym, subst, inr, MatchResult}
use Rattle.records.specs.declared.attribute.Attribute.{Attribute}
use Rattle.records.specs.declared.attribute.AttributeEntry.{AttributeEntry}
use Rattle.records.specs.Bytes.{bytes_of}
use Rattle.head_text.specs.declared.no_head.Wrong.{Wrong}
use Rattle.head_text.specs.Said.{Oversized, Means, Enters, Unentered}
use Rattle.head_text.specs.Texts.{Spells}

pub entered : (name text : List ℕ) (a : Attribute) (r : Result AttributeEntry Wrong) → Means name a
    → MatchResult r (λ x. (x.attribute ≡ a) × Spells text (bytes_of x.value)) (λ e. Oversized 7 text e)
    → MatchResult r (λ x. Enters name text x) (λ e. Unentered name text e)
entered name text a (Ok x) m h =
    record { attribute = subst (λ (b : Attribute). Means name b) (sym h.0) m; value = h.1 }
entered name text a (Err e) m h = record { reads = inr (a, m, h) }
