-- The table as the code reads it.
use Rattle.std.proofs.Common.{◌≡◌, ℕ, ◌<◌, List, length, get_or, ℤ, ◌≤ℤ◌, ◌<ℤ◌, sym, ap, ◌∙◌, subst, w64, SFits, to_z, of_z}
use Rattle.std.proofs.lemmas.List.{get_or-map}
use Rattle.std.proofs.lemmas.Int.{to_z-of_z}
use Rattle.cache.specs.Tracking.{Entry}
use Rattle.index.specs.declared.record.KeyRecord.{KeyRecord}
use Rattle.index.specs.Table.{entry_of, entries_of}

pub read_entry : (keys : List KeyRecord) (i : ℕ) (k : KeyRecord) (d : Entry) → i < length keys → get_or (entries_of keys) i d ≡ entry_of (get_or keys i k)
read_entry keys i k d l = get_or-map entry_of keys i k d l

pub read_time : (keys : List KeyRecord) (i : ℕ) (k : KeyRecord) (d : Entry) → i < length keys → SFits w64 (get_or keys i k).time
    → (get_or (entries_of keys) i d).time ≡ to_z w64 (of_z w64 (get_or keys i k).time)
read_time keys i k d l fits = ap (λ e. e.time) (read_entry keys i k d l) ∙ sym (to_z-of_z w64 (get_or keys i k).time fits)

pub same_le : {a b x y : ℤ} → a ≡ x → b ≡ y → a ≤ℤ b → x ≤ℤ y
same_le {a} {b} {x} {y} p q h = subst (λ s. s ≤ℤ y) p (subst (λ t. a ≤ℤ t) q h)

pub same_lt : {a b x y : ℤ} → a ≡ x → b ≡ y → a <ℤ b → x <ℤ y
same_lt {a} {b} {x} {y} p q h = subst (λ s. s <ℤ y) p (subst (λ t. a <ℤ t) q h)
