-- What holds of stored forms.
use Rattle.std.specs.Prelude.{◌≡◌, ℕ, false, cond, List, [], ◌∷◌, ◌++◌, Some, None, Option}
use Rattle.std.specs.Str.{bytes_eq}
use Rattle.records.specs.declared.head.Head.{Head}
use Rattle.stored_head.specs.Heads.{HeadData, Named, data_of, name_in, merged, Within, Stored}
use Rattle.stored_head.specs.Loads.{Loaded, LoadAnswer}

-- no name comes twice
unfoldable pub Distinct : List Named → Type 0
Distinct [] = Unit {0}
Distinct (a ∷ more) = (name_in a.0 more ≡ false) × Distinct more

-- the last value under a name
unfoldable pub last_value : List ℕ → List Named → Option (List ℕ)
last_value k [] = None
last_value k (a ∷ more) = cond (name_in k more) (last_value k more) (cond (bytes_eq k a.0) (Some a.1) None)

pub record StoredLaws : Type 0 where
  -- a head has one form
  pub one_form : (d : HeadData) (a b : List ℕ) → Stored d a → Stored d b → a ≡ b
  -- no form begins another, and a form is that of one head
  pub no_front : (d e : HeadData) (a b r s : List ℕ) → Stored d a → Stored e b → a ++ r ≡ b ++ s → (d ≡ e) × (a ≡ b)
  -- every head is within its limits
  pub within : (h : Head) → Within (data_of h)
  -- what was saved loads, as the same head with equal names merged
  pub reload : (h : Head) (bs : List ℕ) → Stored (data_of h) bs → (r : Option Head) → LoadAnswer bs r → (g : Head) × (r ≡ Some g) × Loaded (data_of h) g
  -- merging leaves each name once, with its last value, and changes nothing where names differ
  pub merged_distinct : (named : List Named) → Distinct (merged named)
  pub merged_last : (k : List ℕ) (named : List Named) → last_value k (merged named) ≡ last_value k named
  pub merged_same : (named : List Named) → Distinct named → merged named ≡ named

-- a size of 1,500 with all else 0 or absent
abbrev pub StoredExample : Type 0
StoredExample = Stored (record { size = 1500; time = 0; e_tag = None; version = None; attributes = [] }) (220 ∷ 11 ∷ 0 ∷ 0 ∷ 0 ∷ 0 ∷ [])
