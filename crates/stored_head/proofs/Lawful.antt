-- The laws of stored forms.
use Rattle.std.proofs.Common.{◌≡◌, ℕ, ◌≤◌, Bool, true, false, cond, ◌||◌, List, [], ◌∷◌, ◌++◌, length, Some, None, Option, unwrap_or, sym, refl, ap, ◌∙◌, subst, append_assoc, arith, lit<, lit≤}
use Rattle.std.specs.Str.{bytes_eq}
use Rattle.std.proofs.lemmas.Slice.Eq.{bytes_eq-Decides}
use Rattle.std.proofs.lemmas.List.{length-take-le, length-map}
use Rattle.records.specs.declared.attribute.Attribute.{Attribute}
use Rattle.records.specs.declared.attribute.Attribute.TheVariants.{CacheControl, ContentDisposition, ContentEncoding, ContentLanguage, ContentType, Metadata}
use Rattle.records.specs.declared.attribute.AttributeEntry.{AttributeEntry}
use Rattle.records.specs.Limits.{KeyLong}
use Rattle.records.specs.Names.{name_of}
use Rattle.records.specs.declared.bytes64.Bytes64.{Bytes64}
use Rattle.records.specs.Bytes.{bytes_of, entries_of}
use Rattle.records.specs.Padded.{Padded, labelled}
use Rattle.records.specs.declared.head.Head.{Head}
use Rattle.stored_head.specs.Forms.{label_form, LabelWithin}
use Rattle.stored_head.specs.Heads.{HeadData, Named, data_of, pair, pairs, name_in, merged, rest_form, attributes_form, AttributesWithin, Within, Stored}
use Rattle.stored_head.specs.Laws.{StoredLaws, StoredExample, Distinct, last_value}
use Rattle.stored_head.specs.Loads.{Loaded, LoadAnswer}
use Rattle.stored_head.specs.Numbers.{Number, single, further}
use Rattle.stored_head.proofs.Groups.{number_free}
use Rattle.stored_head.proofs.Named.{attributes_free}
use Rattle.stored_head.proofs.Sequence.{label_free}
use Rattle.stored_head.proofs.Whole.{one_form}

abbrev made : (size time : ℕ) (t v : Option (List ℕ)) (named : List Named) → HeadData
made size time t v named = record { size = size; time = time; e_tag = t; version = v; attributes = named }

data_one : (d e : HeadData) → d.size ≡ e.size → d.time ≡ e.time → d.e_tag ≡ e.e_tag → d.version ≡ e.version → d.attributes ≡ e.attributes → d ≡ e
data_one d e e1 e2 e3 e4 e5 =
    ap (λ x. made x d.time d.e_tag d.version d.attributes) e1 ∙ ap (λ x. made e.size x d.e_tag d.version d.attributes) e2
    ∙ ap (λ x. made e.size e.time x d.version d.attributes) e3 ∙ ap (λ x. made e.size e.time e.e_tag x d.attributes) e4
    ∙ ap (λ x. made e.size e.time e.e_tag e.version x) e5

-- what stands behind size and time
rest_free : (d e : HeadData) (r s : List ℕ) → rest_form d ++ r ≡ rest_form e ++ s → (d.e_tag ≡ e.e_tag) × (d.version ≡ e.version) × (d.attributes ≡ e.attributes)
rest_free d e r s eq =
    let tail-d : List ℕ = length d.attributes ∷ attributes_form d.attributes in
    let tail-e : List ℕ = length e.attributes ∷ attributes_form e.attributes in
    let d1 = append_assoc (label_form d.e_tag) (label_form d.version ++ tail-d) r in
    let d2 = append_assoc (label_form d.version) tail-d r in
    let e1 = append_assoc (label_form e.e_tag) (label_form e.version ++ tail-e) s in
    let e2 = append_assoc (label_form e.version) tail-e s in
    let tags = label_free d.e_tag e.e_tag (label_form d.version ++ (tail-d ++ r)) (label_form e.version ++ (tail-e ++ s)) (cc) in
    let versions = label_free d.version e.version (tail-d ++ r) (tail-e ++ s) tags.1 in
    let both : tail-d ++ r ≡ tail-e ++ s = versions.1 in
    let counts : length d.attributes ≡ length e.attributes = cc in
    let attributes : attributes_form d.attributes ++ r ≡ attributes_form e.attributes ++ s = cc in
    (tags.0, versions.0, (attributes_free d.attributes e.attributes r s counts attributes).0)

no_front : (d e : HeadData) (a b r s : List ℕ) → Stored d a → Stored e b → a ++ r ≡ b ++ s → (d ≡ e) × (a ≡ b)
no_front d e a b r s x y eq =
    let left : a ++ r ≡ x.size.bytes ++ (x.time.bytes ++ (rest_form d ++ r)) =
    ap (λ t. t ++ r) x.joined ∙ append_assoc x.size.bytes (x.time.bytes ++ rest_form d) r ∙ ap (λ t. x.size.bytes ++ t) (append_assoc x.time.bytes (rest_form d) r) in
    let right : b ++ s ≡ y.size.bytes ++ (y.time.bytes ++ (rest_form e ++ s)) =
    ap (λ t. t ++ s) y.joined ∙ append_assoc y.size.bytes (y.time.bytes ++ rest_form e) s ∙ ap (λ t. y.size.bytes ++ t) (append_assoc y.time.bytes (rest_form e) s) in
    let sizes = number_free x.size.bytes y.size.bytes d.size e.size (x.time.bytes ++ (rest_form d ++ r)) (y.time.bytes ++ (rest_form e ++ s)) x.size.form y.size.form
    (sym left ∙ eq ∙ right) in
    let times = number_free x.time.bytes y.time.bytes d.time e.time (rest_form d ++ r) (rest_form e ++ s) x.time.form y.time.form sizes.2 in
    let rest = rest_free d e r s times.2 in
    let same : d ≡ e = data_one d e sizes.0 times.0 rest.0 rest.1 rest.2 in
    (same, one_form e a b (subst (λ z. Stored z a) same x) y)

stored_example_form : Number (220 ∷ 11 ∷ []) 1500
stored_example_form = further 92 11 (11 ∷ []) (lit< tt) (lit< tt) (single 11 (lit< tt))

pub stored_example : StoredExample
unfolding attributes_form
stored_example = record { size = record { bytes = 220 ∷ 11 ∷ []; form = stored_example_form }; time = record { bytes = 0 ∷ []; form = single 0 (lit< tt) }; joined = refl }

label_within : (len : Option ℕ) (bytes : List ℕ) → Padded 64 (unwrap_or len 0) bytes → LabelWithin (labelled len bytes)
label_within None bytes p = tt
label_within (Some n) bytes p = omega (arith, length-take-le n bytes (omega (arith, p.0, p.1)), p.1)

held_long : (b : Bytes64) → (length (bytes_of b) ≡ b.len) × (b.len ≤ 64)
held_long b = (length-take-le b.len b.bytes (omega (arith, b.padded.0, b.padded.1)), b.padded.1)

name_long : (a : Attribute) → KeyLong (length (name_of a))
unfolding name_of
name_long CacheControl = (lit≤ tt, lit≤ tt)
name_long ContentDisposition = (lit≤ tt, lit≤ tt)
name_long ContentEncoding = (lit≤ tt, lit≤ tt)
name_long ContentLanguage = (lit≤ tt, lit≤ tt)
name_long ContentType = (lit≤ tt, lit≤ tt)
name_long (Metadata k) = let long = held_long k.name in (omega (arith, long.0, k.long), omega (arith, long.0, k.long))

attributes_within : (es : List AttributeEntry) → AttributesWithin (pairs es)
unfolding AttributesWithin
attributes_within [] = tt
attributes_within (e ∷ es) = let long = held_long e.value in (name_long e.attribute, omega (arith, long.0, long.1), attributes_within es)

within : (h : Head) → Within (data_of h)
within h =
    let entries : List AttributeEntry = entries_of h.attributes in
    let count = length-map entries pair in
    let few = length-take-le h.attributes.len h.attributes.entries (omega (arith, h.attributes.whole, h.attributes.few)) in
    record {
      size = h.sized;
      time = h.timed;
      e_tag = label_within h.e_tag.len h.e_tag.bytes h.e_tag.padded;
      version = label_within h.version.len h.version.bytes h.version.padded;
      few = omega (arith, h.attributes.few);
      attributes = attributes_within entries;
    }

reload : (h : Head) (bs : List ℕ) → Stored (data_of h) bs → (r : Option Head) → LoadAnswer bs r → (g : Head) × (r ≡ Some g) × Loaded (data_of h) g
reload h bs s None no_head = absurd (no_head.never (data_of h) (within h) s)
reload h bs s (Some g) answer =
    let same = (no_front answer.0 (data_of h) bs bs [] [] answer.2 s refl).0 in
    (g, refl, subst (λ d. Loaded d g) same answer.3)

-- a test that is true, or false
tells : (b : Bool) (P : Type 0) → (b ≡ true → P) → (b ≡ false → P) → P
tells true P x y = x refl
tells false P x y = y refl

same_name : (k l : List ℕ) → bytes_eq k l ≡ true → k ≡ l
same_name k l e = (bytes_eq-Decides k l).0 e

true_not_false : (b : Bool) → b ≡ true → b ≡ false → ⊥
true_not_false b x y = let z : ◌≡◌ {A = ℕ} 0 1 = cc in omega arith

or_false : (x y : Bool) → (x || y) ≡ false → (x ≡ false) × (y ≡ false)
or_false true y e = absurd (true_not_false true refl e)
or_false false y e = (refl, e)

-- merging keeps every name
names_kept : (k : List ℕ) (named : List Named) → name_in k (merged named) ≡ name_in k named
names_kept k [] = refl
names_kept k (a ∷ more) =
    tells (name_in a.0 more) (name_in k (merged (a ∷ more)) ≡ name_in k (a ∷ more))
    (λ again.
    let drops : name_in k (merged (a ∷ more)) ≡ name_in k more = ap (λ b. name_in k (cond b (merged more) (a ∷ merged more))) again ∙ names_kept k more in
    tells (bytes_eq k a.0) (name_in k (merged (a ∷ more)) ≡ name_in k (a ∷ more))
    (λ same. drops ∙ ap (λ l. name_in l more) (same_name k a.0 same) ∙ again ∙ sym (ap (λ b. b || name_in k more) same))
    (λ other. drops ∙ sym (ap (λ b. b || name_in k more) other)))
    (λ last. ap (λ b. name_in k (cond b (merged more) (a ∷ merged more))) last ∙ ap (λ b. bytes_eq k a.0 || b) (names_kept k more))

merged_distinct : (named : List Named) → Distinct (merged named)
unfolding Distinct
merged_distinct [] = tt
merged_distinct (a ∷ more) =
    tells (name_in a.0 more) (Distinct (merged (a ∷ more)))
    (λ again. subst (λ b. Distinct (cond b (merged more) (a ∷ merged more))) (sym again) (merged_distinct more))
    (λ last. subst (λ b. Distinct (cond b (merged more) (a ∷ merged more))) (sym last) (names_kept a.0 more ∙ last, merged_distinct more))

last_none : (k : List ℕ) (named : List Named) → name_in k named ≡ false → last_value k named ≡ None
unfolding last_value
last_none k [] e = refl
last_none k (a ∷ more) e =
    let neither = or_false (bytes_eq k a.0) (name_in k more) e in
    ap (λ b. cond b (last_value k more) (cond (bytes_eq k a.0) (Some a.1) None)) neither.1 ∙ ap (λ b. cond b (Some a.1) None) neither.0

merged_last : (k : List ℕ) (named : List Named) → last_value k (merged named) ≡ last_value k named
unfolding last_value
merged_last k [] = refl
merged_last k (a ∷ more) =
    tells (name_in a.0 more) (last_value k (merged (a ∷ more)) ≡ last_value k (a ∷ more))
    (λ again.
    let drops : last_value k (merged (a ∷ more)) ≡ last_value k more = ap (λ b. last_value k (cond b (merged more) (a ∷ merged more))) again ∙ merged_last k more in
    tells (name_in k more) (last_value k (merged (a ∷ more)) ≡ last_value k (a ∷ more))
    (λ there. drops ∙ sym (ap (λ b. cond b (last_value k more) (cond (bytes_eq k a.0) (Some a.1) None)) there))
    (λ none.
    tells (bytes_eq k a.0) (last_value k (merged (a ∷ more)) ≡ last_value k (a ∷ more))
    (λ same. absurd (true_not_false (name_in k more) (ap (λ l. name_in l more) (same_name k a.0 same) ∙ again) none))
    (λ other. drops ∙ last_none k more none
    ∙ sym (ap (λ b. cond b (last_value k more) (cond (bytes_eq k a.0) (Some a.1) None)) none ∙ ap (λ b. cond b (Some a.1) None) other))))
    (λ last.
    ap (λ b. last_value k (cond b (merged more) (a ∷ merged more))) last
    ∙ ap (λ b. cond b (last_value k (merged more)) (cond (bytes_eq k a.0) (Some a.1) None)) (names_kept k more)
    ∙ ap (λ v. cond (name_in k more) v (cond (bytes_eq k a.0) (Some a.1) None)) (merged_last k more))

merged_same : (named : List Named) → Distinct named → merged named ≡ named
unfolding Distinct
merged_same [] d = refl
merged_same (a ∷ more) d =
    ap (λ b. cond b (merged more) (a ∷ merged more)) d.0 ∙ ap (λ xs. a ∷ xs) (merged_same more d.1)

pub stored_laws : StoredLaws
stored_laws = record {
  one_form = one_form;
  no_front = no_front;
  within = within;
  reload = reload;
  merged_distinct = merged_distinct;
  merged_last = merged_last;
  merged_same = merged_same;
}
