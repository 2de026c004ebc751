-- What a reader of a stored head meets is what stands there.
use Rattle.std.proofs.Common.{◌≡◌, ℕ, ◌^◌, ◌<◌, ◌≤◌, ◌⊎◌, List, [], ◌∷◌, ◌++◌, length, Some, None, Ok, Err, Option, Result, MatchResult, sym, ap, ◌∙◌, subst, ⊎_elim, append-nil, arith}
use Rattle.std.specs.Result.{result_ok}
use Rattle.std.proofs.lemmas.List.{length-map, nil_from_length}
use Rattle.std.proofs.lemmas.Option.{same_Some, none-some}
use Rattle.records.specs.declared.attribute.AttributeEntry.{AttributeEntry}
use Rattle.records.specs.declared.attributes.Attributes.{Attributes}
use Rattle.records.specs.declared.head.Head.{Head}
use Rattle.records.specs.declared.label.Label.{Label}
use Rattle.records.specs.Limits.{SizeWithin, TimeWithin}
use Rattle.records.specs.Bytes.{label_of, entries_of}
use Rattle.stored_head.specs.Forms.{label_form, LabelFirst, NoLabel, CountFirst, NoCount}
use Rattle.stored_head.specs.Heads.{HeadData, data_of, pair, pairs, attributes_form, rest_form, Within, Stored, NoHead, AttributesFirst, NoAttributes}
use Rattle.stored_head.specs.Numbers.{NumberFirst, NoNumber}
use Rattle.stored_head.proofs.Groups.{number_free}
use Rattle.stored_head.proofs.Named.{attributes_free}
use Rattle.stored_head.proofs.Sequence.{label_free}

-- behind the labels
abbrev tail_form : HeadData → List ℕ
tail_form d = (length d.attributes ∷ []) ++ attributes_form d.attributes

module _ (bytes : List ℕ) (n1 : ℕ) (r1 : List ℕ) (x1 : NumberFirst bytes 5 n1 r1) where
  size_is : (d : HeadData) (s : Stored d bytes) → (d.size ≡ n1) × (s.time.bytes ++ rest_form d ≡ r1)
  size_is d s =
      let same = number_free s.size.bytes x1.formed.bytes d.size n1 (s.time.bytes ++ rest_form d) r1 s.size.form x1.formed.form
      (sym s.joined ∙ x1.joined) in
      (same.0, same.2)

  pub no_time : NoNumber r1 5 → NoHead bytes
  no_time not = record { never = λ d w s. not.never d.time s.time.bytes (rest_form d) (omega (arith, w.time)) s.time.form (sym (size_is d s).1) }

  module _ (n2 : ℕ) (r2 : List ℕ) (x2 : NumberFirst r1 5 n2 r2) where
    time_is : (d : HeadData) (s : Stored d bytes) → (d.time ≡ n2) × (rest_form d ≡ r2)
    time_is d s =
        let same = number_free s.time.bytes x2.formed.bytes d.time n2 (rest_form d) r2 s.time.form x2.formed.form ((size_is d s).1 ∙ x2.joined) in
        (same.0, same.2)

    pub no_tag : NoLabel r2 → NoHead bytes
    no_tag not = record { never = λ d w s. not.never d.e_tag (label_form d.version ++ tail_form d) w.e_tag (sym (time_is d s).1) }

    -- a size or a time that is past its limit
    pub no_limits : ((2 ^ 40 < n1) ⊎ (2 ^ 42 ≤ n2)) → NoHead bytes
    no_limits past = record {
      never = λ d w s.
          ⊎_elim (λ (large : 2 ^ 40 < n1). omega (arith, (size_is d s).0, w.size)) (λ (late : 2 ^ 42 ≤ n2). omega (arith, (time_is d s).0, w.time)) past;
    }

    module _ (l1 : Option (List ℕ)) (r3 : List ℕ) (x3 : LabelFirst r2 l1 r3) where
      tag_is : (d : HeadData) (s : Stored d bytes) → (d.e_tag ≡ l1) × (label_form d.version ++ tail_form d ≡ r3)
      tag_is d s = label_free d.e_tag l1 (label_form d.version ++ tail_form d) r3 ((time_is d s).1 ∙ x3.joined)

      pub no_version : NoLabel r3 → NoHead bytes
      no_version not = record { never = λ d w s. not.never d.version (tail_form d) w.version (sym (tag_is d s).1) }

      module _ (l2 : Option (List ℕ)) (r4 : List ℕ) (x4 : LabelFirst r3 l2 r4) where
        version_is : (d : HeadData) (s : Stored d bytes) → (d.version ≡ l2) × (tail_form d ≡ r4)
        version_is d s = label_free d.version l2 (tail_form d) r4 ((tag_is d s).1 ∙ x4.joined)

        pub no_count : NoCount r4 → NoHead bytes
        no_count not = record { never = λ d w s. not.never (length d.attributes) (attributes_form d.attributes) w.few (sym (version_is d s).1) }

        module _ (count : ℕ) (r5 : List ℕ) (x5 : CountFirst r4 count r5) where
          count_is : (d : HeadData) (s : Stored d bytes) → (length d.attributes ≡ count) × (attributes_form d.attributes ≡ r5)
          count_is d s =
              let there : tail_form d ≡ count ∷ r5 = (version_is d s).1 ∙ x5.joined in
              (cc, cc)

          pub no_such_attributes : NoAttributes r5 count → NoHead bytes
          no_such_attributes not = record {
            never = λ d w s. not.never d.attributes [] (count_is d s).0 w.attributes (sym (count_is d s).1 ∙ sym (append-nil (attributes_form d.attributes)));
          }

          module _ (es : List AttributeEntry) (r6 : List ℕ) (x6 : AttributesFirst r5 count es r6) where
            pub no_end : (r6 ≡ [] → ⊥) → NoHead bytes
            no_end more = record {
              never = λ d w s.
                  let same = attributes_free d.attributes (pairs es) [] r6
                  ((count_is d s).0 ∙ sym x6.many ∙ sym (length-map es pair))
                  (append-nil (attributes_form d.attributes) ∙ (count_is d s).1 ∙ x6.joined) in
                  more (sym same.1);
            }

            -- all of it is the form of what was met
            abbrev met : HeadData
            met = record { size = n1; time = n2; e_tag = l1; version = l2; attributes = pairs es }

            pub met_stored : r6 ≡ [] → Stored met bytes
            met_stored none =
                let entries : r5 ≡ attributes_form (pairs es) = x6.joined ∙ ap (λ bs. attributes_form (pairs es) ++ bs) none ∙ append-nil (attributes_form (pairs es)) in
                let many : count ≡ length (pairs es) = sym x6.many ∙ sym (length-map es pair) in
                let tail : r4 ≡ tail_form met = x5.joined ∙ ap (λ n. n ∷ r5) many ∙ ap (λ bs. length (pairs es) ∷ bs) entries in
                let labels : r2 ≡ rest_form met =
                x3.joined ∙ ap (λ bs. label_form l1 ++ bs) (x4.joined ∙ ap (λ bs. label_form l2 ++ bs) tail) in
                record {
                  size = x1.formed;
                  time = x2.formed;
                  joined = x1.joined ∙ ap (λ bs. x1.formed.bytes ++ bs) (x2.joined ∙ ap (λ bs. x2.formed.bytes ++ bs) labels);
                }

            pub met_within : SizeWithin n1 → TimeWithin n2 → Within met
            met_within size time = record {
              size = size;
              time = time;
              e_tag = x3.within;
              version = x4.within;
              few = omega (arith, length-map es pair, x6.many, x5.few);
              attributes = x6.within;
            }

            pub head_met : (h : Head) → data_of h ≡ met → SizeWithin n1 → TimeWithin n2 → length r6 ≡ 0 → Within (data_of h) × Stored (data_of h) bytes
            head_met h same size time none = subst (λ x. Within x × Stored x bytes) (sym same) (met_within size time, met_stored (nil_from_length r6 none))

-- what a maker says of what is in its Ok, and of an Err
pub in_ok : {T E : Type 0} (r : Result T E) (x : T) (P : T → Type 0) (Q : E → Type 0) → Some x ≡ result_ok r → MatchResult r P Q → P x
in_ok (Ok y) x P Q is h = subst P (same_Some y x (sym is)) h
in_ok (Err e) x P Q is h = absurd (none-some x (sym is))

pub in_err : {T E : Type 0} (r : Result T E) (P : T → Type 0) (Q : E → Type 0) → None ≡ result_ok r → MatchResult r P Q → (e : E) × Q e
in_err (Ok y) P Q is h = absurd (none-some y is)
in_err (Err e) P Q is h = (e, h)

-- what a head tells, by its parts
abbrev pub told : (size time : ℕ) (t v : Label) (a : Attributes) → HeadData
told size time t v a =
    record { size = size; time = time; e_tag = label_of t; version = label_of v; attributes = pairs (entries_of a) }

pub data_same : (h : Head) (size time : ℕ) (t v : Label) (a : Attributes) → h.size ≡ size → h.time ≡ time → h.e_tag ≡ t → h.version ≡ v → h.attributes ≡ a
    → data_of h ≡ told size time t v a
data_same h size time t v a e1 e2 e3 e4 e5 =
    ap (λ n. told n h.time h.e_tag h.version h.attributes) e1 ∙ ap (λ n. told size n h.e_tag h.version h.attributes) e2
    ∙ ap (λ l. told size time l h.version h.attributes) e3 ∙ ap (λ l. told size time t l h.attributes) e4 ∙ ap (λ x. told size time t v x) e5
