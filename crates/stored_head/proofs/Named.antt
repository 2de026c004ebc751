-- The attributes of a stored head.
use Rattle.std.proofs.Common.{◌≡◌, ℕ, ◌+◌, ◌<◌, ◌≤◌, List, [], ◌∷◌, ◌++◌, length, get_or, take, drop, sym, refl, ap, ◌∙◌, subst, append_assoc, append-nil, arith, length-append, length-drop}
use Rattle.std.proofs.lemmas.List.{take_more, take_all, take-append-drop, length-take-le, length-map, map-append}
use Rattle.records.specs.declared.attribute.AttributeEntry.{AttributeEntry}
use Rattle.records.specs.Limits.{KeyLong}
use Rattle.stored_head.specs.Forms.{sized, SizedFirst, NoSized}
use Rattle.stored_head.specs.Heads.{Named, pair, pairs, attributes_form, AttributesWithin, NoEntry, EntryFirst, NoAttributes}
use Rattle.stored_head.proofs.Sequence.{sized_free}

pub form_none : attributes_form [] ≡ []
unfolding attributes_form
form_none = refl

pub form_append : (named more : List Named) → attributes_form (named ++ more) ≡ attributes_form named ++ attributes_form more
unfolding attributes_form
form_append [] more = refl
form_append (a ∷ named) more =
    let rest : attributes_form (named ++ more) ≡ attributes_form named ++ attributes_form more = form_append named more in
    let inner = append_assoc (sized a.1) (attributes_form named) (attributes_form more) in
    let outer = append_assoc (sized a.0) (sized a.1 ++ attributes_form named) (attributes_form more) in
    cc

form_one : (a : Named) → attributes_form (a ∷ []) ≡ sized a.0 ++ sized a.1
unfolding attributes_form
form_one a = ap (λ bs. sized a.0 ++ bs) (append-nil (sized a.1))

-- one attribute more
pub form_push : (es : List AttributeEntry) (e : AttributeEntry) → attributes_form (pairs (es ++ e ∷ [])) ≡ attributes_form (pairs es) ++ (sized (pair e).0 ++ sized (pair e).1)
form_push es e =
    ap attributes_form (map-append pair es (e ∷ [])) ∙ form_append (pairs es) (pair e ∷ []) ∙ ap (λ bs. attributes_form (pairs es) ++ bs) (form_one (pair e))

pub within_push : (named : List Named) (a : Named) → AttributesWithin named → AttributesWithin (a ∷ []) → AttributesWithin (named ++ a ∷ [])
unfolding AttributesWithin
within_push [] a w v = v
within_push (b ∷ named) a w v = (w.0, w.1, within_push named a w.2 v)

-- attributes of one number that begin alike are one
pub attributes_free : (xs ys : List Named) (r s : List ℕ) → length xs ≡ length ys → attributes_form xs ++ r ≡ attributes_form ys ++ s → (xs ≡ ys) × (r ≡ s)
unfolding attributes_form
attributes_free [] [] r s l e = (refl, e)
attributes_free [] (y ∷ ys) r s l e = absurd (omega arith)
attributes_free (x ∷ xs) [] r s l e = absurd (omega arith)
attributes_free (x ∷ xs) (y ∷ ys) r s l e =
    let left = append_assoc (sized x.0) (sized x.1 ++ attributes_form xs) r in
    let left-on = append_assoc (sized x.1) (attributes_form xs) r in
    let right = append_assoc (sized y.0) (sized y.1 ++ attributes_form ys) s in
    let right-on = append_assoc (sized y.1) (attributes_form ys) s in
    let keys = sized_free x.0 y.0 (sized x.1 ++ (attributes_form xs ++ r)) (sized y.1 ++ (attributes_form ys ++ s)) (cc) in
    let values = sized_free x.1 y.1 (attributes_form xs ++ r) (attributes_form ys ++ s) keys.1 in
    let rest = attributes_free xs ys r s (omega arith) values.1 in
    let key : x.0 ≡ y.0 = keys.0 in
    let value : x.1 ≡ y.1 = values.0 in
    let both : x ≡ y = ap (λ k. (k, x.1)) key ∙ ap (λ v. (y.0, v)) value in
    (ap (λ p. p ∷ xs) both ∙ ap (λ t. y ∷ t) rest.0, rest.1)

module _ (es : List AttributeEntry) (i : ℕ) (e : AttributeEntry) (h : i < length es) (is : e ≡ get_or es i e) where
  -- the first i + 1 entries
  pub form_more : attributes_form (pairs (take (i + 1) es)) ≡ attributes_form (pairs (take i es)) ++ (sized (pair e).0 ++ sized (pair e).1)
  form_more =
      ap (λ xs. attributes_form (pairs xs)) (take_more es i e h ∙ ap (λ x. take i es ++ x ∷ []) (sym is)) ∙ form_push (take i es) e

  pub form_more_long : length (attributes_form (pairs (take (i + 1) es))) ≡ length (attributes_form (pairs (take i es))) + (2 + length (pair e).0 + length (pair e).1)
  form_more_long =
      ap length form_more
      ∙ omega (arith, length-append (attributes_form (pairs (take i es))) (sized (pair e).0 ++ sized (pair e).1), length-append (sized (pair e).0) (sized (pair e).1))

  -- they have room where all have
  pub form_more_room : length (attributes_form (pairs (take (i + 1) es))) ≤ length (attributes_form (pairs es))
  form_more_room =
      let front : List AttributeEntry = take (i + 1) es in
      let back : List AttributeEntry = drop (i + 1) es in
      let all : es ≡ front ++ back = sym (take-append-drop (i + 1) es) in
      let forms : attributes_form (pairs es) ≡ attributes_form (pairs front) ++ attributes_form (pairs back) =
      ap (λ xs. attributes_form (pairs xs)) all ∙ ap attributes_form (map-append pair front back) ∙ form_append (pairs front) (pairs back) in
      omega (arith, ap length forms, length-append (attributes_form (pairs front)) (attributes_form (pairs back)))

pub form_all : (es : List AttributeEntry) (i : ℕ) → length es ≤ i → attributes_form (pairs (take i es)) ≡ attributes_form (pairs es)
form_all es i h = ap (λ xs. attributes_form (pairs xs)) (take_all i es h)

-- an attribute is a name and then a value
pub no_name : (bytes : List ℕ) → NoSized bytes 1 32 → NoEntry bytes
unfolding AttributesWithin
no_name bytes not = record { never = λ a rest w e. not.never a.0 (sized a.1 ++ rest) w.0.0 w.0.1 e }

module _ (bytes name rest : List ℕ) (x : SizedFirst bytes 1 32 name rest) where
  pub no_value : NoSized rest 0 64 → NoEntry bytes
  unfolding AttributesWithin
  no_value not = record {
    never = λ a behind w e.
        let same = sized_free a.0 name (sized a.1 ++ behind) rest (sym e ∙ x.joined) in
        not.never a.1 behind (omega arith) w.1 (sym same.1);
  }

  pub entry_first : (e : AttributeEntry) (behind : List ℕ) → (pair e).0 ≡ name → SizedFirst rest 0 64 (pair e).1 behind → EntryFirst bytes e behind
  unfolding AttributesWithin
  entry_first e behind is y = record {
    within = (subst (λ n. KeyLong (length n)) (sym is) (x.enough, x.few), y.few, tt);
    joined = x.joined ∙ ap (λ bs. sized name ++ bs) y.joined ∙ ap (λ n. sized n ++ (sized (pair e).1 ++ behind)) (sym is);
  }

-- attributes that are read one after the other
pub attributes_begin : (bytes : List ℕ) (es : List AttributeEntry) → es ≡ [] → AttributesWithin (pairs es) × (bytes ≡ attributes_form (pairs es) ++ bytes)
unfolding AttributesWithin attributes_form
attributes_begin bytes es none = subst (λ xs. AttributesWithin (pairs xs) × (bytes ≡ attributes_form (pairs xs) ++ bytes)) (sym none) (tt, refl)

module _ (bytes rest : List ℕ) (es : List AttributeEntry) (so_far : bytes ≡ attributes_form (pairs es) ++ rest) where
  pub attributes_step : (more : List AttributeEntry) (e : AttributeEntry) (behind : List ℕ) → more ≡ es ++ e ∷ [] → AttributesWithin (pairs es) → EntryFirst rest e behind
      → AttributesWithin (pairs more) × (bytes ≡ attributes_form (pairs more) ++ behind)
  attributes_step more e behind is within x = (
    subst (λ xs. AttributesWithin (pairs xs)) (sym is)
        (subst AttributesWithin (sym (map-append pair es (e ∷ []))) (within_push (pairs es) (pair e) within x.within)),
    so_far ∙ ap (λ bs. attributes_form (pairs es) ++ bs) (x.joined ∙ sym (append_assoc (sized (pair e).0) (sized (pair e).1) behind))
        ∙ sym (append_assoc (attributes_form (pairs es)) (sized (pair e).0 ++ sized (pair e).1) behind)
        ∙ ap (λ bs. bs ++ behind) (sym (form_push es e) ∙ ap (λ xs. attributes_form (pairs xs)) (sym is)),
  )

  within_back : (front back : List Named) → AttributesWithin (front ++ back) → AttributesWithin back
  unfolding AttributesWithin
  within_back [] back w = w
  within_back (a ∷ front) back w = within_back front back w.2

  no_entry_back : NoEntry rest → (back : List Named) (tail : List ℕ) → 0 < length back → AttributesWithin back → attributes_form back ++ tail ≡ rest → ⊥
  unfolding AttributesWithin attributes_form
  no_entry_back not [] tail p w e = omega arith
  no_entry_back not (a ∷ back) tail p w e =
      not.never a (attributes_form back ++ tail) (w.0, w.1, tt)
      (sym e ∙ append_assoc (sized a.0) (sized a.1 ++ attributes_form back) tail ∙ ap (λ bs. sized a.0 ++ bs) (append_assoc (sized a.1) (attributes_form back) tail))

  pub no_attributes : (i count : ℕ) → i < count → length es ≡ i → NoEntry rest → NoAttributes bytes count
  no_attributes i count below long not = record {
    never = λ named tail l w e.
        let front : List Named = take i named in
        let back : List Named = drop i named in
        let split : front ++ back ≡ named = take-append-drop i named in
        let forms = ap attributes_form (sym split) ∙ form_append front back in
        let whole : attributes_form front ++ (attributes_form back ++ tail) ≡ attributes_form (pairs es) ++ rest =
        sym (append_assoc (attributes_form front) (attributes_form back) tail) ∙ ap (λ bs. bs ++ tail) (sym forms) ∙ sym e ∙ so_far in
        let same = attributes_free front (pairs es) (attributes_form back ++ tail) rest
        (length-take-le i named (omega arith) ∙ sym long ∙ sym (length-map es pair)) whole in
        no_entry_back not back tail (omega (arith, length-drop i named)) (within_back front back (subst AttributesWithin (sym split) w)) same.1;
  }
