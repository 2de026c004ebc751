-- Attributes by their names, of equal names the later.
use Rattle.std.proofs.Common.{◌≡◌, ℕ, false, cond, ◌||◌, List, [], ◌∷◌, ◌++◌, refl, sym, ap, ◌∙◌, subst, append_assoc}
use Rattle.std.specs.List.{list_any}
use Rattle.std.specs.Str.{bytes_eq}
use Rattle.std.proofs.lemmas.List.{map-append}
use Rattle.records.specs.declared.attribute.Attribute.{Attribute}
use Rattle.records.specs.declared.attribute.Attribute.TheVariants.{CacheControl, ContentDisposition, ContentEncoding, ContentLanguage, ContentType, Metadata}
use Rattle.records.specs.declared.attribute.AttributeEntry.{AttributeEntry}
use Rattle.records.specs.declared.attribute.Key.{Key}
use Rattle.records.specs.Bytes.{bytes_of}
use Rattle.records.specs.Names.{name_of, Unknown, Named}
use Rattle.stored_head.specs.Heads.{pair, pairs, name_in, merged}
use Rattle.stored_head.specs.Loads.{Kind, Kinds}

module _ (es left later : List AttributeEntry) (e : AttributeEntry) (is : left ≡ e ∷ later) where
  merged_step : merged (pairs left) ≡ cond (name_in (pair e).0 (pairs later)) (merged (pairs later)) (pair e ∷ merged (pairs later))
  merged_step = ap (λ xs. merged (pairs xs)) is

  -- an attribute whose name does not come again is kept
  pub merged_keeps : (kept more : List AttributeEntry) (r : AttributeEntry) → merged (pairs es) ≡ pairs kept ++ merged (pairs left) → name_in (pair e).0 (pairs later) ≡ false
      → more ≡ kept ++ (r ∷ []) → pair r ≡ pair e → merged (pairs es) ≡ pairs more ++ merged (pairs later)
  merged_keeps kept more r so last is-more same =
      let rest = merged (pairs later) in
      let kept_on : merged (pairs es) ≡ pairs kept ++ (pair e ∷ rest) = so ∙ ap (λ xs. pairs kept ++ xs) (merged_step ∙ ap (λ b. cond b rest (pair e ∷ rest)) last) in
      let names : pairs more ≡ pairs kept ++ (pair e ∷ []) = ap pairs is-more ∙ map-append pair kept (r ∷ []) ∙ ap (λ p. pairs kept ++ (p ∷ [])) same in
      kept_on ∙ sym (append_assoc (pairs kept) (pair e ∷ []) rest) ∙ ap (λ xs. xs ++ rest) (sym names)

pub kinds_none : (es : List AttributeEntry) → es ≡ [] → Kinds es
unfolding Kinds
kinds_none es e = subst Kinds (sym e) tt

pub kinds_push : (es : List AttributeEntry) (r : AttributeEntry) → Kinds es → Kind r.attribute → Kinds (es ++ (r ∷ []))
unfolding Kinds
kinds_push [] r k x = (x, tt)
kinds_push (e ∷ es) r k x = (k.0, kinds_push es r k.1 x)

-- the attribute that a key names has its name, and the kind of its name
pub named_kind : (k : Key) (a : Attribute) → Named k a → (name_of a ≡ bytes_of k.name) × Kind a
unfolding name_of
named_kind k CacheControl e = (sym e, tt)
named_kind k ContentDisposition e = (sym e, tt)
named_kind k ContentEncoding e = (sym e, tt)
named_kind k ContentLanguage e = (sym e, tt)
named_kind k ContentType e = (sym e, tt)
named_kind k (Metadata j) e = (ap (λ x. bytes_of x.name) e.0, subst (λ x. Unknown (bytes_of x.name)) (sym e.0) e.1)

-- whether a name is there, as an iterator asks
pub name_in_any : (k : List ℕ) (es : List AttributeEntry) → list_any (λ e. bytes_eq k (pair e).0) es ≡ name_in k (pairs es)
name_in_any k [] = refl
name_in_any k (e ∷ es) = ap (λ b. bytes_eq k (pair e).0 || b) (name_in_any k es)
