-- Where a key is tracked.
use Rattle.std.proofs.Common.{◌≡◌, ℕ, zero, suc, ◌<◌, true, false, not, List, [], ◌∷◌, length, get_or, Some, None, Option, MatchOption, sym, refl, ap, ◌∙◌, subst, ⊎_elim, arith}
use Rattle.std.specs.List.{ContainsAt as Has, AllByRecursion as All, AllWithin, HoldsAt}
use Rattle.std.proofs.ByRecursion.{All-get_or, All-weaker, all_has_itself}
use Rattle.std.proofs.lemmas.List.{length-map, get_or_read, get_or-map}
use Rattle.std.proofs.lemmas.List.Sums.{get_or-le-sum_by}
use Rattle.std.proofs.lemmas.Option.{slice_get_cases}
use Rattle.std.proofs.lemmas.Bool.{both_ways, and_parts, not-true, cases_Bool}
use Rattle.cache.specs.Keys.{Key, same_key, key_of}
use Rattle.cache.specs.Tracking.{Entry}
use Rattle.index.specs.declared.record.KeyRecord.{KeyRecord}
use Rattle.index.specs.Table.{entry_of, entries_of, tracks, once, TrackedAt}
use Rattle.index.proofs.Counts.{one_if, one_if_same, tracked_by_times}
use Rattle.cache.specs.SameKey.{same_key_decides}

pub tracks_at : {k : Key} {es : List Entry} {i : ℕ} {e : Entry} → TrackedAt k es i e → tracks k es ≡ true
tracks_at {k} {es} {i} {e} t =
    let here : one_if k (get_or es i e) ≡ 1 = ap (one_if k) (sym t.is) ∙ one_if_same k e t.key in
    let le = get_or-le-sum_by (one_if k) es i e t.within in
    tracked_by_times k es (omega arith)

-- a key is tracked at some place
abbrev pub Place : Key → List Entry → Type 0
Place k es = (i : ℕ) × (e : Entry) × TrackedAt k es i e

pub place_of : (k : Key) (es : List Entry) → tracks k es ≡ true → Place k es
place_of k [] t = absurd (both_ways false refl t)
place_of k (e ∷ es) t =
    ⊎_elim
    (λ here. (0, e, record { within = omega arith; is = refl; key = (same_key_decides e.key k).0 here }))
    (λ other.
    let later : tracks k es ≡ true = rw other at t in
    let p = place_of k es later in
    (suc p.0, p.1, record { within = let l = p.2.within in omega arith; is = p.2.is; key = p.2.key }))
    (cases_Bool (same_key e.key k))

-- no place has a key that is not tracked
pub no_place : {k : Key} {es : List Entry} {i : ℕ} {e : Entry} → tracks k es ≡ false → TrackedAt k es i e → ⊥
no_place {k} {es} f t = both_ways (tracks k es) f (tracks_at t)

-- a key that is tracked once has one place and one entry
pub one_place : (k : Key) (es : List Entry) (i j : ℕ) (e f : Entry) → once es ≡ true → TrackedAt k es i e → TrackedAt k es j f → i ≡ j
one_place k [] i j e f o a b = absurd (let l = a.within in omega arith)
one_place k (x ∷ es) zero zero e f o a b = refl
one_place k (x ∷ es) (suc i) (suc j) e f o a b =
    ap suc
    (one_place k es i j e f (and_parts (not (tracks x.key es)) (once es) o).1
    (record { within = let l = a.within in omega arith; is = a.is; key = a.key })
    (record { within = let l = b.within in omega arith; is = b.is; key = b.key }))
one_place k (x ∷ es) zero (suc j) e f o a b =
    let P : Key → Type 0 = λ n. tracks n es ≡ false in
    let absent : tracks k es ≡ false =
    subst P (ap (λ (y : Entry). y.key) (sym a.is) ∙ a.key) (not-true (tracks x.key es) (and_parts (not (tracks x.key es)) (once es) o).0) in
    let later : TrackedAt k es j f = record { within = let l = b.within in omega arith; is = b.is; key = b.key } in
    absurd (no_place absent later)
one_place k (x ∷ es) (suc i) zero e f o a b =
    let P : Key → Type 0 = λ n. tracks n es ≡ false in
    let absent : tracks k es ≡ false =
    subst P (ap (λ (y : Entry). y.key) (sym b.is) ∙ b.key) (not-true (tracks x.key es) (and_parts (not (tracks x.key es)) (once es) o).0) in
    let later : TrackedAt k es i e = record { within = let l = a.within in omega arith; is = a.is; key = a.key } in
    absurd (no_place absent later)

pub one_entry : (k : Key) (es : List Entry) (i j : ℕ) (e f : Entry) → once es ≡ true → TrackedAt k es i e → TrackedAt k es j f → e ≡ f
one_entry k es i j e f o a b =
    let same = one_place k es i j e f o a b in
    let P : ℕ → Type 0 = λ n. e ≡ get_or es n f in
    subst P same (get_or_read es i e a.within a.is f) ∙ sym b.is

-- a place has one key
pub one_key : {j k : Key} {es : List Entry} {i : ℕ} {e f : Entry} → TrackedAt j es i e → TrackedAt k es i f → j ≡ k
one_key {j} {k} {es} {i} {e} {f} a b =
    let same : e ≡ f = get_or_read es i e a.within a.is f ∙ sym b.is in
    sym a.key ∙ ap (λ (y : Entry). y.key) same ∙ b.key

-- what holds of every entry holds of a tracked one
pub all_at : (P : Entry → Type 0) {k : Key} {es : List Entry} {i : ℕ} {e : Entry} → All P es → TrackedAt k es i e → P e
all_at P {k} {es} {i} {e} h t = subst P (sym t.is) (All-get_or P es i e t.within h)

-- a record of the code is read: so is its entry
pub entry_read : (rs : List KeyRecord) (i : ℕ) (r : KeyRecord) → i < length rs → r ≡ get_or rs i r → entry_of r ≡ get_or (entries_of rs) i (entry_of r)
entry_read rs i r l is = ap entry_of is ∙ sym (get_or-map entry_of rs i r (entry_of r) l)

-- what is read where a key is tracked has the key
pub tracked_record : {k : Key} (rs : List KeyRecord) {i : ℕ} {e : Entry} (r : KeyRecord) → TrackedAt k (entries_of rs) i e → r ≡ get_or rs i r → TrackedAt k (entries_of rs) i (entry_of r)
tracked_record {k} rs {i} {e} r t is =
    let l : i < length rs = let n = length-map rs entry_of in let m = t.within in omega arith in
    let read = entry_read rs i r l is in
    let same : e ≡ entry_of r = get_or_read (entries_of rs) i e t.within t.is (entry_of r) ∙ sym read in
    record { within = t.within; is = read; key = ap (λ (y : Entry). y.key) (sym same) ∙ t.key }

-- every entry has a place
pub all_placed : (es : List Entry) → All (λ e. (i : ℕ) × TrackedAt e.key es i e) es
all_placed es =
    All-weaker (Has es) (λ e. (i : ℕ) × TrackedAt e.key es i e)
    (λ e h. (h.0, record { within = h.1; is = sym (h.2 e); key = refl })) es (all_has_itself es)

-- what a search of the records for a key says
untracked : (k : Key) (rs : List KeyRecord) → AllWithin (λ r. same_key (key_of r.key) k ≡ false) rs 0 (length rs) → tracks k (entries_of rs) ≡ false
untracked k [] none = refl
untracked k (r ∷ rs) none =
    let other : same_key (key_of r.key) k ≡ false = none 0 r (omega arith) (omega arith) in
    rw other (untracked k rs (λ i d low high. none (suc i) d (omega arith) (omega arith)))

pub searched : (k : Key) (rs : List KeyRecord) (found : Option ℕ) → MatchOption found (AllWithin (λ r. same_key (key_of r.key) k ≡ false) rs 0 (length rs)) (λ i. (i < length rs) × HoldsAt (λ r. key_of r.key ≡ k) rs i × AllWithin (λ r. same_key (key_of r.key) k ≡ false) rs 0 i) → MatchOption found (tracks k (entries_of rs) ≡ false) (λ i. (e : Entry) × TrackedAt k (entries_of rs) i e)
searched k rs None none = untracked k rs none
searched k rs (Some i) here =
    ⊎_elim
    (λ r. (
      entry_of r.0,
      record {
        within = let n = length-map rs entry_of in let l = here.0 in omega arith;
        is = entry_read rs i r.0 here.0 (sym r.3);
        key = let P : KeyRecord → Type 0 = λ x. key_of x.key ≡ k in subst P r.3 (here.1 r.0);
      },
    ))
    (λ past. let l = here.0 in let p = past.0 in absurd (omega arith))
    (slice_get_cases rs i).1
