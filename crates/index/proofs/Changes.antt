-- What a use of a key leaves.
use Rattle.std.proofs.Common.{◌≡◌, ℕ, ◌+◌, ◌*◌, ◌^◌, ◌<◌, ◌≤◌, true, false, ◌||◌, List, [], ◌∷◌, ◌++◌, length, get_or, set, ℤ, sum_by, sym, refl, ap, ◌∙◌, subst, ⊎_elim, arith, ◌≢◌}
use Rattle.std.specs.List.{AllByRecursion as All}
use Rattle.std.proofs.ByRecursion.{All-map, All-push, All-set, sum_by_le}
use Rattle.std.proofs.lemmas.List.{map-set, map_push, length-set, length_push, get_or-set_same, get_or-set_other, get_or_append_left, get_or_push}
use Rattle.std.proofs.lemmas.List.Sums.{sum_by-set, sum_by_push}
use Rattle.std.proofs.lemmas.Bool.{cases_Bool, or_right}
use Rattle.cache.specs.Keys.{Key, same_key}
use Rattle.cache.specs.Tracking.{Entry, sizes}
use Rattle.cache.specs.SameKey.{same_key_decides}
use Rattle.index.specs.declared.record.KeyRecord.{KeyRecord}
use Rattle.index.specs.Table.{entry_of, entries_of, tracks, once, IsTable, TrackedAt, Touched, Used}
use Rattle.index.proofs.Counts.{one_if, one_if_same, times_of_untracked, times_of_once, once_by_times, tracks_by_times}
use Rattle.index.proofs.Places.{all_at, tracks_at, tracked_record, one_key}

-- an entry with another time
abbrev pub at_time : Entry → ℤ → Entry
at_time e time = record { key = e.key; size = e.size; time = time }

-- a size of the code
abbrev Sized : Entry → Type 0
Sized e = e.size < 2 ^ 64

-- the time of one key is set

pub touched_sums : (f : Entry → ℕ) {k : Key} {time : ℤ} {es after : List Entry} (t : Touched k time es after) → f (at_time t.entry time) ≡ f t.entry → sum_by f after ≡ sum_by f es
touched_sums f {k} {time} {es} {after} t same =
    let e = t.entry in
    let h = sum_by-set f es t.place (at_time e time) e t.tracked.within in
    let was : f (get_or es t.place e) ≡ f e = ap f (sym t.tracked.is) in
    let now : sum_by f after ≡ sum_by f (set es t.place (at_time e time)) = ap (sum_by f) t.is in
    omega arith

pub touched_length : {k : Key} {time : ℤ} {es after : List Entry} → Touched k time es after → length after ≡ length es
touched_length {es} t = ap length t.is ∙ length-set es t.place _

pub touched_sizes : {k : Key} {time : ℤ} {es after : List Entry} → Touched k time es after → sizes after ≡ sizes es
touched_sizes t = touched_sums (λ e. e.size) t refl

pub touched_tracks : {k : Key} {time : ℤ} {es after : List Entry} → Touched k time es after → (j : Key) → tracks j after ≡ tracks j es
touched_tracks {es} {after} t j = tracks_by_times j after es (touched_sums (one_if j) t refl)

pub touched_once : {k : Key} {time : ℤ} {es after : List Entry} → Touched k time es after → once es ≡ true → once after ≡ true
touched_once {es} {after} t o =
    once_by_times after (λ j. let same = touched_sums (one_if j) t refl in let h = times_of_once es o j in omega arith)

pub touched_table : {k : Key} {time : ℤ} {es after : List Entry} → Touched k time es after → IsTable es → IsTable after
touched_table {es} t is = record {
  few = (let f = is.few in let l = touched_length t in omega arith);
  distinct = touched_once t is.distinct;
  sized = subst (All Sized) (sym t.is) (All-set Sized es t.place _ (all_at Sized is.sized t.tracked) is.sized);
}

pub touched_here : {k : Key} {time : ℤ} {es after : List Entry} (t : Touched k time es after) → TrackedAt k after t.place (at_time t.entry time)
touched_here {k} {time} {es} {after} t =
    let e = at_time t.entry time in
    let P : List Entry → Type 0 = λ xs. TrackedAt k xs t.place e in
    subst P (sym t.is)
    (record {
      within = let l = t.tracked.within in simp length-set (omega arith);
      is = sym (get_or-set_same es t.place e e t.tracked.within);
      key = t.tracked.key;
    })

pub touched_other : {k : Key} {time : ℤ} {es after : List Entry} {j : Key} {i : ℕ} {e : Entry} → Touched k time es after → (j ≡ k → ⊥) → TrackedAt j es i e → TrackedAt j after i e
touched_other {k} {time} {es} {after} {j} {i} {e} t ne a =
    let new = at_time t.entry time in
    let away : i ≢ t.place = λ same. let Q : ℕ → Type 0 = λ n. TrackedAt j es n e in ne (one_key (subst Q same a) t.tracked) in
    let P : List Entry → Type 0 = λ xs. TrackedAt j xs i e in
    subst P (sym t.is)
    (record {
      within = let l = a.within in simp length-set (omega arith);
      is = a.is ∙ sym (get_or-set_other es t.place i new e away);
      key = a.key;
    })

-- a key is appended

pub appended_tracks : (es : List Entry) (e : Entry) (j : Key) → tracks j (es ++ e ∷ []) ≡ (tracks j es || same_key e.key j)
appended_tracks [] e j =
    elim (same_key e.key j) as (λ b. (b || false) ≡ b) [ true ↦ refl | false ↦ refl ]
appended_tracks (x ∷ es) e j =
    let h = appended_tracks es e j in
    elim (same_key x.key j) as (λ b. (b || tracks j (es ++ e ∷ [])) ≡ ((b || tracks j es) || same_key e.key j)) [ true ↦ refl | false ↦ h ]

pub appended_length : (es : List Entry) (e : Entry) → length (es ++ e ∷ []) ≡ length es + 1
appended_length es e = length_push es e

pub appended_sizes : (es : List Entry) (e : Entry) → sizes (es ++ e ∷ []) ≡ sizes es + e.size
appended_sizes es e = sum_by_push (λ x. x.size) es e

pub appended_once : (es : List Entry) (e : Entry) → tracks e.key es ≡ false → once es ≡ true → once (es ++ e ∷ []) ≡ true
appended_once es e new o =
    once_by_times (es ++ e ∷ [])
    (λ j.
    let more = sum_by_push (one_if j) es e in
    let h = times_of_once es o j in
    ⊎_elim
    (λ here.
    let P : Key → Type 0 = λ n. tracks n es ≡ false in
    let same = (same_key_decides e.key j).0 here in
    let z = times_of_untracked j es (subst P same new) in
    let one = one_if_same j e same in
    omega arith)
    (λ other. let none : one_if j e ≡ 0 = rw other in omega arith)
    (cases_Bool (same_key e.key j)))

pub appended_table : (es : List Entry) (e : Entry) → tracks e.key es ≡ false → length es < 256 → e.size < 2 ^ 64 → IsTable es → IsTable (es ++ e ∷ [])
appended_table es e new room fits is = record {
  few = (let l = appended_length es e in omega arith);
  distinct = appended_once es e new is.distinct;
  sized = All-push Sized es e is.sized fits;
}

pub appended_other : {es : List Entry} (x : Entry) {j : Key} {i : ℕ} {e : Entry} → TrackedAt j es i e → TrackedAt j (es ++ x ∷ []) i e
appended_other {es} x {j} {i} {e} a =
    record {
      within = let l = a.within in let n = length_push es x in omega arith;
      is = a.is ∙ sym (get_or_append_left es (x ∷ []) e i a.within);
      key = a.key;
    }

pub appended_here : (es : List Entry) (e : Entry) → TrackedAt e.key (es ++ e ∷ []) (length es) e
appended_here es e =
    record { within = let n = length_push es e in omega arith; is = sym (get_or_push es e e (length es) refl); key = refl }

-- a key is used, known or new

pub used_tracks : (k : Key) (size : ℕ) (time : ℤ) (es after : List Entry) → Used k size time es after → (j : Key) → tracks j after ≡ (tracks j es || same_key k j)
used_tracks k size time es after u j =
    ⊎_elim
    (λ t.
    ⊎_elim
    (λ here.
    let P : Key → Type 0 = λ n. tracks n es ≡ true in
    let known : tracks j es ≡ true = subst P ((same_key_decides k j).0 here) (tracks_at t.tracked) in
    touched_tracks t j ∙ known ∙ sym (or_right (tracks j es) (same_key k j) here))
    (λ other. touched_tracks t j ∙ rw other (elim (tracks j es) as (λ b. b ≡ (b || false)) [ true ↦ refl | false ↦ refl ]))
    (cases_Bool (same_key k j)))
    (λ n. ap (tracks j) n.1 ∙ appended_tracks es (record { key = k; size = size; time = time }) j)
    u

pub used_once : (k : Key) (size : ℕ) (time : ℤ) (es after : List Entry) → Used k size time es after → once es ≡ true → once after ≡ true
used_once k size time es after u o =
    ⊎_elim
    (λ t. touched_once t o)
    (λ n. ap once n.1 ∙ appended_once es (record { key = k; size = size; time = time }) n.0 o)
    u

each_fits : (rs : List KeyRecord) → All (λ r. r.size ≤ 2 ^ 64) rs
each_fits [] = tt
each_fits (r ∷ rs) = (let h = r.fits in omega arith, each_fits rs)

-- a record of the code is changed in place
pub set_touches : {k : Key} {time : ℤ} (rs : List KeyRecord) {i : ℕ} {e : Entry} (r w : KeyRecord) → TrackedAt k (entries_of rs) i e → r ≡ get_or rs i r → w.key ≡ r.key → w.size ≡ r.size → w.time ≡ time → Touched k time (entries_of rs) (entries_of (set rs i w))
set_touches {k} {time} rs {i} r w t is key size at =
    let new : entry_of w ≡ at_time (entry_of r) time = cc in
    record {
      place = i;
      entry = entry_of r;
      tracked = tracked_record rs r t is;
      is = map-set entry_of rs i w ∙ ap (set (entries_of rs) i) new;
    }

-- a record of the code is appended
pub push_appends : (rs after : List KeyRecord) (r : KeyRecord) (e : Entry) → after ≡ rs ++ r ∷ [] → entry_of r ≡ e → entries_of after ≡ entries_of rs ++ e ∷ []
push_appends rs after r e now is = ap entries_of now ∙ map_push entry_of rs r ∙ ap (λ (x : Entry). entries_of rs ++ x ∷ []) is

-- a sum of sizes of the code is far from the limit of its type
pub sizes_fit : (rs : List KeyRecord) → sizes (entries_of rs) ≤ length (entries_of rs) * 2 ^ 64
sizes_fit rs = sum_by_le (λ e. e.size) (2 ^ 64) (entries_of rs) (All-map (λ e. e.size ≤ 2 ^ 64) entry_of rs (each_fits rs))
