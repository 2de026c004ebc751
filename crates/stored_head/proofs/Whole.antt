-- The stored form of a whole head.
use Rattle.std.proofs.Common.{◌≡◌, ℕ, ◌+◌, ◌≤◌, List, [], ◌∷◌, ◌++◌, length, sym, refl, ap, ◌∙◌, subst, arith, length-append}
use Rattle.stored_head.specs.Forms.{label_form, Wrote}
use Rattle.records.specs.declared.head.Head.{Head}
use Rattle.stored_head.specs.Heads.{HeadData, data_of, attributes_form, rest_form, Stored, Saved, Long}
use Rattle.stored_head.specs.Numbers.{Number, Formed, single, further, NumberWritten}
use Rattle.stored_head.proofs.Groups.{formed}
use Rattle.stored_head.proofs.Sequence.{wrote_then}

pub rest_long : (d : HeadData) → length (rest_form d) ≡ length (label_form d.e_tag) + length (label_form d.version) + 1 + length (attributes_form d.attributes)
rest_long d =
    let tail : List ℕ = (length d.attributes ∷ []) ++ attributes_form d.attributes in
    let one = length-append (label_form d.e_tag) (label_form d.version ++ tail) in
    let two = length-append (label_form d.version) tail in
    omega arith

pub stored_long : (d : HeadData) (bs : List ℕ) (s : Stored d bs) → length bs ≡ length s.size.bytes + length s.time.bytes + length (rest_form d)
stored_long d bs s =
    let one = length-append s.size.bytes (s.time.bytes ++ rest_form d) in
    let two = length-append s.time.bytes (rest_form d) in
    omega (arith, ap length s.joined)

-- room for the form is room for its parts
module _ (d : HeadData) (long : ℕ) (room : (bs : List ℕ) → Stored d bs → length bs ≤ long) where
  pub all_room : (a b : List ℕ) → Number a d.size → Number b d.time
      → length a + length b + (length (label_form d.e_tag) + length (label_form d.version) + 1 + length (attributes_form d.attributes)) ≤ long
  all_room a b x y =
      let form : Stored d (a ++ (b ++ rest_form d)) = record { size = record { bytes = a; form = x }; time = record { bytes = b; form = y }; joined = refl } in
      omega (arith, room (a ++ (b ++ rest_form d)) form, stored_long d (a ++ (b ++ rest_form d)) form, rest_long d)

number_wrote : (out : List ℕ) (at n next : ℕ) (after : List ℕ) → (w : NumberWritten out at n next after) → Wrote out at w.formed.bytes next after
number_wrote out at n next after w = record { place = w.place; joined = w.joined }

-- all parts written one after the other
pub saved_of : (d : HeadData) (out o1 o2 o3 o4 o5 after : List ℕ) (a1 a2 a3 a4 a5 next : ℕ)
    → NumberWritten out 0 d.size a1 o1 → NumberWritten o1 a1 d.time a2 o2 → Wrote o2 a2 (label_form d.e_tag) a3 o3 → Wrote o3 a3 (label_form d.version) a4 o4
    → Wrote o4 a4 (length d.attributes ∷ []) a5 o5 → Wrote o5 a5 (attributes_form d.attributes) next after
    → a1 ≤ length o1 → a2 ≤ length o2 → a3 ≤ length o3 → a4 ≤ length o4 → Saved out d next after
saved_of d out o1 o2 o3 o4 o5 after a1 a2 a3 a4 a5 next w1 w2 w3 w4 w5 w6 h1 h2 h3 h4 =
    let count : List ℕ = length d.attributes ∷ [] in
    let last = wrote_then o4 a4 count a5 o5 (attributes_form d.attributes) next after h4 w5 w6 in
    let labels = wrote_then o3 a3 (label_form d.version) a4 o4 (count ++ attributes_form d.attributes) next after h3 w4 last in
    let behind = wrote_then o2 a2 (label_form d.e_tag) a3 o3 (label_form d.version ++ (count ++ attributes_form d.attributes)) next after h2 w3 labels in
    let second = wrote_then o1 a1 w2.formed.bytes a2 o2 (rest_form d) next after h1 (number_wrote o1 a1 d.time a2 o2 w2) behind in
    let all = wrote_then out 0 w1.formed.bytes a1 o1 (w2.formed.bytes ++ rest_form d) next after (omega arith) (number_wrote out 0 d.size a1 o1 w1) second in
    record {
      bytes = w1.formed.bytes ++ (w2.formed.bytes ++ rest_form d);
      form = record { size = w1.formed; time = w2.formed; joined = refl };
      count = omega (arith, all.place);
      joined = all.joined;
    }

-- the same for a head in the code, whose size and time six groups hold
module _ (h : Head) (long : ℕ) (room : (bs : List ℕ) → Stored (data_of h) bs → length bs ≤ long) where
  abbrev behind_long : ℕ
  behind_long = length (label_form (data_of h).e_tag) + length (label_form (data_of h).version) + 1 + length (attributes_form (data_of h).attributes)

  pub parts_room : (m n : ℕ) → m ≡ h.size → n ≡ h.time → (a b : List ℕ) → Number a m → Number b n → length a + length b + behind_long ≤ long
  parts_room m n e f a b x y = all_room (data_of h) long room a b (subst (Number a) e x) (subst (Number b) f y)

  pub first_room : (m : ℕ) → m ≡ h.size → (a : List ℕ) → Number a m → length a ≤ long
  first_room m e a x =
      let time : Formed h.time = formed 5 h.time (omega arith) in
      omega (arith, parts_room m h.time e refl a time.bytes x time.form)

-- a number has one form
number_once : (a b : List ℕ) (m n : ℕ) → m ≡ n → Number a m → Number b n → a ≡ b
number_once a b m n e (single i g) (single j h) = ap (λ k. k ∷ []) e
number_once a b m n e (single i g) (further low high above l p x) = absurd (omega arith)
number_once a b m n e (further low high above l p x) (single i g) = absurd (omega arith)
number_once a b m n e (further low high above l p x) (further lower higher other k q y) =
    let lows : low ≡ lower = omega arith in
    let highs : high ≡ higher = omega arith in
    let forms : above ≡ other = number_once above other high higher highs x y in
    cc

pub one_form : (d : HeadData) (a b : List ℕ) → Stored d a → Stored d b → a ≡ b
one_form d a b x y =
    let sizes : x.size.bytes ≡ y.size.bytes = number_once x.size.bytes y.size.bytes d.size d.size refl x.size.form y.size.form in
    let times : x.time.bytes ≡ y.time.bytes = number_once x.time.bytes y.time.bytes d.time d.time refl x.time.form y.time.form in
    let left : a ≡ x.size.bytes ++ (x.time.bytes ++ rest_form d) = x.joined in
    let right : b ≡ y.size.bytes ++ (y.time.bytes ++ rest_form d) = y.joined in
    cc

pub long_of : (d : HeadData) (bs : List ℕ) (n : ℕ) → Stored d bs → n ≡ length bs → Long d n
long_of d bs n s is = record { bytes = bs; form = s; count = sym is; only = λ cs f. ap length (one_form d cs bs f s) ∙ sym is }

-- the length of the form, part by part
pub stored_some : (h : Head) (s t n : ℕ) → ((bs : List ℕ) → Number bs h.size → length bs ≡ s) → ((bs : List ℕ) → Number bs h.time → length bs ≡ t)
    → n ≡ s + t + (length (label_form (data_of h).e_tag) + length (label_form (data_of h).version)) + 1 + length (attributes_form (data_of h).attributes) → Long (data_of h) n
stored_some h s t n x y e =
    let size : Formed h.size = formed 5 h.size (omega arith) in
    let time : Formed h.time = formed 5 h.time (omega arith) in
    let bytes : List ℕ = size.bytes ++ (time.bytes ++ rest_form (data_of h)) in
    let form : Stored (data_of h) bytes = record { size = size; time = time; joined = refl } in
    long_of (data_of h) bytes n form
    (omega (arith, stored_long (data_of h) bytes form, rest_long (data_of h), x size.bytes size.form, y time.bytes time.form))
