use Rattle.std.proofs.Common.{rules, ◌≡◌, length, sym, ap, ◌∙◌, arith}
use Rattle.std.proofs.lemmas.List.{length-map}
use Rattle.stored_head.specs.Heads.{data_of, attributes_form, pair, pairs, Saved}
use Rattle.stored_head.proofs.Whole.{parts_room, first_room, saved_of}
use Rattle.stored_head.proofs.head.write_form.Goals as goal

pub push_number-requires-clause-room : goal.push_number-requires-clause-room
push_number-requires-clause-room c =
    λ bs form. omega (arith, first_room c.args.head.now (length c.args.out.now) c.requires c.size.result c.size.ensures bs form)

pub push_number-requires-2-clause-room : goal.push_number-requires-2-clause-room
push_number-requires-2-clause-room c =
    λ bs form.
    let w = c.push_number.ensures in
    omega (
      arith,
      parts_room c.args.head.now (length c.args.out.now) c.requires c.size.result c.time.result c.size.ensures c.time.ensures
          w.behind.formed.bytes bs w.behind.formed.form form,
      w.behind.place,
      w.long,
    )

pub push_label-requires : goal.push_label-requires
push_label-requires c =
    let w1 = c.push_number.ensures in
    let w2 = c.push_number-2.ensures in
    let all = parts_room c.args.head.now (length c.args.out.now) c.requires c.size.result c.time.result c.size.ensures c.time.ensures
    w1.behind.formed.bytes w2.behind.formed.bytes w1.behind.formed.form w2.behind.formed.form in
    omega (arith, w1.behind.place, w1.long, w2.behind.place, w2.long)

pub push_label-requires-2 : goal.push_label-requires-2
push_label-requires-2 c =
    let w1 = c.push_number.ensures in
    let w2 = c.push_number-2.ensures in
    let w3 = c.push_label.ensures in
    let all = parts_room c.args.head.now (length c.args.out.now) c.requires c.size.result c.time.result c.size.ensures c.time.ensures
    w1.behind.formed.bytes w2.behind.formed.bytes w1.behind.formed.form w2.behind.formed.form in
    omega (arith, w1.behind.place, w1.long, w2.behind.place, w2.long, w3.behind.place, w3.long)

pub push-requires : goal.push-requires
push-requires c =
    let w1 = c.push_number.ensures in
    let w2 = c.push_number-2.ensures in
    let w3 = c.push_label.ensures in
    let w4 = c.push_label-2.ensures in
    let all = parts_room c.args.head.now (length c.args.out.now) c.requires c.size.result c.time.result c.size.ensures c.time.ensures
    w1.behind.formed.bytes w2.behind.formed.bytes w1.behind.formed.form w2.behind.formed.form in
    omega (arith, w1.behind.place, w1.long, w2.behind.place, w2.long, w3.behind.place, w3.long, w4.behind.place, w4.long)

pub push_attributes-requires : goal.push_attributes-requires
push_attributes-requires c =
    let w1 = c.push_number.ensures in
    let w2 = c.push_number-2.ensures in
    let w3 = c.push_label.ensures in
    let w4 = c.push_label-2.ensures in
    let w5 = c.push.ensures in
    let all = parts_room c.args.head.now (length c.args.out.now) c.requires c.size.result c.time.result c.size.ensures c.time.ensures
    w1.behind.formed.bytes w2.behind.formed.bytes w1.behind.formed.form w2.behind.formed.form in
    let entries = ap (λ es. length (attributes_form (pairs es))) c.as_slice-entries.ensures.value in
    omega (arith, w1.behind.place, w1.long, w2.behind.place, w2.long, w3.behind.place, w3.long, w4.behind.place, w4.long, w5.behind.place, w5.long)

pub returns : goal.returns
returns c =
    let d = data_of c.args.head.now in
    let w1 = c.push_number.ensures in
    let w2 = c.push_number-2.ensures in
    let w3 = c.push_label.ensures in
    let w4 = c.push_label-2.ensures in
    let w5 = c.push.ensures in
    let all = parts_room c.args.head.now (length c.args.out.now) c.requires c.size.result c.time.result c.size.ensures c.time.ensures
    w1.behind.formed.bytes w2.behind.formed.bytes w1.behind.formed.form w2.behind.formed.form in
    let entries = c.as_slice-entries.ensures.value in
    let count : length c.as_slice-entries.result.now ≡ length d.attributes = ap length entries ∙ sym (length-map _ pair) in
    let saved : Saved c.args.out.now d c.push_attributes.new.form.len c.push_attributes.new.form.room.now =
    saved_of d c.args.out.now _ _ _ _ _ _ _ _ _ _ _ _
    (rw c.size.ensures at w1.behind) (rw c.time.ensures at w2.behind) w3.behind w4.behind (rw count at w5.behind) (rw entries at c.push_attributes.ensures.behind)
    (omega (arith, w1.behind.place, w1.long))
    (omega (arith, w1.behind.place, w1.long, w2.behind.place, w2.long))
    (omega (arith, w1.behind.place, w1.long, w2.behind.place, w2.long, w3.behind.place, w3.long))
    (omega (arith, w1.behind.place, w1.long, w2.behind.place, w2.long, w3.behind.place, w3.long, w4.behind.place, w4.long)) in
    search (rules, saved)
