use Rattle.std.proofs.Common.{refl, ◌≡◌, ◌+◌, ◌-◌, ◌∷◌, [], ◌++◌, sym, ap, subst, ◌∙◌, arith, rules, drop, length, map, None, false}
use Rattle.mj_schema.specs.KindTrees.{kind_view, ArrayKind}
use Rattle.std.specs.Prelude.{OnOk}
use Rattle.mj_base.specs.Bytes.{number32, number64}
use Rattle.wire_model.specs.Absent.{absent_values}
use Rattle.wire_model.specs.Rows.{row_for}
use Rattle.wire_model.specs.Slots.{element_slots}
use Rattle.wire_model.specs.Marks.{visit}
use Rattle.wire_model.specs.Trees.{Tree, Fields, view, trees, none}
use Rattle.wire_model.specs.Values.{value, slots_value}
use Rattle.readable_marks.specs.Readable.{AreReadable}
use Rattle.wire_laws.proofs.Elements.{content_as_slots}
use Rattle.wire_decoder.proofs.Joining.{all_added, few_of, from_none, field_more, fields_done, element_more, elements_done}
use Rattle.readable_marks.proofs.Reading.{readable_struct, readable_field, readable_element, fits_long, readable_behind, value_behind, object_array, object_map, object_union, array_value, union_readable, union_is_slot, not_zero, one_less}
use Rattle.readable_marks.proofs.Rooms.{within_bytes, field_in, element_room}
use Rattle.wire_decoder.proofs.walk.+decode.Goals as goal

-- arrays

pub decode_array-decode_elements-requires : goal.decode_array-decode_elements-requires
decode_array-decode_elements-requires t c =
    let bytes = c.args.bytes.now in
    let next = visit c.args.left c.args.schema.now bytes in
    let same = content_as_slots next c.args.schema.now bytes (c.args.at + 8) (kind_view c.args.of.now) (number32 bytes (c.args.at + 4)) in
    let marks = subst (AreReadable (length bytes)) same c.requires.readable in (
      search rules,
      (
        rw c.le32-count.ensures c.requires.within,
        (
          rw c.le32-count.ensures marks,
          omega (arith, c.in_ok-elements.ensures.len, c.in_ok-elements.ensures.capacity),
        ),
      ),
    )

pub decode_array-returns : goal.decode_array-returns
decode_array-returns t c =
    let bytes = c.args.bytes.now in
    let elements = rw c.le32-count.ensures at c.in_ok-decode_elements.ensures in
    all_added c.in_ok-elements.elements.items c.decode_elements.new.values.items
    (slots_value (value c.args.left c.args.schema.now bytes) c.args.schema.now bytes (c.args.at + 8)
    (element_slots (kind_view c.args.of.now) 0 (number32 bytes (c.args.at + 4))) none)
    c.in_ok-elements.ensures.items elements

pub decode_elements-decode_slot-requires : goal.decode_elements-decode_slot-requires
decode_elements-decode_slot-requires t c =
    let bytes = c.args.bytes.now in
    let k = kind_view c.args.of.now in
    let next = visit c.args.left c.args.schema.now bytes in
    let room = element_room k c.loop.place c.loop.counter c.args.count c.loop-test.true c.loop.invariant.place in
    let parts = readable_element (length bytes) next c.args.schema.now bytes c.args.base k c.loop.place c.args.count c.loop.counter c.loop-test.true
    c.loop.invariant.readable in
    (search rules, (omega arith, (omega (arith, room, c.requires.within), (parts.0, omega (arith, c.loop-test.true, c.loop.invariant.room)))))

pub decode_elements-loop-preserved : goal.decode_elements-loop-preserved
decode_elements-loop-preserved t c =
    let bytes = c.args.bytes.now in
    let k = kind_view c.args.of.now in
    let next = visit c.args.left c.args.schema.now bytes in
    let behind = value c.args.left c.args.schema.now bytes in
    let wide = c.size_of-size.ensures.value in
    let parts = readable_element (length bytes) next c.args.schema.now bytes c.args.base k c.loop.place c.args.count c.loop.counter c.loop-test.true
    c.loop.invariant.readable in
    record {
      place = omega (arith, wide, c.loop.invariant.place);
      readable = rw wide parts.1;
      room = omega (arith, c.in_ok-decode_slot.ensures.room, c.loop.invariant.room);
      elements = rw wide (element_more behind c.args.schema.now bytes c.args.base k c.loop.place c.args.count c.loop.counter
          (map view c.loop.values.items) (map view c.decode_slot.new.values.items) _ c.loop-test.true c.in_ok-decode_slot.ensures.made
          c.loop.invariant.elements);
    }

pub decode_elements-returns : goal.decode_elements-returns
decode_elements-returns t c =
    elements_done (value c.args.left c.args.schema.now c.args.bytes.now) c.args.schema.now c.args.bytes.now c.args.base (kind_view c.args.of.now) c.loop.place
    c.args.count c.loop.counter (map view c.loop.values.items) _ c.loop-test.false c.loop.invariant.elements

-- fields

pub decode_fields-decode_field-requires : goal.decode_fields-decode_field-requires
decode_fields-decode_field-requires t c =
    let bytes = c.args.bytes.now in
    let f = c.field-item.result in
    let next = visit c.args.left c.args.schema.now bytes in
    let here = field_in c.args.base (length bytes) c.args.fields.now c.loop-field.field-index f c.loop-field-test.true c.field-item.is c.requires.within in
    let parts = readable_field (length bytes) next c.args.schema.now bytes c.args.base c.args.fields.now c.loop-field.field-index f here.bit
    c.loop-field-test.true c.field-item.is c.loop-field.invariant.readable in
    (search rules, (here, (parts.0, omega (arith, c.loop-field-test.true, c.loop-field.invariant.room))))

pub decode_fields-loop-field-preserved : goal.decode_fields-loop-field-preserved
decode_fields-loop-field-preserved t c =
    let bytes = c.args.bytes.now in
    let f = c.field-item.result in
    let next = visit c.args.left c.args.schema.now bytes in
    let here = field_in c.args.base (length bytes) c.args.fields.now c.loop-field.field-index f c.loop-field-test.true c.field-item.is c.requires.within in
    record {
      readable = (readable_field (length bytes) next c.args.schema.now bytes c.args.base c.args.fields.now c.loop-field.field-index f here.bit
          c.loop-field-test.true c.field-item.is c.loop-field.invariant.readable).1;
      room = omega (arith, c.in_ok-decode_field.ensures.room, c.loop-field.invariant.room);
      values = λ rest. field_more (value c.args.left c.args.schema.now bytes) c.args.schema.now bytes c.args.base c.args.fields.now c.loop-field.field-index f
          (map view c.loop-field.values.items) (map view c.decode_field.new.values.items) _ rest here.bit c.loop-field-test.true c.field-item.is
          c.in_ok-decode_field.ensures.made (c.loop-field.invariant.values rest);
    }

pub decode_fields-returns : goal.decode_fields-returns
decode_fields-returns t c = λ rest.
    fields_done (value c.args.left c.args.schema.now c.args.bytes.now) c.args.schema.now c.args.bytes.now c.args.base c.args.fields.now c.loop-field.field-index
    (map view c.loop-field.values.items) _ rest c.loop-field-test.false (c.loop-field.invariant.values rest)

-- structs

pub decode_struct-overflow_add-at : goal.decode_struct-overflow_add-at
decode_struct-overflow_add-at t c =
    let r = readable_struct (length c.args.bytes.now) (visit c.args.left c.args.schema.now c.args.bytes.now) c.args.schema.now c.args.bytes.now c.args.at
    c.args.row.now c.requires.readable in
    omega (arith, r.header, r.ends)

pub decode_struct-le32-version-requires : goal.decode_struct-le32-version-requires
decode_struct-le32-version-requires t c =
    let r = readable_struct (length c.args.bytes.now) (visit c.args.left c.args.schema.now c.args.bytes.now) c.args.schema.now c.args.bytes.now c.args.at
    c.args.row.now c.requires.readable in
    omega (arith, r.header, r.ends)

pub decode_struct-overflow_add-at-2 : goal.decode_struct-overflow_add-at-2
decode_struct-overflow_add-at-2 t c =
    let r = readable_struct (length c.args.bytes.now) (visit c.args.left c.args.schema.now c.args.bytes.now) c.args.schema.now c.args.bytes.now c.args.at
    c.args.row.now c.requires.readable in
    omega (arith, r.header, r.ends)

pub decode_struct-decode_fields-requires : goal.decode_struct-decode_fields-requires
decode_struct-decode_fields-requires t c =
    let bytes = c.args.bytes.now in
    let row = c.args.row.now in
    let next = visit c.args.left c.args.schema.now bytes in
    let r = readable_struct (length bytes) next c.args.schema.now bytes c.args.at row c.requires.readable in
    let long = fits_long row.versions (number32 bytes (c.args.at + 4)) (number32 bytes c.args.at) r.fits in
    let within = within_bytes c.present-known.result.now _ c.args.at (number32 bytes c.args.at) (length bytes) c.present-known.ensures.within
    (rw c.le32-version.ensures long) r.ends in
    let few = few_of _ row.fields c.present-known.result.now c.present-known.ensures.fields in (
      search rules,
      (
        within,
        (
          rw (c.present-known.ensures.fields, c.le32-version.ensures) r.fields,
          omega (arith, few, c.len.ensures, c.in_ok-fields.ensures.len, c.in_ok-fields.ensures.capacity),
        ),
      ),
    )

pub decode_struct-returns : goal.decode_struct-returns
decode_struct-returns t c =
    let bytes = c.args.bytes.now in
    let row = c.args.row.now in
    let version = c.le32-version.ensures in
    let lacking = absent_values c.args.schema.now (drop (row_for row.versions (number32 bytes (c.args.at + 4))).fields row.fields) in
    let behind = rw (c.absent.ensures, version) at c.in_ok-add_absent.ensures in
    let fields = rw (c.present-known.ensures.fields, version) at (c.in_ok-decode_fields.ensures lacking) in
    ap Fields (behind ∙ fields ∙ from_none c.in_ok-fields.fields.items _ c.in_ok-fields.ensures.items)

-- unions

pub decode_slot-decode_member-requires : goal.decode_slot-decode_member-requires
decode_slot-decode_member-requires t c =
    let bytes = c.args.bytes.now in
    let held = union_readable (length bytes) (visit c.args.left c.args.schema.now bytes) c.args.schema.now bytes c.args.at (kind_view c.args.kind.now)
    c.in-Union.number c.in-Union.nullable (ap kind_view c.in-Union.is) (λ e. c.if-le32-eq0.false (c.le32.ensures ∙ e)) c.requires.readable in
    (search rules, (search rules, (held, c.requires.room)))

-- what a pointer leads to

pub decode_list-decode_array-requires : goal.decode_list-decode_array-requires
decode_list-decode_array-requires t c =
    let bytes = c.args.bytes.now in
    let some = not_zero c.le64-pointer.result (number64 bytes c.args.at) c.le64-pointer.ensures c.if-pointer-eq0.false in
    let level = one_less c.args.left c.if-left-eq0.false in
    let k = ArrayKind (kind_view c.args.of.now) None false in
    let behind = readable_behind (length bytes) c.args.left (c.args.left - 1) c.args.schema.now bytes c.args.at k false level some c.requires.readable in
    let array = object_array (length bytes) (visit (c.args.left - 1) c.args.schema.now bytes) c.args.schema.now bytes (c.args.at + number64 bytes c.args.at) k
    (kind_view c.args.of.now) None false refl behind.1 in
    (search rules, (rw c.le64-pointer.ensures array.within, rw c.le64-pointer.ensures array.content))

pub decode_list-returns : goal.decode_list-returns
decode_list-returns t c =
    let bytes = c.args.bytes.now in
    let some = not_zero c.le64-pointer.result (number64 bytes c.args.at) c.le64-pointer.ensures c.if-pointer-eq0.false in
    let level = one_less c.args.left c.if-left-eq0.false in
    let behind = value_behind c.args.left (c.args.left - 1) c.args.schema.now bytes c.args.at (ArrayKind (kind_view c.args.of.now) None false) level some in
    let elements = rw c.le64-pointer.ensures at c.in_ok-elements.ensures in
    array_value (value (c.args.left - 1) c.args.schema.now bytes) c.args.schema.now bytes (c.args.at + number64 bytes c.args.at) (kind_view c.args.of.now)
    None false (trees (map view c.in_ok-elements.elements.items)) elements
    ∙ sym behind

pub decode_pointer-returns-clause-made : goal.decode_pointer-returns-clause-made
decode_pointer-returns-clause-made t c =
    let bytes = c.args.bytes.now in
    let some = not_zero c.le64-pointer.result (number64 bytes c.args.at) c.le64-pointer.ensures c.if-pointer-eq0-2.false in
    let level = one_less c.args.left c.if-left-eq0.false in
    (rw c.le64-pointer.ensures at c.in_ok-decode_object.ensures.made)
    ∙ ap (λ (t : Tree). map view c.args.values.now.items ++ t ∷ [])
    (sym (value_behind c.args.left (c.args.left - 1) c.args.schema.now bytes c.args.at (kind_view c.args.kind.now) level some))

-- objects

pub decode_object-decode_array-requires : goal.decode_object-decode_array-requires
decode_object-decode_array-requires t c =
    let bytes = c.args.bytes.now in
    let array = object_array (length bytes) (visit c.args.left c.args.schema.now bytes) c.args.schema.now bytes c.args.at (kind_view c.args.kind.now)
    (kind_view c.in-Array.of.value) c.in-Array.count c.in-Array.nullable (ap kind_view c.in-Array.is) c.requires.readable in
    (search rules, (rw c.deref.ensures array.within, rw c.deref.ensures array.content))

pub decode_object-overflow_add-at : goal.decode_object-overflow_add-at
decode_object-overflow_add-at t c =
    let bytes = c.args.bytes.now in
    let map = object_map (length bytes) (visit c.args.left c.args.schema.now bytes) c.args.schema.now bytes c.args.at (kind_view c.args.kind.now)
    (kind_view c.in-Map.key.value) (kind_view c.in-Map.value.value) c.in-Map.nullable (ap kind_view c.in-Map.is) c.requires.readable in
    omega (arith, map.within)

pub decode_object-decode_list-requires : goal.decode_object-decode_list-requires
decode_object-decode_list-requires t c =
    let bytes = c.args.bytes.now in
    let map = object_map (length bytes) (visit c.args.left c.args.schema.now bytes) c.args.schema.now bytes c.args.at (kind_view c.args.kind.now)
    (kind_view c.in-Map.key.value) (kind_view c.in-Map.value.value) c.in-Map.nullable (ap kind_view c.in-Map.is) c.requires.readable in
    (search rules, (omega (arith, map.within), rw c.deref-in-Map.ensures map.keys))

pub decode_object-overflow_add-at-in-Map : goal.decode_object-overflow_add-at-in-Map
decode_object-overflow_add-at-in-Map t c =
    let bytes = c.args.bytes.now in
    let map = object_map (length bytes) (visit c.args.left c.args.schema.now bytes) c.args.schema.now bytes c.args.at (kind_view c.args.kind.now)
    (kind_view c.in-Map.key.value) (kind_view c.in-Map.value.value) c.in-Map.nullable (ap kind_view c.in-Map.is) c.requires.readable in
    omega (arith, map.within)

pub decode_object-decode_list-requires-in-Map : goal.decode_object-decode_list-requires-in-Map
decode_object-decode_list-requires-in-Map t c =
    let bytes = c.args.bytes.now in
    let map = object_map (length bytes) (visit c.args.left c.args.schema.now bytes) c.args.schema.now bytes c.args.at (kind_view c.args.kind.now)
    (kind_view c.in-Map.key.value) (kind_view c.in-Map.value.value) c.in-Map.nullable (ap kind_view c.in-Map.is) c.requires.readable in
    (search rules, (omega (arith, map.within), rw c.deref-in-Map-2.ensures map.values))

pub decode_object-decode_slot-requires : goal.decode_object-decode_slot-requires
decode_object-decode_slot-requires t c =
    let bytes = c.args.bytes.now in
    let union = object_union (length bytes) (visit c.args.left c.args.schema.now bytes) c.args.schema.now bytes c.args.at (kind_view c.args.kind.now)
    c.in-Union.number c.in-Union.nullable (ap kind_view c.in-Union.is) c.requires.readable in
    (search rules, (omega arith, (union.0, (union.1, c.requires.room))))

pub decode_object-returns-in-Union-clause-made : goal.decode_object-returns-in-Union-clause-made
decode_object-returns-in-Union-clause-made t c =
    let bytes = c.args.bytes.now in
    let same = union_is_slot (value c.args.left c.args.schema.now bytes) c.args.schema.now bytes c.args.at (kind_view c.args.kind.now) c.in-Union.number
    c.in-Union.nullable (ap kind_view c.in-Union.is) in
    subst (λ (x : Tree). OnOk c.decode_slot.result (map view c.decode_slot.new.values.items ≡ map view c.args.values.now.items ++ x ∷ [])) (sym same)
    c.decode_slot.ensures.made
