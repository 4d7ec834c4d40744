use Rattle.std.proofs.Common.{◌≡◌, ◌+◌, ◌-◌, ◌*◌, ◌/◌, ◌<◌, ◌≤◌, ◌^◌, ◌++◌, length, map, drop, take, sym, ap, subst, ◌∙◌, arith, rules, refl}
use Rattle.std.proofs.lemmas.Result.{IfOk-equal, on_ok_weaker}
use Rattle.tight_bytes.proofs.Values.{size_map, size_map2, view_map}
use denote.Param.Weighed.{at_most, most}
use Rattle.wire_model.proofs.value.Value.TheLaws.{the_size}
use Rattle.std.proofs.Common.{Some, None, true, false, List, ℕ}
use Rattle.mj_base.specs.Bytes.{bytes32, bytes64, rounded8}
use Rattle.mj_schema.specs.Sizes.{size_of}
use Rattle.wire_model.specs.Cells.{UNION_BYTES, zeros, put_cell}
use Rattle.wire_model.specs.Emit.{emit, body_of, behind, object}
use Rattle.wire_model.specs.Slots.{element_slots, field_slot, found_size}
use Rattle.mj_schema.specs.KindTrees.{kind_view, ArrayKind, MapKind}
use Rattle.wire_model.specs.Trees.{Tree, view, trees, Items, Pairs, more, none}
use Rattle.tight_bytes.proofs.Flat.{flat_append}
use Rattle.tight_bytes.proofs.Emitting.{field_fits_marked, begins, one_more, element_here, elements_done, elements_within, element_small, element_fits, field_more, fields_over, fields_done, array_is, struct_is, no_struct, placed_within, object_room, list_room, map_of, pointed_is, no_member, member_inline, member_pointed}
use Rattle.tight_bytes.proofs.emit.+emit.Goals.{emit_fields-then-i-fields+in_ok-emit_slot, emit_fields-else-i-fields}
use Rattle.tight_bytes.proofs.emit.+emit.Goals as goal

pub emit_elements-loop-i-init : goal.emit_elements-loop-i-init
emit_elements-loop-i-init t c =
    let k = kind_view c.args.of.now in
    let z : length c.args.items.now - 0 ≡ length c.args.items.now = omega arith in
    rw z (begins c.args.schema.now (element_slots k 0 (length c.args.items.now)) (trees (map view c.args.items.now)) c.args.out.now.items c.args.base
    c.requires.base c.requires.within)

pub emit_elements-loop-i-preserved : goal.emit_elements-loop-i-preserved
emit_elements-loop-i-preserved t c =
    let k = kind_view c.args.of.now in
    let vs = c.args.items.now in
    let ss = element_slots k 0 (length vs) in
    let ts = trees (map view vs) in
    let old = c.args.out.now.items in
    let i = c.loop-i.i in
    let v = c.index-items-i.result in
    let e = element_here c.args.schema.now ss ts old c.args.base k c.loop-i.place vs i v c.loop-i.out.items c.loop-i-test.true c.index-items-i.is
    c.loop-i.invariant in
    rw c.requires.size (one_more c.args.schema.now ss ts old c.args.base c.loop-i.out.items c.emit_slot.new.out.items
    (record { place = c.loop-i.place; kind = k; flag = None }) (element_slots k (c.loop-i.place + size_of k) (length vs - (i + 1))) (view v)
    (trees (map view (drop (i + 1) vs))) c.requires.base e (c.in_ok-emit_slot.ensures))

pub emit_elements-returns : goal.emit_elements-returns
emit_elements-returns t c =
    elements_done c.args.schema.now (element_slots (kind_view c.args.of.now) 0 (length c.args.items.now)) (trees (map view c.args.items.now))
    c.args.out.now.items c.args.base (kind_view c.args.of.now) c.loop-i.place c.args.items.now c.loop-i.i c.loop-i.out.items c.loop-i-test.false
    c.loop-i.invariant

pub emit_fields-loop-i-init : goal.emit_fields-loop-i-init
emit_fields-loop-i-init t c =
    begins c.args.schema.now (map field_slot c.args.fields.now) (trees (map view c.args.values.now)) c.args.out.now.items c.args.base c.requires.base
    c.requires.within

pub emit_fields-loop-i-preserved : goal.emit_fields-loop-i-preserved
emit_fields-loop-i-preserved t c =
    let vs = c.args.values.now in
    let fs = c.args.fields.now in
    let ss = map field_slot fs in
    let ts = trees (map view vs) in
    let old = c.args.out.now.items in
    let i = c.loop-i.i in
    let v = c.index-values-i.result in
    elim c.if-i-fields.branch [
      | emit_fields-then-i-fields+in_ok-emit_slot w ↦
          rw w.out-is (field_more c.args.schema.now ss ts old c.args.base fs w.index-fields-i.result (kind_view w.node.result.now) vs i v
          c.loop-i.out.items w.mark_present.new.out.items w.emit_slot.new.out.items c.loop-i-test.true c.index-values-i.is w.if-i-fields.true
          w.index-fields-i.is w.node.ensures c.requires.base c.loop-i.invariant w.mark_present.ensures w.in_ok-emit_slot.ensures)
      | emit_fields-else-i-fields w ↦
          rw w.out-is (fields_over c.args.schema.now ss ts old c.args.base fs vs i c.loop-i.out.items w.if-i-fields.false c.loop-i.invariant)
    ]

pub emit_fields-returns : goal.emit_fields-returns
emit_fields-returns t c =
    fields_done c.args.schema.now (map field_slot c.args.fields.now) (trees (map view c.args.values.now)) c.args.out.now.items c.args.base
    c.args.fields.now c.args.values.now c.loop-i.i c.loop-i.out.items c.loop-i-test.false c.loop-i.invariant

pub emit_array-emit_elements-requires : goal.emit_array-emit_elements-requires
emit_array-emit_elements-requires t c =
    let k = kind_view c.args.of.now in
    let n = length c.args.items.now in
    let whole = array_is c.args.schema.now k c.args.items.now c.args.out.now.items c.begin_object.new.out.items c.in_ok-base.base c.size_of-size.result
    c.size_of-size.ensures.value c.in_ok-base.ensures.base c.in_ok-base.ensures.items in
    let small = subst (λ s. rounded8 ((n * s + 7) / 8) ≤ 2 ^ 60) c.size_of-size.ensures.value c.if-rounded-gt-NO_ROOM.false in
    (search rules, (omega (arith, whole.0), (c.size_of-size.ensures.value, (omega (arith, whole.0, small), elements_within k 0 n _ (omega (arith, whole.0))))))

pub emit_array-returns : goal.emit_array-returns
emit_array-returns t c =
    let k = kind_view c.args.of.now in
    let whole = array_is c.args.schema.now k c.args.items.now c.args.out.now.items c.begin_object.new.out.items c.in_ok-base.base c.size_of-size.result
    c.size_of-size.ensures.value c.in_ok-base.ensures.base c.in_ok-base.ensures.items in
    IfOk-equal c.emit_elements.result _ _ _ c.emit_elements.ensures whole.1

pub emit_struct-returns-in_default : goal.emit_struct-returns-in_default
emit_struct-returns-in_default t c = no_struct c.args.schema.now c.args.number (trees (map view c.args.values.now)) c.args.out.now.items (search rules)

pub emit_struct-emit_fields-requires : goal.emit_struct-emit_fields-requires
emit_struct-emit_fields-requires t c =
    let row = c.in-Some.row.now in
    let old = c.args.out.now.items in
    let out = c.begin_object.new.out.items in
    let base = c.in_ok-base.base in
    let ts = trees (map view c.args.values.now) in
    let d = c.in_ok-base.ensures.items ∙ ap (λ n. old ++ (bytes32 n ++ (bytes32 c.newest_version-version.result ++ zeros (n - 8))))
    c.newest_size-size.ensures ∙ ap (λ n. old ++ (bytes32 (found_size (Some row)) ++ (bytes32 n ++ zeros (found_size (Some row) - 8))))
    c.newest_version-version.ensures in
    let whole = struct_is c.args.schema.now c.args.number row ts old out base (sym c.in-Some.ensures.found) c.in_ok-base.ensures.base d in
    let good = c.in-Some.ensures.good in
    let n : length out - base ≡ found_size (Some row) - 8 = omega (arith, whole.0) in
    (search rules, (omega (arith, whole.0), rw (c.as_slice.ensures, n) (placed_within (map field_slot row.fields) (found_size (Some row) - 8) good.placed)))

pub emit_struct-returns : goal.emit_struct-returns
emit_struct-returns t c =
    let row = c.in-Some.row.now in
    let old = c.args.out.now.items in
    let out = c.begin_object.new.out.items in
    let base = c.in_ok-base.base in
    let ts = trees (map view c.args.values.now) in
    let d = c.in_ok-base.ensures.items ∙ ap (λ n. old ++ (bytes32 n ++ (bytes32 c.newest_version-version.result ++ zeros (n - 8))))
    c.newest_size-size.ensures ∙ ap (λ n. old ++ (bytes32 (found_size (Some row)) ++ (bytes32 n ++ zeros (found_size (Some row) - 8))))
    c.newest_version-version.ensures in
    let whole = struct_is c.args.schema.now c.args.number row ts old out base (sym c.in-Some.ensures.found) c.in_ok-base.ensures.base d in
    IfOk-equal c.emit_fields.result _ _ _ c.emit_fields.ensures
    (ap (λ fs. take base out ++ (body_of c.args.schema.now (map field_slot fs) ts (drop base out) (length out - base) ++ behind c.args.schema.now
    (map field_slot fs) ts)) c.as_slice.ensures ∙ whole.1)

pub emit_pointed-put_held-requires : goal.emit_pointed-put_held-requires
emit_pointed-put_held-requires t c =
    omega (
      arith,
      object_room c.args.out.now.items c.begin_object.new.out.items UNION_BYTES c.args.tag 8 c.in_ok-base.base c.in_ok-base.ensures.base
          c.in_ok-base.ensures.items,
    )

pub emit_pointed-returns : goal.emit_pointed-returns
emit_pointed-returns t c =
    IfOk-equal c.emit_value.result _ _ _ c.emit_value.ensures
    (pointed_is c.args.schema.now (kind_view c.args.kind.now) c.args.tag (view c.args.member.now) c.args.out.now.items c.begin_object.new.out.items
    c.put_held.new.out.items c.in_ok-base.base (length c.begin_object.new.out.items) c.in_ok-base.ensures.base c.in_ok-base.ensures.items refl
    c.put_held.ensures)

pub emit_member-returns-in_default : goal.emit_member-returns-in_default
emit_member-returns-in_default t c =
    no_member c.args.schema.now c.args.inline (kind_view c.args.kind.now) c.args.tag (view c.args.member.now) c.args.out.now.items (search rules)

pub emit_member-returns-then-inline : goal.emit_member-returns-then-inline
emit_member-returns-then-inline t c =
    let schema = c.args.schema.now in
    let k = kind_view c.args.kind.now in
    let v = view c.args.member.now in
    let old = c.args.out.now.items in
    IfOk-equal c.emit_value.result _ _ _ c.emit_value.ensures
    (rw c.if-inline.true (ap (λ z. old ++ emit schema false z v) c.node.ensures
    ∙ member_inline schema k c.in-Some.kind.now c.args.tag v old (sym c.in-Some.ensures)))

pub emit_member-returns : goal.emit_member-returns
emit_member-returns t c =
    let schema = c.args.schema.now in
    let k = kind_view c.args.kind.now in
    let v = view c.args.member.now in
    let old = c.args.out.now.items in
    IfOk-equal c.emit_pointed.result _ _ _ c.emit_pointed.ensures
    (rw c.if-inline.false (ap (λ z. old ++ object UNION_BYTES c.args.tag (put_cell 0 z v (zeros 8) 8) (emit schema false z v)) c.node-2.ensures
    ∙ member_pointed schema k c.in-Some.kind.now c.args.tag v old (sym c.in-Some.ensures)))

pub emit_elements-overflow_add-place : goal.emit_elements-overflow_add-place
emit_elements-overflow_add-place t c =
    let k = kind_view c.args.of.now in
    let vs = c.args.items.now in
    let small = element_small c.args.schema.now (element_slots k 0 (length vs)) (trees (map view vs)) c.args.out.now.items c.args.base k c.loop-i.place vs
    c.loop-i.i c.index-items-i.result c.loop-i.out.items c.loop-i.invariant c.loop-i-test.true c.index-items-i.is in
    omega (arith, small, c.requires.small, c.requires.size)

pub emit_elements-emit_slot-requires : goal.emit_elements-emit_slot-requires
emit_elements-emit_slot-requires t c =
    let k = kind_view c.args.of.now in
    let vs = c.args.items.now in
    let i = c.loop-i.i in
    let v = c.index-items-i.result in
    let less : the_size v ≤ most the_size vs = rw c.index-items-i.is (at_most the_size vs i v c.loop-i-test.true) in (
      omega (arith, less),
      element_fits c.args.schema.now (element_slots k 0 (length vs)) (trees (map view vs)) c.args.out.now.items c.args.base k
          c.loop-i.place vs i v c.loop-i.out.items c.loop-i.invariant c.loop-i-test.true c.index-items-i.is c.requires.base,
    )

pub emit_list-returns-clause-kept : goal.emit_list-returns-clause-kept
emit_list-returns-clause-kept t c =
    let old = c.args.out.now.items in
    let place = c.args.place in
    let bytes : List ℕ = bytes64 (length old - place) in
    let back = emit c.args.schema.now true (ArrayKind (kind_view c.args.of.now) None false) (Items (trees (map view c.args.items.now))) in
    on_ok_weaker c.emit_array.result (λ e. list_room old c.emit_array.new.out.items bytes back place (e ∙ ap (λ l. l ++ back) c.put_distance.ensures))
    c.emit_array.ensures

pub emit_value-emit_list-requires : goal.emit_value-emit_list-requires
emit_value-emit_list-requires t c =
    let less : most the_size c.deref-in-Map-kind.result.now < the_size c.args.value.now =
    rw (c.in-Map.is, c.deref-in-Map-kind.ensures.value) (size_map c.in-Map.keys c.in-Map.values) in
    let room = c.in_ok-base-in-Map-kind.ensures.room in
    (omega (arith, less), omega (arith, room))

pub emit_value-emit_list-requires-in-Map-kind : goal.emit_value-emit_list-requires-in-Map-kind
emit_value-emit_list-requires-in-Map-kind t c =
    let less : most the_size c.deref-in-Map-kind-3.result.now < the_size c.args.value.now =
    rw (c.in-Map.is, c.deref-in-Map-kind-3.ensures.value) (size_map2 c.in-Map.keys c.in-Map.values) in
    let room = c.in_ok-base-in-Map-kind.ensures.room in
    let kept = c.in_ok-emit_list-in-Map-kind.ensures.kept in
    (omega (arith, less), omega (arith, room, kept))

pub emit_value-returns-in_ok-emit_list-in-Map-kind : goal.emit_value-returns-in_ok-emit_list-in-Map-kind
emit_value-returns-in_ok-emit_list-in-Map-kind t c =
    let base = c.in_ok-base-in-Map-kind.base in
    let schema = c.args.schema.now in
    let old = c.args.out.now.items in
    let d = c.begin_object.new.out.items in
    let d1 = c.emit_list.new.out.items in
    let d2 = c.emit_list-in-Map-kind.new.out.items in
    let is1 = c.in_ok-emit_list-in-Map-kind.ensures.items in
    let k1 : kind_view c.deref-in-Map-kind-2.result.now ≡ kind_view c.in-Map-kind.key.value = ap kind_view c.deref-in-Map-kind-2.ensures in
    let k2 : kind_view c.deref-in-Map-kind-4.result.now ≡ kind_view c.in-Map-kind.value.value = ap kind_view c.deref-in-Map-kind-4.ensures in
    let v1 : trees (map view c.deref-in-Map-kind.result.now) ≡ trees (map view c.in-Map.keys.items) =
    ap (λ vs. trees (map view vs)) c.deref-in-Map-kind.ensures.value in
    let v2 : trees (map view c.deref-in-Map-kind-3.result.now) ≡ trees (map view c.in-Map.values.items) =
    ap (λ vs. trees (map view vs)) c.deref-in-Map-kind-3.ensures.value in
    let pairs : Tree = Pairs (more (Items (trees (map view c.in-Map.keys.items))) (more (Items (trees (map view c.in-Map.values.items))) none)) in
    let v : view c.args.value.now ≡ pairs = ap view c.in-Map.is ∙ view_map c.in-Map.keys c.in-Map.values in
    let k : kind_view c.args.kind.now ≡ MapKind (kind_view c.in-Map-kind.key.value) (kind_view c.in-Map-kind.value.value) c.in-Map-kind.nullable =
    ap kind_view c.in-Map-kind.is in
    on_ok_weaker c.emit_list-in-Map-kind.result
    (λ e. map_of schema c.args.inline _ _ _ _ c.in-Map-kind.nullable _ _ _ _ old d d1 d2 base k1 k2 v1 v2 c.in_ok-base-in-Map-kind.ensures.base
    c.in_ok-base-in-Map-kind.ensures.items is1 e
    ∙ ap (λ z. old ++ emit schema c.args.inline z pairs) (sym k) ∙ ap (λ t. old ++ emit schema c.args.inline (kind_view c.args.kind.now) t) (sym v))
    c.emit_list-in-Map-kind.ensures.items

pub emit_fields-emit_slot-requires : goal.emit_fields-emit_slot-requires
emit_fields-emit_slot-requires t c =
    let vs = c.args.values.now in
    let fs = c.args.fields.now in
    let i = c.loop-i.i in
    let v = c.index-values-i.result in
    let less : the_size v ≤ most the_size vs = rw c.index-values-i.is (at_most the_size vs i v c.loop-i-test.true) in (
      omega (arith, less),
      field_fits_marked c.args.schema.now (map field_slot fs) (trees (map view vs)) c.args.out.now.items c.args.base fs c.index-fields-i.result
          (kind_view c.node.result.now) vs i v c.loop-i.out.items c.mark_present.new.out.items c.loop-i.invariant c.loop-i-test.true c.index-values-i.is
          c.if-i-fields.true c.index-fields-i.is c.node.ensures c.requires.base c.mark_present.ensures,
    )

pub emit_slot-returns-then-is_flat : goal.emit_slot-returns-then-is_flat
emit_slot-returns-then-is_flat t c =
    c.put_slot.ensures ∙ flat_append c.args.schema.now (kind_view c.args.kind.now) (view c.args.value.now) _ (sym c.is_flat.ensures ∙ c.if-is_flat.true)
