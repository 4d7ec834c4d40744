use Rattle.std.proofs.Common.{◌≡◌, List, map, sym, ap, ◌∙◌}
use Rattle.mj_schema.specs.KindTrees.{MapKind, kind_view}
use Rattle.mj_schema.specs.declared.rows.FieldRow.{FieldRow}
use Rattle.wire_model.specs.Trees.{Items, Pairs, more, none, trees, view}
use Rattle.wire_model.specs.declared.value.Value.{Value}
use Rattle.core_taking.proofs.SlotsNoted.{each_on, field_on, field_over, map_on, view_map}
use Rattle.core_taking.proofs.slots.+walk.Goals as goal
use Rattle.core_taking.proofs.slots.+walk.Goals.{note_fields-then-i-fields, note_fields-else-i-fields}

pub note_each-loop-item-preserved : goal.note_each-loop-item-preserved
note_each-loop-item-preserved t c =
    each_on c.args.schema.now (kind_view c.args.of.now) c.args.items.now c.loop-item.item-index c.item-item.result c.loop-item.slots
    c.note_value.new.slots _ c.loop-item-test.true c.item-item.is c.note_value.ensures c.loop-item.invariant

pub note_fields-loop-i-preserved : goal.note_fields-loop-i-preserved
note_fields-loop-i-preserved t c =
    let schema = c.args.schema.now in
    let vs = c.args.values.now in
    let fs = c.args.fields.now in
    let i = c.loop-i.i in
    elim c.if-i-fields.branch [
      | note_fields-then-i-fields w ↦
          rw w.slots-is (field_on schema fs w.index-fields-i.result (kind_view w.node.result.now) vs i c.index-values-i.result c.loop-i.slots
          w.note_value.new.slots _ c.loop-i-test.true c.index-values-i.is w.if-i-fields.true w.index-fields-i.is
          (w.node.ensures ∙ ap (λ (f : FieldRow). f.kind) (sym w.index-fields-i.is)) w.note_value.ensures c.loop-i.invariant)
      | note_fields-else-i-fields w ↦ rw w.slots-is (field_over schema fs vs i c.loop-i.slots _ w.if-i-fields.false c.loop-i.invariant)
    ]

pub note_value-returns-in-Map-kind : goal.note_value-returns-in-Map-kind
note_value-returns-in-Map-kind t c =
    let ks = c.deref-in-Map-kind.result.now in
    let vs = c.deref-in-Map-kind-3.result.now in
    let key = c.deref-in-Map-kind-2.result.now in
    let of = c.deref-in-Map-kind-4.result.now in
    let tree : view c.args.value.now ≡ Pairs (more (Items (trees (map view ks))) (more (Items (trees (map view vs))) none)) =
    ap view c.in-Map.is ∙ (view_map c.in-Map.keys c.in-Map.values
    ∙ (ap (λ (l : List Value). Pairs (more (Items (trees (map view l))) (more (Items (trees (map view c.in-Map.values.items))) none)))
    (sym c.deref-in-Map-kind.ensures.value)
    ∙ ap (λ (l : List Value). Pairs (more (Items (trees (map view ks))) (more (Items (trees (map view l))) none)))
    (sym c.deref-in-Map-kind-3.ensures.value))) in
    let kind : kind_view c.args.kind.now ≡ MapKind (kind_view key) (kind_view of) c.in-Map-kind.nullable =
    rw (c.deref-in-Map-kind-2.ensures, c.deref-in-Map-kind-4.ensures) (ap kind_view c.in-Map-kind.is) in
    map_on c.args.schema.now (kind_view c.args.kind.now) (kind_view key) (kind_view of) c.in-Map-kind.nullable (view c.args.value.now) ks vs
    c.args.slots.now c.note_each.new.slots c.note_each-in-Map-kind.new.slots kind tree c.note_each.ensures c.note_each-in-Map-kind.ensures
