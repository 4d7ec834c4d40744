use Rattle.std.proofs.Common.{◌≡◌, drop, map}
use Rattle.mj_schema.specs.KindTrees.{kind_view}
use Rattle.mj_schema.specs.Layout.{kind_of}
use Rattle.wire_model.specs.Trees.{trees, view}
use Rattle.core_taking.specs.steps.Slots.{each_names, field_names, noted}
use Rattle.core_taking.proofs.slots.+walk.Given as goal

-- the rest of the values names what all of them do
abbrev pub invariant-note_each-loop-item : goal.invariant-note_each-loop-item
invariant-note_each-loop-item l = noted (each_names l.schema (kind_view l.of) (trees (map view (drop l.item-index l.items)))) l.slots
    ≡ noted (each_names l.schema (kind_view l.of) (trees (map view l.items))) l.initial.slots

abbrev pub invariant-note_fields-loop-i : goal.invariant-note_fields-loop-i
invariant-note_fields-loop-i l = noted (field_names l.schema (map kind_of (drop l.i l.fields)) (trees (map view (drop l.i l.values)))) l.slots
    ≡ noted (field_names l.schema (map kind_of l.fields) (trees (map view l.values))) l.initial.slots
