use Rattle.std.proofs.Common.{◌-◌, length, drop, map}
use Rattle.wire_model.specs.Slots.{element_slots, field_slot}
use Rattle.mj_schema.specs.KindTrees.{kind_view}
use Rattle.wire_model.specs.Trees.{view, trees}
use Rattle.tight_bytes.proofs.Emitting.{Emitted}
use Rattle.tight_bytes.proofs.emit.+emit.Given as goal

abbrev pub invariant-emit_elements-loop-i : goal.invariant-emit_elements-loop-i
invariant-emit_elements-loop-i l =
    Emitted l.schema (element_slots (kind_view l.of) 0 (length l.items)) (trees (map view l.items)) l.initial.out.items l.base l.out.items
    (element_slots (kind_view l.of) l.place (length l.items - l.i)) (trees (map view (drop l.i l.items)))

abbrev pub invariant-emit_fields-loop-i : goal.invariant-emit_fields-loop-i
invariant-emit_fields-loop-i l =
    Emitted l.schema (map field_slot l.fields) (trees (map view l.values)) l.initial.out.items l.base l.out.items (map field_slot (drop l.i l.fields))
    (trees (map view (drop l.i l.values)))
