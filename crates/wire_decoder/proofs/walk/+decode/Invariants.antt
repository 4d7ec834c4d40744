use Rattle.std.proofs.Common.{◌≡◌, ◌+◌, ◌-◌, ◌*◌, ◌≤◌, drop, map, length}
use Rattle.std.specs.Prelude.{vec_len, vec_capacity}
use Rattle.mj_schema.specs.KindTrees.{kind_view}
use Rattle.mj_schema.specs.Sizes.{size_of}
use Rattle.wire_model.specs.Marks.{visit, slots_marks}
use Rattle.wire_model.specs.Slots.{element_slots, field_slot}
use Rattle.wire_model.specs.Trees.{Trees, view, none}
use Rattle.wire_model.specs.Values.{value, slots_value}
use Rattle.wire_decoder.specs.steps.Joined.{joined}
use Rattle.readable_marks.specs.Readable.{AreReadable}
use Rattle.wire_decoder.proofs.walk.+decode.Given as goal

abbrev pub decreases-decode_pointer : goal.decreases-decode_pointer
decreases-decode_pointer l = 16 * l.left

abbrev pub decreases-decode_cell : goal.decreases-decode_cell
decreases-decode_cell l = 16 * l.left + 1

abbrev pub decreases-decode_member : goal.decreases-decode_member
decreases-decode_member l = 16 * l.left + 2

abbrev pub decreases-decode_slot : goal.decreases-decode_slot
decreases-decode_slot l = 16 * l.left + 3

abbrev pub decreases-decode_fields : goal.decreases-decode_fields
decreases-decode_fields l = 16 * l.left + 5

abbrev pub decreases-decode_field : goal.decreases-decode_field
decreases-decode_field l = 16 * l.left + 4

abbrev pub decreases-decode_elements : goal.decreases-decode_elements
decreases-decode_elements l = 16 * l.left + 4

abbrev pub decreases-decode_array : goal.decreases-decode_array
decreases-decode_array l = 16 * l.left + 5

abbrev pub decreases-decode_struct : goal.decreases-decode_struct
decreases-decode_struct l = 16 * l.left + 6

abbrev pub decreases-decode_list : goal.decreases-decode_list
decreases-decode_list l = 16 * l.left

abbrev pub decreases-decode_object : goal.decreases-decode_object
decreases-decode_object l = 16 * l.left + 7

abbrev pub invariant-decode_fields-loop-field : goal.invariant-decode_fields-loop-field
invariant-decode_fields-loop-field l = record {
  readable : AreReadable (length l.bytes) (slots_marks (visit l.left l.schema l.bytes) l.schema l.bytes l.base (map field_slot (drop l.field-index l.fields)));
  room : vec_len l.values + length l.fields ≤ vec_capacity l.values + l.field-index;
  values : (rest : Trees) → joined (map view l.values.items)
      (slots_value (value l.left l.schema l.bytes) l.schema l.bytes l.base (map field_slot (drop l.field-index l.fields)) rest)
      ≡ joined (map view l.fn.values.items) (slots_value (value l.left l.schema l.bytes) l.schema l.bytes l.base (map field_slot l.fields) rest);
}

abbrev pub invariant-decode_elements-loop : goal.invariant-decode_elements-loop
invariant-decode_elements-loop l = record {
  place : l.place ≡ l.counter * size_of (kind_view l.of);
  readable : AreReadable (length l.bytes)
      (slots_marks (visit l.left l.schema l.bytes) l.schema l.bytes l.base (element_slots (kind_view l.of) l.place (l.count - l.counter)));
  room : vec_len l.values + l.count ≤ vec_capacity l.values + l.counter;
  elements : joined (map view l.values.items)
      (slots_value (value l.left l.schema l.bytes) l.schema l.bytes l.base (element_slots (kind_view l.of) l.place (l.count - l.counter)) none)
      ≡ joined (map view l.fn.values.items)
      (slots_value (value l.left l.schema l.bytes) l.schema l.bytes l.base (element_slots (kind_view l.of) 0 l.count) none);
}
