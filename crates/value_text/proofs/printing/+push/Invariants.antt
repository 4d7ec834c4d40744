use Rattle.std.proofs.Common.{◌≡◌, ◌∷◌, ◌++◌, ◌+◌, ◌*◌, ◌-◌, max, length, drop}
use Rattle.mj_schema.specs.KindTrees.{kind_view}
use Rattle.wire_model.specs.Trees.{view}
use Rattle.value_text.specs.Brackets.{brackets, brackets_in}
use Rattle.value_text.specs.Spelling.{fields_kinds, first_item, each_text, first_pair, first_field, key_of, value_of}
use Rattle.value_text.proofs.Printed.{trees_in, items_from, pairs_from, fields_from}
use Rattle.value_text.proofs.printing.+push.Given as goal

abbrev pub decreases-push_value : goal.decreases-push_value
decreases-push_value l = 2 * brackets (view l.value.now)

abbrev pub decreases-push_list : goal.decreases-push_list
decreases-push_list l = 2 * brackets_in (trees_in l.items.now) + 1

abbrev pub decreases-push_map : goal.decreases-push_map
decreases-push_map l = 2 * max (brackets_in (trees_in l.keys.now)) (brackets_in (trees_in l.values.now)) + 1

abbrev pub decreases-push_struct : goal.decreases-push_struct
decreases-push_struct l = 2 * brackets_in (trees_in l.values.now) + 1

abbrev pub decreases-push_member : goal.decreases-push_member
decreases-push_member l = 2 * brackets (view l.value.now) + 1

abbrev pub invariant-push_list-loop-i : goal.invariant-push_list-loop-i
invariant-push_list-loop-i l =
    l.out.items ++ items_from l.schema (kind_view l.of) l.i (trees_in (drop l.i l.items))
    ≡ l.fn.out.items ++ 91 ∷ first_item l.schema (kind_view l.of) (trees_in l.items)

abbrev pub invariant-push_map-loop-i : goal.invariant-push_map-loop-i
invariant-push_map-loop-i l =
    l.out.items ++ pairs_from l.i (each_text l.schema (key_of (kind_view l.kind)) (trees_in (drop l.i l.keys)))
    (each_text l.schema (value_of (kind_view l.kind)) (trees_in (drop l.i l.values)))
    ≡ l.fn.out.items ++ 123 ∷ first_pair (each_text l.schema (key_of (kind_view l.kind)) (trees_in l.keys))
    (each_text l.schema (value_of (kind_view l.kind)) (trees_in l.values))

abbrev pub decreases-push_map-loop-i : goal.decreases-push_map-loop-i
decreases-push_map-loop-i l = length l.keys - l.i

abbrev pub invariant-push_struct-loop-i : goal.invariant-push_struct-loop-i
invariant-push_struct-loop-i l =
    l.out.items ++ fields_from l.schema l.i (fields_kinds (drop l.i l.row)) (trees_in (drop l.i l.values))
    ≡ l.fn.out.items ++ 40 ∷ first_field l.schema (fields_kinds l.row) (trees_in l.values)

abbrev pub decreases-push_struct-loop-i : goal.decreases-push_struct-loop-i
decreases-push_struct-loop-i l = length l.values - l.i
