use Rattle.std.proofs.Common.{◌≡◌, ◌∷◌, ◌++◌, ◌+◌, ◌*◌, ◌-◌, max, drop}
use Rattle.mj_schema.specs.KindTrees.{kind_view}
use Rattle.value_text.specs.Brackets.{brackets}
use Rattle.value_text.specs.Spelling.{fields_kinds, first_item, each_text, first_pair, first_field}
use Rattle.value_text.proofs.Printed.{items_from, pairs_from, fields_from}
use Rattle.view_text.specs.steps.Inside.{inside}
use Rattle.view_text.proofs.Printed.{after}
use Rattle.wire_view.specs.PartValues.{tree_in}
use Rattle.wire_view.specs.Views.{tree_of}
use Rattle.view_text.proofs.printing.+push.Given as goal

abbrev pub decreases-push_part : goal.decreases-push_part
decreases-push_part l = 8 * brackets (tree_in l.part.now) + 3

abbrev pub decreases-push_view : goal.decreases-push_view
decreases-push_view l = 8 * brackets (tree_of l.view.now) + 2

abbrev pub decreases-push_list : goal.decreases-push_list
decreases-push_list l = 8 * brackets (tree_of l.view.now)

abbrev pub decreases-push_map : goal.decreases-push_map
decreases-push_map l = 8 * brackets (tree_of l.view.now) + 1

abbrev pub decreases-push_pairs : goal.decreases-push_pairs
decreases-push_pairs l = 8 * max (brackets (tree_of l.keys.now)) (brackets (tree_of l.values.now))

abbrev pub decreases-push_struct : goal.decreases-push_struct
decreases-push_struct l = 8 * brackets (tree_of l.view.now)

abbrev pub decreases-push_union : goal.decreases-push_union
decreases-push_union l = 8 * brackets (tree_of l.view.now)

abbrev pub decreases-push_member : goal.decreases-push_member
decreases-push_member l = 8 * brackets (tree_in l.part.now) + 4

abbrev pub invariant-push_list-loop-i : goal.invariant-push_list-loop-i
invariant-push_list-loop-i l =
    l.out.items ++ items_from l.schema (kind_view l.of) l.i (after l.i (inside (tree_of l.view)))
    ≡ l.fn.out.items ++ 91 ∷ first_item l.schema (kind_view l.of) (inside (tree_of l.view))

abbrev pub decreases-push_list-loop-i : goal.decreases-push_list-loop-i
decreases-push_list-loop-i l = l.count - l.i

abbrev pub invariant-push_pairs-loop-i : goal.invariant-push_pairs-loop-i
invariant-push_pairs-loop-i l =
    l.out.items ++ pairs_from l.i (each_text l.schema (kind_view l.key) (after l.i (inside (tree_of l.keys))))
    (each_text l.schema (kind_view l.one) (after l.i (inside (tree_of l.values))))
    ≡ l.fn.out.items ++ 123 ∷ first_pair (each_text l.schema (kind_view l.key) (inside (tree_of l.keys)))
    (each_text l.schema (kind_view l.one) (inside (tree_of l.values)))

abbrev pub decreases-push_pairs-loop-i : goal.decreases-push_pairs-loop-i
decreases-push_pairs-loop-i l = l.names - l.i

abbrev pub invariant-push_struct-loop-i : goal.invariant-push_struct-loop-i
invariant-push_struct-loop-i l =
    l.out.items ++ fields_from l.schema l.i (fields_kinds (drop l.i l.row)) (after l.i (inside (tree_of l.view)))
    ≡ l.fn.out.items ++ 40 ∷ first_field l.schema (fields_kinds l.row) (inside (tree_of l.view))

abbrev pub decreases-push_struct-loop-i : goal.decreases-push_struct-loop-i
decreases-push_struct-loop-i l = l.count - l.i
