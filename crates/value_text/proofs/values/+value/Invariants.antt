use Rattle.std.proofs.Common.{◌≡◌, ◌∷◌, [], ◌+◌, ◌*◌, ◌-◌, length, drop, map}
use Rattle.mj_schema.specs.KindTrees.{kind_view}
use Rattle.wire_model.specs.Trees.{view}
use Rattle.byte_rules.specs.Lang.{until, rest_of, ◌▸◌}
use Rattle.byte_rules.specs.steps.Reading.{gathered, with_front}
use Rattle.value_text.specs.Rules.{slot_value, fields_after}
use Rattle.value_text.specs.steps.Reading.{inner, more_of, pair_of, more_pairs_of, add_pairs}
use Rattle.value_text.proofs.values.+value.Given as goal

abbrev pub decreases-value : goal.decreases-value
decreases-value l = 8 * l.left + 2

abbrev pub decreases-base : goal.decreases-base
decreases-base l = 8 * l.left + 1

abbrev pub decreases-array : goal.decreases-array
decreases-array l = 8 * l.left

abbrev pub decreases-elements : goal.decreases-elements
decreases-elements l = 8 * l.left + 7

abbrev pub decreases-list : goal.decreases-list
decreases-list l = 8 * l.left + 6

abbrev pub decreases-so_many : goal.decreases-so_many
decreases-so_many l = 8 * l.left + 6

abbrev pub decreases-next : goal.decreases-next
decreases-next l = 8 * l.left + 3

abbrev pub decreases-more : goal.decreases-more
decreases-more l = 8 * l.left + 5

abbrev pub decreases-as_many : goal.decreases-as_many
decreases-as_many l = 8 * l.left + 5

abbrev pub decreases-dictionary : goal.decreases-dictionary
decreases-dictionary l = 8 * l.left

abbrev pub decreases-pairs : goal.decreases-pairs
decreases-pairs l = 8 * l.left + 6

abbrev pub decreases-pair : goal.decreases-pair
decreases-pair l = 8 * l.left + 3

abbrev pub decreases-next_pair : goal.decreases-next_pair
decreases-next_pair l = 8 * l.left + 4

abbrev pub decreases-more_pairs : goal.decreases-more_pairs
decreases-more_pairs l = 8 * l.left + 5

abbrev pub decreases-structure : goal.decreases-structure
decreases-structure l = 8 * l.left

abbrev pub decreases-all_fields : goal.decreases-all_fields
decreases-all_fields l = 8 * l.left + 6

abbrev pub decreases-fields : goal.decreases-fields
decreases-fields l = 8 * l.left + 5

abbrev pub decreases-fields_after : goal.decreases-fields_after
decreases-fields_after l = 8 * l.left + 4

abbrev pub decreases-union : goal.decreases-union
decreases-union l = 8 * l.left

abbrev pub decreases-tagged : goal.decreases-tagged
decreases-tagged l = 8 * l.left + 4

abbrev pub decreases-member : goal.decreases-member
decreases-member l = 8 * l.left + 3

abbrev pub invariant-more-loop : goal.invariant-more-loop
invariant-more-loop l =
    with_front (λ t. t ∷ []) (map view l.items.items) ((until 93 (length l.bytes - l.counter) (44 ▸ inner l.schema l.left (kind_view l.of))).read l.rest)
    ≡ with_front (λ t. t ∷ []) (map view l.initial.items.items) ((more_of l.schema l.left (kind_view l.of)).read l.bytes)

abbrev pub invariant-as_many-loop : goal.invariant-as_many-loop
invariant-as_many-loop l =
    with_front (λ t. t ∷ []) (map view l.items.items) ((rest_of 93 (l.count - l.counter) (inner l.schema l.left (kind_view l.of))).read l.rest)
    ≡ with_front (λ t. t ∷ []) (map view l.initial.items.items) ((rest_of 93 l.count (inner l.schema l.left (kind_view l.of))).read l.bytes)

abbrev pub invariant-more_pairs-loop : goal.invariant-more_pairs-loop
invariant-more_pairs-loop l =
    gathered add_pairs (map view l.pairs.keys.items, map view l.pairs.values.items)
    ((until 125 (length l.bytes - l.counter) (44 ▸ pair_of l.schema l.left (kind_view l.key) (kind_view l.one))).read l.rest)
    ≡ gathered add_pairs (map view l.initial.pairs.keys.items, map view l.initial.pairs.values.items)
    ((more_pairs_of l.schema l.left (kind_view l.key) (kind_view l.one)).read l.bytes)

abbrev pub invariant-fields_after-loop-field : goal.invariant-fields_after-loop-field
invariant-fields_after-loop-field l =
    with_front (λ t. t ∷ []) (map view l.values.items) ((fields_after (slot_value l.schema l.left) (drop l.field-index l.row)).read l.rest)
    ≡ with_front (λ t. t ∷ []) (map view l.initial.values.items) ((fields_after (slot_value l.schema l.left) l.row).read l.bytes)
