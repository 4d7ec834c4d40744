use Rattle.std.proofs.Common.{◌≡◌, ℕ, suc, ◌<◌, ◌≤◌, ◌⊎◌, inl, inr, ◌∷◌, [], ◌++◌, List, Vec, Global, length, ap, sym, subst, ◌∙◌, arith, rules}
use Rattle.std.specs.Prelude.{OnOk}
use Rattle.mj_schema.specs.KindTrees.{KindTree, kind_view}
use Rattle.mj_schema.specs.declared.rows.FieldRow.{FieldRow}
use Rattle.value_text.specs.Brackets.{brackets}
use Rattle.value_text.specs.Spelling.{fields_kinds, spell, first_item, each_text, first_pair, first_field}
use Rattle.view_text.specs.steps.Inside.{inside, keys_in, values_in}
use Rattle.view_text.proofs.LeafTexts.{held_is, not_held, on_ok}
use Rattle.view_text.proofs.Printed.{brackets_at, item_on, items_done, field_on, fields_done, pair_on, pairs_done}
use Rattle.view_text.proofs.Shaped.{items_listed, fields_listed, is_map, list_listed, map_deep, items_spelled, fields_spelled, pairs_spelled, member_is, unknown_is, member_spelled, unknown_spelled}
use Rattle.wire_model.specs.Trees.{Tree, count}
use Rattle.wire_view.specs.PartValues.{tree_in}
use Rattle.wire_view.specs.Views.{tree_of}
use Rattle.view_text.proofs.printing.+push.Goals.{push_list-then-i-gt0+in_ok-push-2, push_list-else-i-gt0}
use Rattle.view_text.proofs.printing.+push.Goals.{push_pairs-then-i-gt0+in_ok-push-2, push_pairs-else-i-gt0, push_pairs-then-loop-i-test+else-i-count}
use Rattle.view_text.proofs.printing.+push.Goals.{push_pairs-else-loop-i-test}
use Rattle.view_text.proofs.printing.+push.Goals.{push_struct-then-i-gt0+in_ok-push-2, push_struct-else-i-gt0, push_struct-then-loop-i-test+else-i-row}
use Rattle.view_text.proofs.printing.+push.Goals.{push_struct-else-loop-i-test}
use Rattle.view_text.proofs.printing.+push.Goals as goal

-- what stands before an element: a comma, but for the first
abbrev Parted : ℕ → Vec ℕ Global → Vec ℕ Global → Type 0
Parted i out mid = ((i ≡ 0) × (mid.items ≡ out.items)) ⊎ ((0 < i) × (mid.items ≡ out.items ++ 44 ∷ []))

-- parts

pub push_part-push_view-requires : goal.push_part-push_view-requires
push_part-push_view-requires t c =
    let deep = ap brackets (held_is (tree_of c.in-Some.view) (tree_in c.args.part.now) c.in-Some.ensures.value) in
    omega (arith, deep)

pub push_part-push_leaf-requires : goal.push_part-push_leaf-requires
push_part-push_leaf-requires t c = not_held (tree_in c.args.part.now) c.in-None.ensures.value

pub push_part-returns-in-Some : goal.push_part-returns-in-Some
push_part-returns-in-Some t c =
    subst (λ (x : Tree). OnOk c.push_view.result (c.push_view.new.out.items ≡ c.args.out.now.items ++ spell c.args.schema.now (kind_view c.args.kind.now) x))
    (held_is (tree_of c.in-Some.view) (tree_in c.args.part.now) c.in-Some.ensures.value) c.push_view.ensures

pub push_part-returns-in-None : goal.push_part-returns-in-None
push_part-returns-in-None t c =
    let old = c.args.out.now.items in
    let whole = tree_in c.args.part.now in
    on_ok ((k : KindTree) → c.push_leaf.new.out.items ≡ old ++ spell c.args.schema.now k whole)
    (c.push_leaf.new.out.items ≡ old ++ spell c.args.schema.now (kind_view c.args.kind.now) whole) c.push_leaf.result
    (λ f. f (kind_view c.args.kind.now)) c.push_leaf.ensures

-- objects

pub push_view-push_struct-requires : goal.push_view-push_struct-requires
push_view-push_struct-requires t c = (search rules, fields_listed (tree_of c.args.view.now) c.in-Struct.ensures.0 c.in-Struct.ensures.1)

pub push_view-push_list-requires : goal.push_view-push_list-requires
push_view-push_list-requires t c = (search rules, items_listed (tree_of c.args.view.now) c.in-Array.ensures.0 c.in-Array.ensures.1)

pub push_view-push_map-requires : goal.push_view-push_map-requires
push_view-push_map-requires t c = (search rules, is_map (tree_of c.args.view.now) c.in-Map.ensures.0 c.in-Map.ensures.1 c.in-Map.ensures.2)

pub push_view-push_union-requires : goal.push_view-push_union-requires
push_view-push_union-requires t c = (search rules, c.in-Union.ensures)

pub push_view-returns-in-Struct : goal.push_view-returns-in-Struct
push_view-returns-in-Struct t c =
    subst (λ (s : List ℕ). OnOk c.push_struct.result (c.push_struct.new.out.items ≡ c.args.out.now.items ++ s))
    (fields_spelled c.args.schema.now (kind_view c.args.kind.now) (fields_kinds c.fields_of.result.now) (tree_of c.args.view.now) c.in-Struct.ensures.0
    c.in-Struct.ensures.1 c.fields_of.ensures) c.push_struct.ensures

pub push_view-returns-in-Array : goal.push_view-returns-in-Array
push_view-returns-in-Array t c =
    subst (λ (s : List ℕ). OnOk c.push_list.result (c.push_list.new.out.items ≡ c.args.out.now.items ++ s))
    (items_spelled c.args.schema.now (kind_view c.args.kind.now) (kind_view c.element_of.result.now) (tree_of c.args.view.now) c.in-Array.ensures.0
    c.in-Array.ensures.1 c.element_of.ensures) c.push_list.ensures

-- arrays

pub push_list-push_part-requires : goal.push_list-push_part-requires
push_list-push_part-requires t c =
    let less = brackets_at (inside (tree_of c.args.view.now)) _ (tree_in c.part_at-item.result) c.part_at-item.ensures in
    omega (arith, less, c.requires.deep)

pub push_list-loop-i-preserved : goal.push_list-loop-i-preserved
push_list-loop-i-preserved t c =
    let k = kind_view c.args.of.now in
    let xs = inside (tree_of c.args.view.now) in
    let parted : Parted c.loop-i.i c.loop-i.out c.if-i-gt0.out = elim c.if-i-gt0.branch [
      | push_list-then-i-gt0+in_ok-push-2 w ↦ inr (w.if-i-gt0.true, ap (λ (o : Vec ℕ Global). o.items) w.out-is ∙ w.in_ok-push-2.ensures.items)
      | push_list-else-i-gt0 w ↦ inl (omega (arith, w.if-i-gt0.false), ap (λ (o : Vec ℕ Global). o.items) w.out-is)
    ] in
    item_on c.args.schema.now k xs c.loop-i.i (tree_in c.part_at-item.result) c.loop-i.out.items c.if-i-gt0.out.items c.push_part.new.out.items
    (c.args.out.now.items ++ 91 ∷ first_item c.args.schema.now k xs) c.part_at-item.ensures parted c.in_ok-push_part.ensures c.loop-i.invariant

pub push_list-returns : goal.push_list-returns
push_list-returns t c =
    let k = kind_view c.args.of.now in
    let xs = inside (tree_of c.args.view.now) in
    let ended : count xs ≤ c.loop-i.i = omega (arith, c.requires.many) in
    items_done c.args.schema.now k xs c.loop-i.i c.loop-i.out.items c.push-2.new.self.items
    (c.args.out.now.items ++ 91 ∷ first_item c.args.schema.now k xs) ended
    c.in_ok-push-3.ensures.items c.loop-i.invariant

-- maps

pub push_map-list_at-keys-requires : goal.push_map-list_at-keys-requires
push_map-list_at-keys-requires t c = (keys_in (tree_of c.args.view.now), c.requires.keys)

pub push_map-list_at-values-requires : goal.push_map-list_at-values-requires
push_map-list_at-values-requires t c = (values_in (tree_of c.args.view.now), c.requires.values)

pub push_map-push_pairs-requires : goal.push_map-push_pairs-requires
push_map-push_pairs-requires t c =
    let map = tree_of c.args.view.now in
    let keys = tree_of c.list_at-keys.result in
    let values = tree_of c.list_at-values.result in
    let deep = map_deep map keys values c.requires c.list_at-keys.ensures c.list_at-values.ensures in (
      omega (arith, deep),
      (
        list_listed map keys (keys_in map) 0 c.requires.keys c.list_at-keys.ensures,
        list_listed map values (values_in map) 1 c.requires.values c.list_at-values.ensures,
      ),
    )

pub push_map-returns : goal.push_map-returns
push_map-returns t c =
    subst (λ (s : List ℕ). OnOk c.push_pairs.result (c.push_pairs.new.out.items ≡ c.args.out.now.items ++ s))
    (pairs_spelled c.args.schema.now (kind_view c.args.kind.now) (kind_view c.key_of.result.now) (kind_view c.value_of.result.now) (tree_of c.args.view.now)
    (tree_of c.list_at-keys.result) (tree_of c.list_at-values.result) c.requires c.list_at-keys.ensures c.list_at-values.ensures c.key_of.ensures
    c.value_of.ensures)
    c.push_pairs.ensures

pub push_pairs-loop-i-preserved : goal.push_pairs-loop-i-preserved
push_pairs-loop-i-preserved t c =
    let schema = c.args.schema.now in
    let key = kind_view c.args.key.now in
    let one = kind_view c.args.one.now in
    let ks = inside (tree_of c.args.keys.now) in
    let vs = inside (tree_of c.args.values.now) in
    let parted : Parted c.loop-i.i c.loop-i.out c.if-i-gt0.out = elim c.if-i-gt0.branch [
      | push_pairs-then-i-gt0+in_ok-push-2 w ↦ inr (w.if-i-gt0.true, ap (λ (o : Vec ℕ Global). o.items) w.out-is ∙ w.in_ok-push-2.ensures.items)
      | push_pairs-else-i-gt0 w ↦ inl (omega (arith, w.if-i-gt0.false), ap (λ (o : Vec ℕ Global). o.items) w.out-is)
    ] in
    pair_on schema key one ks vs c.loop-i.i (tree_in c.part_at-name.result) (tree_in c.part_at-item.result) c.loop-i.out.items c.if-i-gt0.out.items
    c.push_part.new.out.items c.push-in-loop-i.new.self.items c.push_part-in-loop-i.new.out.items
    (c.args.out.now.items ++ 123 ∷ first_pair (each_text schema key ks) (each_text schema one vs))
    c.part_at-name.ensures c.part_at-item.ensures parted c.in_ok-push_part.ensures c.in_ok-push-3.ensures.items c.in_ok-push_part-2.ensures c.loop-i.invariant

pub push_pairs-returns : goal.push_pairs-returns
push_pairs-returns t c =
    let schema = c.args.schema.now in
    let key = kind_view c.args.key.now in
    let one = kind_view c.args.one.now in
    let ks = inside (tree_of c.args.keys.now) in
    let vs = inside (tree_of c.args.values.now) in
    let ended : (count ks ≤ c.loop-i.i) ⊎ (count vs ≤ c.loop-i.i) = elim c.loop-i-test.branch [
      | push_pairs-then-loop-i-test+else-i-count w ↦ inr (omega (arith, w.if-i-count.false, c.requires.values.many))
      | push_pairs-else-loop-i-test w ↦ inl (omega (arith, w.loop-i-test.false, c.requires.keys.many))
    ] in
    pairs_done schema key one ks vs c.loop-i.i c.loop-i.out.items c.push-2.new.self.items
    (c.args.out.now.items ++ 123 ∷ first_pair (each_text schema key ks) (each_text schema one vs)) ended c.in_ok-push-4.ensures.items c.loop-i.invariant

-- structs

pub push_struct-push_part-requires : goal.push_struct-push_part-requires
push_struct-push_part-requires t c =
    let less = brackets_at (inside (tree_of c.args.view.now)) _ (tree_in c.part_at-item.result) c.part_at-item.ensures in
    omega (arith, less, c.requires.deep)

pub push_struct-loop-i-preserved : goal.push_struct-loop-i-preserved
push_struct-loop-i-preserved t c =
    let schema = c.args.schema.now in
    let xs = inside (tree_of c.args.view.now) in
    let x = tree_in c.part_at-item.result in
    let parted : Parted c.loop-i.i c.loop-i.out c.if-i-gt0.out = elim c.if-i-gt0.branch [
      | push_struct-then-i-gt0+in_ok-push-2 w ↦ inr (w.if-i-gt0.true, ap (λ (o : Vec ℕ Global). o.items) w.out-is ∙ w.in_ok-push-2.ensures.items)
      | push_struct-else-i-gt0 w ↦ inl (omega (arith, w.if-i-gt0.false), ap (λ (o : Vec ℕ Global). o.items) w.out-is)
    ] in
    field_on schema c.args.row.now xs c.loop-i.i c.index-row-i.result x c.loop-i.out.items c.if-i-gt0.out.items c.push_part.new.out.items
    (c.args.out.now.items ++ 40 ∷ first_field schema (fields_kinds c.args.row.now) xs) c.if-i-row.true c.index-row-i.is c.part_at-item.ensures parted
    (c.in_ok-push_part.ensures ∙ ap (λ (kind : KindTree). c.if-i-gt0.out.items ++ spell schema kind x) c.node.ensures
    ∙ ap (λ (field : FieldRow). c.if-i-gt0.out.items ++ spell schema field.kind x) (sym c.index-row-i.is)) c.loop-i.invariant

pub push_struct-returns : goal.push_struct-returns
push_struct-returns t c =
    let schema = c.args.schema.now in
    let xs = inside (tree_of c.args.view.now) in
    let ended : (count xs ≤ c.loop-i.i) ⊎ (length c.args.row.now ≤ c.loop-i.i) = elim c.loop-i-test.branch [
      | push_struct-then-loop-i-test+else-i-row w ↦ inr w.if-i-row.false
      | push_struct-else-loop-i-test w ↦ inl (omega (arith, w.loop-i-test.false, c.requires.many))
    ] in
    fields_done schema c.args.row.now xs c.loop-i.i c.loop-i.out.items c.push-2.new.self.items
    (c.args.out.now.items ++ 40 ∷ first_field schema (fields_kinds c.args.row.now) xs) ended c.in_ok-push-3.ensures.items c.loop-i.invariant

-- unions

pub push_union-push_member-requires : goal.push_union-push_member-requires
push_union-push_member-requires t c =
    let union = tree_of c.args.view.now in
    let x = tree_in c.in-Some.part in
    let is = member_is union c.tag_at-tag.result x c.requires c.tag_at-tag.ensures c.in-Some.ensures.value in
    let deep : brackets union ≡ suc (brackets x) = ap brackets is in
    omega (arith, deep)

pub push_union-returns-in-Some : goal.push_union-returns-in-Some
push_union-returns-in-Some t c =
    let union = tree_of c.args.view.now in
    let x = tree_in c.in-Some.part in
    let is = member_is union c.tag_at-tag.result x c.requires c.tag_at-tag.ensures c.in-Some.ensures.value in
    subst (λ (s : List ℕ). OnOk c.push_member.result (c.push_member.new.out.items ≡ c.args.out.now.items ++ s))
    (member_spelled c.args.schema.now (kind_view c.args.kind.now) union c.tag_at-tag.result x is) c.push_member.ensures

pub push_union-returns-in-None : goal.push_union-returns-in-None
push_union-returns-in-None t c =
    let union = tree_of c.args.view.now in
    let is = unknown_is union c.tag_at-tag.result c.requires c.tag_at-tag.ensures c.in-None.ensures.value in
    subst (λ (s : List ℕ). OnOk c.push_unknown.result (c.push_unknown.new.out.items ≡ c.args.out.now.items ++ s))
    (unknown_spelled c.args.schema.now (kind_view c.args.kind.now) union c.tag_at-tag.result is) c.push_unknown.ensures
