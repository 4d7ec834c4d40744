use Rattle.std.proofs.Common.{◌≡◌, ℕ, ◌<◌, ◌≤◌, ◌⊎◌, inl, inr, ◌∷◌, [], ◌++◌, Vec, Global, length, ap, sym, ◌∙◌, arith}
use Rattle.mj_schema.specs.KindTrees.{KindTree, kind_view}
use Rattle.mj_schema.specs.declared.rows.FieldRow.{FieldRow}
use Rattle.wire_model.specs.Trees.{view}
use Rattle.value_text.specs.Spelling.{fields_kinds, spell, first_item, each_text, first_pair, first_field, key_of, value_of}
use Rattle.value_text.proofs.Printed.{trees_in, item_on, items_done, field_on, fields_done, pair_on, pairs_done}
use Rattle.value_text.proofs.printing.+push.Goals.{push_list-then-i-gt0+in_ok-push-2, push_list-else-i-gt0}
use Rattle.value_text.proofs.printing.+push.Goals.{push_map-then-i-gt0+in_ok-push-2, push_map-else-i-gt0, push_map-then-loop-i-test+else-i-values}
use Rattle.value_text.proofs.printing.+push.Goals.{push_map-else-loop-i-test}
use Rattle.value_text.proofs.printing.+push.Goals.{push_struct-then-i-gt0+in_ok-push-2, push_struct-else-i-gt0, push_struct-then-loop-i-test+else-i-row}
use Rattle.value_text.proofs.printing.+push.Goals.{push_struct-else-loop-i-test}
use Rattle.value_text.proofs.printing.+push.Goals as goal

-- what stands before an element: a comma, but for the first
abbrev Parted : ℕ → Vec ℕ Global → Vec ℕ Global → Type 0
Parted i out mid = ((i ≡ 0) × (mid.items ≡ out.items)) ⊎ ((0 < i) × (mid.items ≡ out.items ++ 44 ∷ []))

pub push_list-loop-i-preserved : goal.push_list-loop-i-preserved
push_list-loop-i-preserved t c =
    let k = kind_view c.args.of.now in
    let parted : Parted c.loop-i.i c.loop-i.out c.if-i-gt0.out = elim c.if-i-gt0.branch [
      | push_list-then-i-gt0+in_ok-push-2 w ↦ inr (w.if-i-gt0.true, ap (λ (o : Vec ℕ Global). o.items) w.out-is ∙ w.in_ok-push-2.ensures.items)
      | push_list-else-i-gt0 w ↦ inl (omega (arith, w.if-i-gt0.false), ap (λ (o : Vec ℕ Global). o.items) w.out-is)
    ] in
    item_on c.args.schema.now k c.args.items.now c.loop-i.i c.index-items-i.result c.loop-i.out.items c.if-i-gt0.out.items c.push_value.new.out.items
    (c.args.out.now.items ++ 91 ∷ first_item c.args.schema.now k
    (trees_in c.args.items.now)) c.loop-i-test.true c.index-items-i.is parted c.in_ok-push_value.ensures c.loop-i.invariant

pub push_list-returns : goal.push_list-returns
push_list-returns t c =
    let k = kind_view c.args.of.now in
    items_done c.args.schema.now k c.args.items.now c.loop-i.i c.loop-i.out.items c.push-2.new.self.items
    (c.args.out.now.items ++ 91 ∷ first_item c.args.schema.now k
    (trees_in c.args.items.now)) c.loop-i-test.false c.in_ok-push-3.ensures.items c.loop-i.invariant

pub push_map-loop-i-preserved : goal.push_map-loop-i-preserved
push_map-loop-i-preserved t c =
    let schema = c.args.schema.now in
    let key = key_of (kind_view c.args.kind.now) in
    let one = value_of (kind_view c.args.kind.now) in
    let k = c.index-keys-i.result in
    let v = c.index-values-i.result in
    let parted : Parted c.loop-i.i c.loop-i.out c.if-i-gt0.out = elim c.if-i-gt0.branch [
      | push_map-then-i-gt0+in_ok-push-2 w ↦ inr (w.if-i-gt0.true, ap (λ (o : Vec ℕ Global). o.items) w.out-is ∙ w.in_ok-push-2.ensures.items)
      | push_map-else-i-gt0 w ↦ inl (omega (arith, w.if-i-gt0.false), ap (λ (o : Vec ℕ Global). o.items) w.out-is)
    ] in
    pair_on schema key one c.args.keys.now c.args.values.now c.loop-i.i k v c.loop-i.out.items c.if-i-gt0.out.items
    c.push_value.new.out.items c.push-in-loop-i.new.self.items c.push_value-in-loop-i.new.out.items
    (c.args.out.now.items ++ 123 ∷ first_pair (each_text schema key (trees_in c.args.keys.now)) (each_text schema one (trees_in c.args.values.now)))
    c.loop-i-test.true c.index-keys-i.is c.if-i-values.true c.index-values-i.is parted
    (c.in_ok-push_value.ensures ∙ ap (λ (kind : KindTree). c.if-i-gt0.out.items ++ spell schema kind (view k)) c.key_of.ensures)
    c.in_ok-push-3.ensures.items
    (c.in_ok-push_value-2.ensures ∙ ap (λ (kind : KindTree). c.push-in-loop-i.new.self.items ++ spell schema kind (view v)) c.value_of.ensures)
    c.loop-i.invariant

pub push_map-returns : goal.push_map-returns
push_map-returns t c =
    let schema = c.args.schema.now in
    let key = key_of (kind_view c.args.kind.now) in
    let one = value_of (kind_view c.args.kind.now) in
    let ended : (length c.args.keys.now ≤ c.loop-i.i) ⊎ (length c.args.values.now ≤ c.loop-i.i) = elim c.loop-i-test.branch [
      | push_map-then-loop-i-test+else-i-values w ↦ inr w.if-i-values.false
      | push_map-else-loop-i-test w ↦ inl w.loop-i-test.false
    ] in
    pairs_done schema key one c.args.keys.now c.args.values.now c.loop-i.i c.loop-i.out.items c.push-2.new.self.items
    (c.args.out.now.items ++ 123 ∷ first_pair (each_text schema key (trees_in c.args.keys.now))
    (each_text schema one (trees_in c.args.values.now))) ended c.in_ok-push-4.ensures.items c.loop-i.invariant

pub push_struct-loop-i-preserved : goal.push_struct-loop-i-preserved
push_struct-loop-i-preserved t c =
    let schema = c.args.schema.now in
    let v = c.index-values-i.result in
    let parted : Parted c.loop-i.i c.loop-i.out c.if-i-gt0.out = elim c.if-i-gt0.branch [
      | push_struct-then-i-gt0+in_ok-push-2 w ↦ inr (w.if-i-gt0.true, ap (λ (o : Vec ℕ Global). o.items) w.out-is ∙ w.in_ok-push-2.ensures.items)
      | push_struct-else-i-gt0 w ↦ inl (omega (arith, w.if-i-gt0.false), ap (λ (o : Vec ℕ Global). o.items) w.out-is)
    ] in
    field_on schema c.args.row.now c.args.values.now c.loop-i.i c.index-row-i.result v c.loop-i.out.items c.if-i-gt0.out.items c.push_value.new.out.items
    (c.args.out.now.items ++ 40 ∷ first_field schema (fields_kinds c.args.row.now)
    (trees_in c.args.values.now)) c.if-i-row.true c.index-row-i.is c.loop-i-test.true c.index-values-i.is parted
    (c.in_ok-push_value.ensures ∙ ap (λ (kind : KindTree). c.if-i-gt0.out.items ++ spell schema kind (view v)) c.node.ensures
    ∙ ap (λ (field : FieldRow). c.if-i-gt0.out.items ++ spell schema field.kind (view v)) (sym c.index-row-i.is)) c.loop-i.invariant

pub push_struct-returns : goal.push_struct-returns
push_struct-returns t c =
    let schema = c.args.schema.now in
    let ended : (length c.args.values.now ≤ c.loop-i.i) ⊎ (length c.args.row.now ≤ c.loop-i.i) = elim c.loop-i-test.branch [
      | push_struct-then-loop-i-test+else-i-row w ↦ inr w.if-i-row.false
      | push_struct-else-loop-i-test w ↦ inl w.loop-i-test.false
    ] in
    fields_done schema c.args.row.now c.args.values.now c.loop-i.i c.loop-i.out.items c.push-2.new.self.items
    (c.args.out.now.items ++ 40 ∷ first_field schema (fields_kinds c.args.row.now)
    (trees_in c.args.values.now)) ended c.in_ok-push-3.ensures.items c.loop-i.invariant
