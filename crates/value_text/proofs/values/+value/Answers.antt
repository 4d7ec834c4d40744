use Rattle.std.proofs.Common.{◌≡◌, ℕ, ◌∷◌, [], ◌++◌, ◌+◌, ◌-◌, List, Ok, Bool, length, map, drop, slice_get, sym, ap, subst, ◌∙◌, arith}
use Rattle.wire_model.specs.declared.value.Value.{Value}
use Rattle.std.proofs.lemmas.Result.{err_from_is_err_and}
use Rattle.mj_schema.specs.KindTrees.{KindTree, kind_view}
use Rattle.std.specs.Prelude.{is_some}
use Rattle.wire_model.specs.Trees.{Tree, view}
use Rattle.byte_rules.specs.Lang.{Read, many, until, rest_of, ◌▸◌}
use Rattle.byte_rules.specs.Reading.{Fails, Gives}
use Rattle.byte_rules.specs.steps.Reading.{gathered, with_front}
use Rattle.byte_rules.proofs.Loops.{halts_ok, done_ok, done_err, goes_on, ends, goes_exactly, ends_exactly, exactly_ok, exactly_err}
use Rattle.byte_rules.proofs.Gathers as gathers
use Rattle.value_text.proofs.PairReads.{none_added, one_added, first_pair, map_ok, map_err}
use Rattle.value_text.specs.Rules.{slot_value, fields, fields_after}
use Rattle.value_text.specs.steps.Reading.{inner, more_of, pair_of, add_pairs}
use Rattle.value_text.proofs.KindReads.{value_null, array_room, array_ok, map_room, pushed, structure_ok, structure_err, field_on, no_field, fields_end, no_end}
use Rattle.value_text.proofs.KindReads.{fields_at, fields_gone, fields_first, rest_is, none_ok, none_err, first_exactly, fails_exactly}
use Rattle.mj_schema.specs.declared.rows.FieldRow.{FieldRow}
use Rattle.value_text.proofs.values.+value.Goals as goal

pub value-returns-then-is_next : goal.value-returns-then-is_next
value-returns-then-is_next t c = rw
    (value_null c.args.schema.now c.args.left c.args.flagged (kind_view c.args.kind.now) c.args.bytes.now (sym c.may_be_null.ensures ∙ c.if-may_be_null.true)
    (sym c.is_next.ensures ∙ c.if-is_next.true)) c.null.ensures

pub array-returns : goal.array-returns
array-returns t c =
    let one = inner c.args.schema.now (c.args.left - 1) (kind_view c.args.of.now) in
    array_room c.args.schema.now c.args.left (kind_view c.args.of.now) c.args.count c.args.bytes.now (omega (arith, c.if-left-eq0.false))
    ∙ array_ok one c.args.count c.args.bytes.now c.in_ok-rest.rest.now c.in_ok-items.rest.now (map view c.in_ok-items.items.items) (view c.list_of.result)
    c.in_ok-rest.ensures c.in_ok-items.ensures c.list_of.ensures

pub more-loop-init : goal.more-loop-init
more-loop-init t c =
    let one = 44 ▸ inner c.args.schema.now c.args.left (kind_view c.args.of.now) in
    let all : length c.args.bytes.now - 0 ≡ length c.args.bytes.now = omega arith in
    ap (λ (n : ℕ). with_front (λ t. t ∷ []) (map view c.args.items.items) ((until 93 n one).read c.args.bytes.now)) all

pub more-returns-then-is_next : goal.more-returns-then-is_next
more-returns-then-is_next t c =
    let one = 44 ▸ inner c.args.schema.now c.args.left (kind_view c.args.of.now) in
    halts_ok (λ t. t ∷ []) 93 one (map view c.loop.items.items) (length c.args.bytes.now) c.loop.counter c.loop.rest.now c.in_ok-rest.rest.now 93
    (with_front (λ t. t ∷ []) (map view c.args.items.items) ((more_of c.args.schema.now c.args.left (kind_view c.args.of.now)).read c.args.bytes.now))
    (sym c.is_next.ensures ∙ c.if-is_next.true) c.in_ok-rest.ensures c.loop.invariant

pub more-returns-in_err-item : goal.more-returns-in_err-item
more-returns-in_err-item t c =
    let one = 44 ▸ inner c.args.schema.now c.args.left (kind_view c.args.of.now) in
    let p = err_from_is_err_and c.from_residual-in_err-item.result c.from_residual-in_err-item.ensures.1 in
    rw (p.1, p.2) (ends (λ t. t ∷ []) 93 one c.in_err-item.field-0.0 (map view c.loop.items.items) (length c.args.bytes.now) c.loop.counter c.loop.rest.now
    (with_front (λ t. t ∷ []) (map view c.args.items.items)
    ((more_of c.args.schema.now c.args.left (kind_view c.args.of.now)).read c.args.bytes.now)) c.loop-test.true
    (sym c.is_next.ensures ∙ c.if-is_next.false) c.in_err-item.ensures c.loop.invariant)

pub more-loop-preserved : goal.more-loop-preserved
more-loop-preserved t c =
    let one = 44 ▸ inner c.args.schema.now c.args.left (kind_view c.args.of.now) in
    rw (pushed view c.loop.items.items c.in_ok-item.item c.push.new.self.items c.in_ok-push.ensures.items)
    (goes_on (λ t. t ∷ []) 93 one (map view c.loop.items.items) (length c.args.bytes.now) c.loop.counter c.loop.rest.now
    (view c.in_ok-item.item) c.in_ok-item.after.now
    (with_front (λ t. t ∷ []) (map view c.args.items.items)
    ((more_of c.args.schema.now c.args.left (kind_view c.args.of.now)).read c.args.bytes.now)) c.loop-test.true
    (sym c.is_next.ensures ∙ c.if-is_next.false) c.in_ok-item.ensures c.loop.invariant)

pub more-returns-in_err-rest-2 : goal.more-returns-in_err-rest-2
more-returns-in_err-rest-2 t c =
    let one = 44 ▸ inner c.args.schema.now c.args.left (kind_view c.args.of.now) in
    let p = err_from_is_err_and c.from_residual-in_err-rest-2.result c.from_residual-in_err-rest-2.ensures.1 in
    rw (p.1, p.2) (done_err (λ t. t ∷ []) 93 one c.in_err-rest-2.field-0.0 (map view c.loop.items.items)
    (length c.args.bytes.now) c.loop.counter c.loop.rest.now
    (with_front (λ t. t ∷ []) (map view c.args.items.items)
    ((more_of c.args.schema.now c.args.left
    (kind_view c.args.of.now)).read c.args.bytes.now)) c.loop-test.false c.in_err-rest-2.ensures c.loop.invariant)

pub more-returns : goal.more-returns
more-returns t c =
    let one = 44 ▸ inner c.args.schema.now c.args.left (kind_view c.args.of.now) in
    done_ok (λ t. t ∷ []) 93 one (map view c.loop.items.items) (length c.args.bytes.now) c.loop.counter c.loop.rest.now c.in_ok-rest-2.rest.now 93
    (with_front (λ t. t ∷ []) (map view c.args.items.items)
    ((more_of c.args.schema.now c.args.left (kind_view c.args.of.now)).read c.args.bytes.now)) c.loop-test.false c.in_ok-rest-2.ensures c.loop.invariant

pub all_fields-returns-in_err-values : goal.all_fields-returns-in_err-values
all_fields-returns-in_err-values t c =
    let p = err_from_is_err_and c.from_residual.result c.from_residual.ensures.1 in
    rw (p.1, p.2) (structure_err (slot_value c.args.schema.now c.args.left)
    (slice_get c.args.schema.now.structs c.args.number) c.in-Some.row.now c.args.bytes.now c.in_err-values.field-0.0 c.in-Some.ensures.found
    (subst (λ (fs : List FieldRow). Fails c.in_err-values.field-0.0
    ((fields (slot_value c.args.schema.now c.args.left) fs).read c.args.bytes.now)) c.as_slice.ensures c.in_err-values.ensures))

pub all_fields-returns : goal.all_fields-returns
all_fields-returns t c = structure_ok (slot_value c.args.schema.now c.args.left)
    (slice_get c.args.schema.now.structs c.args.number) c.in-Some.row.now c.args.bytes.now
    (map view c.in_ok-values.values.items) c.in_ok-values.rest.now c.in-Some.ensures.found
    (subst (λ (fs : List FieldRow). (fields (slot_value c.args.schema.now c.args.left) fs).read c.args.bytes.now ≡ Ok
    (map view c.in_ok-values.values.items, c.in_ok-values.rest.now)) c.as_slice.ensures c.in_ok-values.ensures)
    ∙ ap (λ (t : Tree). Ok (t, c.in_ok-values.rest.now)) (sym c.struct_of.ensures)

pub fields-returns-in_ok-push-in-len1-up : goal.fields-returns-in_ok-push-in-len1-up
fields-returns-in_ok-push-in-len1-up t c =
    let one = pushed view [] c.in_ok-first-in-len1-up.first c.push.new.self.items
    (c.in_ok-push-in-len1-up.ensures.items ∙ ap (λ (vs : List Value). vs ++ c.in_ok-first-in-len1-up.first ∷ []) c.new-values.ensures.items) in
    let eq = fields_first (slot_value c.args.schema.now c.args.left) c.args.row.now c.field-item.result c.has_flag.result
    (kind_view c.node.result.now) c.args.bytes.now c.in_ok-first-in-len1-up.rest.now (view c.in_ok-first-in-len1-up.first)
    (map view c.push.new.self.items) c.in-len1-up.len_at_least c.field-item.is c.has_flag.ensures c.node.ensures c.in_ok-first-in-len1-up.ensures one in
    rw eq (subst (λ (fs : List FieldRow). Gives (λ x. (map view x.0.items, x.1.now)) c.fields_after.result
    (with_front (λ t. t ∷ []) (map view c.push.new.self.items)
    ((fields_after (slot_value c.args.schema.now c.args.left) fs).read c.in_ok-first-in-len1-up.rest.now)))
    (rest_is c.args.row.now) c.fields_after.ensures)

pub fields_after-returns-in_err-value : goal.fields_after-returns-in_err-value
fields_after-returns-in_err-value t c =
    let inside = slot_value c.args.schema.now c.args.left in
    let total = with_front (λ t. t ∷ []) (map view c.args.values.items) ((fields_after inside c.args.row.now).read c.args.bytes.now) in
    let p = err_from_is_err_and c.from_residual.result c.from_residual.ensures.1 in
    let f = c.field-item.result in
    let so_far = subst (λ (fs : List FieldRow). with_front (λ t. t ∷ []) (map view c.loop-field.values.items)
    ((fields_after inside fs).read c.loop-field.rest.now) ≡ total)
    (fields_at c.args.row.now c.loop-field.field-index f c.loop-field-test.true c.field-item.is) c.loop-field.invariant in
    rw (p.1, p.2) (no_field inside c.in_err-value.field-0.0 (map view c.loop-field.values.items) f
    (drop (c.loop-field.field-index + 1) c.args.row.now) c.loop-field.rest.now total
    (subst (λ (k : KindTree). Fails c.in_err-value.field-0.0 ((44 ▸ inside (is_some f.flag) k).read c.loop-field.rest.now)) c.node.ensures
    (subst (λ (b : Bool). Fails c.in_err-value.field-0.0 ((44 ▸ inside b (kind_view c.node.result.now)).read c.loop-field.rest.now))
    c.has_flag.ensures c.in_err-value.ensures)) so_far)

pub fields_after-loop-field-preserved : goal.fields_after-loop-field-preserved
fields_after-loop-field-preserved t c =
    let inside = slot_value c.args.schema.now c.args.left in
    let total = with_front (λ t. t ∷ []) (map view c.args.values.items) ((fields_after inside c.args.row.now).read c.args.bytes.now) in
    let f = c.field-item.result in
    let so_far = subst (λ (fs : List FieldRow). with_front (λ t. t ∷ []) (map view c.loop-field.values.items)
    ((fields_after inside fs).read c.loop-field.rest.now) ≡ total)
    (fields_at c.args.row.now c.loop-field.field-index f c.loop-field-test.true c.field-item.is) c.loop-field.invariant in
    let one = pushed view c.loop-field.values.items c.in_ok-value.value c.push.new.self.items c.in_ok-push.ensures.items in
    rw one (field_on inside (map view c.loop-field.values.items) f
    (drop (c.loop-field.field-index + 1) c.args.row.now) c.loop-field.rest.now c.in_ok-value.after.now (view c.in_ok-value.value) total
    (subst (λ (k : KindTree). (44 ▸ inside (is_some f.flag) k).read c.loop-field.rest.now ≡ Ok
    (view c.in_ok-value.value, c.in_ok-value.after.now)) c.node.ensures
    (subst (λ (b : Bool). (44 ▸ inside b (kind_view c.node.result.now)).read c.loop-field.rest.now ≡ Ok
    (view c.in_ok-value.value, c.in_ok-value.after.now)) c.has_flag.ensures c.in_ok-value.ensures)) so_far)

pub fields_after-returns-in_err-rest : goal.fields_after-returns-in_err-rest
fields_after-returns-in_err-rest t c =
    let inside = slot_value c.args.schema.now c.args.left in
    let total = with_front (λ t. t ∷ []) (map view c.args.values.items) ((fields_after inside c.args.row.now).read c.args.bytes.now) in
    let p = err_from_is_err_and c.from_residual-in_err-rest.result c.from_residual-in_err-rest.ensures.1 in
    let so_far = subst (λ (fs : List FieldRow). with_front (λ t. t ∷ []) (map view c.loop-field.values.items)
    ((fields_after inside fs).read c.loop-field.rest.now) ≡ total)
    (fields_gone c.args.row.now c.loop-field.field-index c.loop-field-test.false) c.loop-field.invariant in
    rw (p.1, p.2) (no_end inside c.in_err-rest.field-0.0 (map view c.loop-field.values.items) c.loop-field.rest.now total c.in_err-rest.ensures so_far)

pub fields_after-returns : goal.fields_after-returns
fields_after-returns t c =
    let inside = slot_value c.args.schema.now c.args.left in
    let total = with_front (λ t. t ∷ []) (map view c.args.values.items) ((fields_after inside c.args.row.now).read c.args.bytes.now) in
    let so_far = subst (λ (fs : List FieldRow). with_front (λ t. t ∷ []) (map view c.loop-field.values.items)
    ((fields_after inside fs).read c.loop-field.rest.now) ≡ total)
    (fields_gone c.args.row.now c.loop-field.field-index c.loop-field-test.false) c.loop-field.invariant in
    fields_end inside (map view c.loop-field.values.items) c.loop-field.rest.now c.in_ok-rest.rest.now total c.in_ok-rest.ensures so_far

pub as_many-returns-in_err-item : goal.as_many-returns-in_err-item
as_many-returns-in_err-item t c =
    let one = inner c.args.schema.now c.args.left (kind_view c.args.of.now) in
    let total = with_front (λ t. t ∷ []) (map view c.args.items.items) ((rest_of 93 c.args.count one).read c.args.bytes.now) in
    let p = err_from_is_err_and c.from_residual.result c.from_residual.ensures.1 in
    rw (p.1, p.2) (ends_exactly (λ t. t ∷ []) 93 one c.in_err-item.field-0.0
    (map view c.loop.items.items) c.args.count c.loop.counter c.loop.rest.now total c.loop-test.true c.in_err-item.ensures c.loop.invariant)

pub as_many-loop-preserved : goal.as_many-loop-preserved
as_many-loop-preserved t c =
    let one = inner c.args.schema.now c.args.left (kind_view c.args.of.now) in
    let total = with_front (λ t. t ∷ []) (map view c.args.items.items) ((rest_of 93 c.args.count one).read c.args.bytes.now) in
    rw (pushed view c.loop.items.items c.in_ok-item.item c.push.new.self.items c.in_ok-push.ensures.items)
    (goes_exactly (λ t. t ∷ []) 93 one (map view c.loop.items.items) c.args.count c.loop.counter c.loop.rest.now
    (view c.in_ok-item.item) c.in_ok-item.after.now total c.loop-test.true c.in_ok-item.ensures c.loop.invariant)

pub as_many-returns-in_err-rest : goal.as_many-returns-in_err-rest
as_many-returns-in_err-rest t c =
    let one = inner c.args.schema.now c.args.left (kind_view c.args.of.now) in
    let total = with_front (λ t. t ∷ []) (map view c.args.items.items) ((rest_of 93 c.args.count one).read c.args.bytes.now) in
    let p = err_from_is_err_and c.from_residual-in_err-rest.result c.from_residual-in_err-rest.ensures.1 in
    rw (p.1, p.2) (exactly_err (λ t. t ∷ []) 93 one c.in_err-rest.field-0.0
    (map view c.loop.items.items) c.args.count c.loop.counter c.loop.rest.now total c.loop-test.false c.in_err-rest.ensures c.loop.invariant)

pub as_many-returns : goal.as_many-returns
as_many-returns t c =
    let one = inner c.args.schema.now c.args.left (kind_view c.args.of.now) in
    let total = with_front (λ t. t ∷ []) (map view c.args.items.items) ((rest_of 93 c.args.count one).read c.args.bytes.now) in
    exactly_ok (λ t. t ∷ []) 93 one
    (map view c.loop.items.items) c.args.count c.loop.counter c.loop.rest.now c.in_ok-rest.rest.now 93 total
    c.loop-test.false c.in_ok-rest.ensures c.loop.invariant

pub pairs-returns : goal.pairs-returns
pairs-returns t c =
    let one = pair_of c.args.schema.now c.args.left (kind_view c.args.key.now) (kind_view c.args.one.now) in
    let first = c.in_ok-first.first in
    let second = c.in_ok-first.second in
    let keys = pushed view [] first c.push.new.self.keys.items (c.in_ok-push.ensures.keys ∙ ap (λ (vs : List Value). vs ++ first ∷ []) c.new.ensures.items) in
    let values =
    pushed view [] second c.push.new.self.values.items (c.in_ok-push.ensures.values ∙ ap (λ (vs : List Value). vs ++ second ∷ []) c.new-2.ensures.items) in
    let stops = sym c.is_next.ensures ∙ c.if-is_next.false in
    let read = first_pair one c.args.bytes.now c.in_ok-first.rest.now (view first, view second) (map view c.push.new.self.keys.items)
    (map view c.push.new.self.values.items) stops c.in_ok-first.ensures keys values in
    subst (λ (r : Read (List Tree × List Tree)). Gives (λ x. ((map view x.0.keys.items, map view x.0.values.items), x.1.now)) c.more_pairs.result r) (sym read)
    c.more_pairs.ensures

pub more_pairs-loop-init : goal.more_pairs-loop-init
more_pairs-loop-init t c =
    let one = 44 ▸ pair_of c.args.schema.now c.args.left (kind_view c.args.key.now) (kind_view c.args.one.now) in
    let front : List Tree × List Tree = (map view c.args.pairs.keys.items, map view c.args.pairs.values.items) in
    let all : length c.args.bytes.now - 0 ≡ length c.args.bytes.now = omega arith in
    ap (λ (n : ℕ). gathered add_pairs front ((until 125 n one).read c.args.bytes.now)) all

pub more_pairs-returns-then-is_next : goal.more_pairs-returns-then-is_next
more_pairs-returns-then-is_next t c =
    let one = 44 ▸ pair_of c.args.schema.now c.args.left (kind_view c.args.key.now) (kind_view c.args.one.now) in
    let total = gathered add_pairs (map view c.args.pairs.keys.items, map view c.args.pairs.values.items) ((many 125 one).read c.args.bytes.now) in
    gathers.halts_ok add_pairs none_added one_added 125 one (map view c.loop.pairs.keys.items, map view c.loop.pairs.values.items)
    (length c.args.bytes.now) c.loop.counter c.loop.rest.now c.in_ok-rest.rest.now 125 total
    (sym c.is_next.ensures ∙ c.if-is_next.true) c.in_ok-rest.ensures c.loop.invariant

pub more_pairs-loop-preserved : goal.more_pairs-loop-preserved
more_pairs-loop-preserved t c =
    let one = 44 ▸ pair_of c.args.schema.now c.args.left (kind_view c.args.key.now) (kind_view c.args.one.now) in
    let total = gathered add_pairs (map view c.args.pairs.keys.items, map view c.args.pairs.values.items) ((many 125 one).read c.args.bytes.now) in
    rw (
      pushed view c.loop.pairs.keys.items c.in_ok-first.first c.push.new.self.keys.items c.in_ok-push.ensures.keys,
      pushed view c.loop.pairs.values.items c.in_ok-first.second c.push.new.self.values.items c.in_ok-push.ensures.values,
    )
    (gathers.goes_on add_pairs none_added one_added 125 one (map view c.loop.pairs.keys.items, map view c.loop.pairs.values.items)
    (length c.args.bytes.now) c.loop.counter c.loop.rest.now
    (view c.in_ok-first.first, view c.in_ok-first.second) c.in_ok-first.after.now total c.loop-test.true
    (sym c.is_next.ensures ∙ c.if-is_next.false) c.in_ok-first.ensures c.loop.invariant)

pub more_pairs-returns-in_err-first : goal.more_pairs-returns-in_err-first
more_pairs-returns-in_err-first t c =
    let one = 44 ▸ pair_of c.args.schema.now c.args.left (kind_view c.args.key.now) (kind_view c.args.one.now) in
    let total = gathered add_pairs (map view c.args.pairs.keys.items, map view c.args.pairs.values.items) ((many 125 one).read c.args.bytes.now) in
    let p = err_from_is_err_and c.from_residual-in_err-first.result c.from_residual-in_err-first.ensures.1 in
    rw (p.1, p.2) (gathers.ends add_pairs none_added one_added 125 one c.in_err-first.field-0.0
    (map view c.loop.pairs.keys.items, map view c.loop.pairs.values.items)
    (length c.args.bytes.now) c.loop.counter c.loop.rest.now total c.loop-test.true
    (sym c.is_next.ensures ∙ c.if-is_next.false) c.in_err-first.ensures c.loop.invariant)

pub more_pairs-returns-in_err-rest-2 : goal.more_pairs-returns-in_err-rest-2
more_pairs-returns-in_err-rest-2 t c =
    let one = 44 ▸ pair_of c.args.schema.now c.args.left (kind_view c.args.key.now) (kind_view c.args.one.now) in
    let total = gathered add_pairs (map view c.args.pairs.keys.items, map view c.args.pairs.values.items) ((many 125 one).read c.args.bytes.now) in
    let p = err_from_is_err_and c.from_residual-in_err-rest-2.result c.from_residual-in_err-rest-2.ensures.1 in
    rw (p.1, p.2) (gathers.done_err add_pairs none_added one_added 125 one c.in_err-rest-2.field-0.0
    (map view c.loop.pairs.keys.items, map view c.loop.pairs.values.items)
    (length c.args.bytes.now) c.loop.counter c.loop.rest.now total c.loop-test.false c.in_err-rest-2.ensures c.loop.invariant)

pub more_pairs-returns : goal.more_pairs-returns
more_pairs-returns t c =
    let one = 44 ▸ pair_of c.args.schema.now c.args.left (kind_view c.args.key.now) (kind_view c.args.one.now) in
    let total = gathered add_pairs (map view c.args.pairs.keys.items, map view c.args.pairs.values.items) ((many 125 one).read c.args.bytes.now) in
    gathers.done_ok add_pairs none_added one_added 125 one (map view c.loop.pairs.keys.items, map view c.loop.pairs.values.items)
    (length c.args.bytes.now) c.loop.counter c.loop.rest.now c.in_ok-rest-2.rest.now 125 total c.loop-test.false c.in_ok-rest-2.ensures c.loop.invariant

pub so_many-returns-in_err-rest : goal.so_many-returns-in_err-rest
so_many-returns-in_err-rest t c =
    let p = err_from_is_err_and c.from_residual.result c.from_residual.ensures.1 in
    rw (p.1, p.2) (none_err c.in_err-rest.field-0.0
    (inner c.args.schema.now c.args.left (kind_view c.args.of.now)) c.args.count c.args.bytes.now c.if-count-eq0.true c.in_err-rest.ensures)

pub so_many-returns-then-count-eq0 : goal.so_many-returns-then-count-eq0
so_many-returns-then-count-eq0 t c =
    none_ok (inner c.args.schema.now c.args.left (kind_view c.args.of.now)) c.args.count c.args.bytes.now c.in_ok-rest.rest.now
    (map view c.new-items.result.items) c.if-count-eq0.true c.in_ok-rest.ensures (ap (map view) c.new-items.ensures.items)

pub so_many-returns-in_err-first : goal.so_many-returns-in_err-first
so_many-returns-in_err-first t c =
    let p = err_from_is_err_and c.from_residual-in_err-first.result c.from_residual-in_err-first.ensures.1 in
    rw (p.1, p.2) (fails_exactly c.in_err-first.field-0.0 (inner c.args.schema.now c.args.left (kind_view c.args.of.now)) c.args.count c.args.bytes.now
    (omega (arith, c.if-count-eq0.false)) c.in_err-first.ensures)

pub so_many-returns : goal.so_many-returns
so_many-returns t c =
    let one = pushed view [] c.in_ok-first.first c.push.new.self.items
    (c.in_ok-push.ensures.items ∙ ap (λ (vs : List Value). vs ++ c.in_ok-first.first ∷ []) c.new-items.ensures.items) in
    rw (first_exactly (inner c.args.schema.now c.args.left (kind_view c.args.of.now)) c.args.count c.args.bytes.now c.in_ok-first.rest.now
    (view c.in_ok-first.first) (map view c.push.new.self.items) (omega (arith, c.if-count-eq0.false)) c.in_ok-first.ensures one) c.as_many.ensures

pub base-returns-in-Map : goal.base-returns-in-Map
base-returns-in-Map t c = rw (c.in-Map.is, sym c.deref-in-Map.ensures, sym c.deref-in-Map-2.ensures) c.dictionary.ensures

pub dictionary-returns-in_err-pairs : goal.dictionary-returns-in_err-pairs
dictionary-returns-in_err-pairs t c =
    let p = err_from_is_err_and c.from_residual-in_err-pairs.result c.from_residual-in_err-pairs.ensures.1 in
    let key = kind_view c.args.key.now in
    let one = kind_view c.args.one.now in
    rw (p.1, p.2, map_room c.args.schema.now c.args.left key one c.args.bytes.now (omega (arith, c.if-left-eq0.false)))
    (map_err c.in_err-pairs.field-0.0
    (pair_of c.args.schema.now (c.args.left - 1) key one) c.args.bytes.now c.in_ok-rest.rest.now c.in_ok-rest.ensures c.in_err-pairs.ensures)

pub dictionary-returns : goal.dictionary-returns
dictionary-returns t c =
    let key = kind_view c.args.key.now in
    let one = kind_view c.args.one.now in
    map_room c.args.schema.now c.args.left key one c.args.bytes.now (omega (arith, c.if-left-eq0.false))
    ∙ map_ok (pair_of c.args.schema.now (c.args.left - 1) key one) c.args.bytes.now c.in_ok-rest.rest.now c.in_ok-pairs.rest.now
    (map view c.in_ok-pairs.pairs.keys.items) (map view c.in_ok-pairs.pairs.values.items) (view c.map_of.result)
    c.in_ok-rest.ensures c.in_ok-pairs.ensures c.map_of.ensures
