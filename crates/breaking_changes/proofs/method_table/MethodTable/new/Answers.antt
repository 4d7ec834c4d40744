use Rattle.std.proofs.Common.{◌≡◌, List, refl, sym, ap, ◌∙◌}
use Rattle.std.specs.Prelude.{◌==◌, None, position}
use Rattle.std.specs.Bool.{nat_eq}
use Rattle.std.specs.HashMap.{get}
use Rattle.std.proofs.lemmas.List.{take_all}
use Rattle.mj_schema.specs.declared.rows.MethodRow.{MethodRow}
use Rattle.breaking_changes.proofs.Places.{method_next, none_placed}
use Rattle.breaking_changes.proofs.method_table.MethodTable.new.Goals as goal

pub loop-place-init : goal.loop-place-init
loop-place-init c = λ q.
    let empty : get nat_eq c.new-places.result q ≡ None = rw c.new-places.ensures.empty refl in
    empty ∙ sym (none_placed (λ (method : MethodRow). method.ordinal == q) c.args.methods.now)

pub loop-place-preserved : goal.loop-place-preserved
loop-place-preserved c = λ q.
    let n = c.in_ok-note.ensures q in
    let i = c.loop-place.invariant q in
    let item = c.index-methods-place.is in
    let m = method_next q c.args.methods.now c.loop-place.place c.index-methods-place.result c.loop-place-test.true in
    cc

pub invariant_of-result : goal.invariant_of-result
invariant_of-result c = λ q.
    c.loop-place.invariant q
    ∙ ap (λ (ms : List MethodRow). position (λ (method : MethodRow). method.ordinal == q) ms)
    (take_all c.loop-place.place c.args.methods.now c.loop-place-test.false)
