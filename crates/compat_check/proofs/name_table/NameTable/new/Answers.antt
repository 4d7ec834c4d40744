use Rattle.std.proofs.Common.{◌≡◌, ℕ, List, refl, sym, ap, ◌∙◌}
use Rattle.std.specs.Prelude.{Option, None, position}
use Rattle.indexmap.specs.IndexMap.{get_by_text}
use Rattle.std.proofs.lemmas.List.{take_all}
use Rattle.compat_model.specs.Verdicts.{is_name}
use Rattle.breaking_changes.proofs.Places.{none_placed}
use Rattle.compat_check.proofs.Noted.{name_next}
use Rattle.compat_check.proofs.name_table.NameTable.new.Goals as goal

pub loop-number-init : goal.loop-number-init
loop-number-init c = λ q.
    let empty : get_by_text c.new-numbers.result q ≡ None = rw c.new-numbers.ensures.empty refl in
    empty ∙ sym (none_placed (is_name q) c.args.names)

pub loop-number-preserved : goal.loop-number-preserved
loop-number-preserved c = λ q.
    let n = c.in_ok-note_known.ensures q in
    let i = c.loop-number.invariant q in
    let all = c.as_slice-name-items.ensures in
    let item = c.name-item.is in
    let m = name_next q c.args.names c.loop-number.number c.name-item.result (rw all at c.loop-number-test.true) in
    cc

pub invariant_of-result : goal.invariant_of-result
invariant_of-result c = λ q.
    let all = c.as_slice-name-items.ensures in
    c.loop-number.invariant q
    ∙ ap (λ (names : List (Option (List ℕ))). position (is_name q) names)
    (take_all c.loop-number.number c.args.names (rw all at c.loop-number-test.false))
