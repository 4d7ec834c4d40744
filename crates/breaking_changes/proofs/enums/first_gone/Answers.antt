use Rattle.std.proofs.Common.{rules, FitsSigned, w32, get_or, pos, sym, ap, ◌∙◌}
use Rattle.std.specs.Prelude.{ℤ}
use Rattle.std.proofs.lemmas.Int.{to_z-of_z}
use Rattle.compat_model.specs.Changes.{member_gone}
use Rattle.breaking_changes.proofs.Steps.{found_next, passed_next}
use Rattle.breaking_changes.proofs.enums.first_gone.Goals as goal

pub returns-in-Some : goal.returns-in-Some
returns-in-Some c =
    let item = get_or c.args.numbers.now c.loop-number.number-index (pos 0) in
    let fits : FitsSigned w32 item = search rules in
    found_next (member_gone c.args.newer.now) c.args.numbers.now c.loop-number.number-index (pos 0) _ c.in-Some.change c.loop-number-test.true
    (ap (λ (n : ℤ). member_gone c.args.newer.now n) (sym (to_z-of_z w32 item fits)) ∙ (sym c.member_gone.ensures ∙ c.in-Some.is)) c.loop-number.invariant

pub loop-number-preserved : goal.loop-number-preserved
loop-number-preserved c =
    let item = get_or c.args.numbers.now c.loop-number.number-index (pos 0) in
    let fits : FitsSigned w32 item = search rules in
    passed_next (member_gone c.args.newer.now) c.args.numbers.now c.loop-number.number-index (pos 0) _ c.loop-number-test.true
    (ap (λ (n : ℤ). member_gone c.args.newer.now n) (sym (to_z-of_z w32 item fits)) ∙ (sym c.member_gone.ensures ∙ c.in_default.is)) c.loop-number.invariant
