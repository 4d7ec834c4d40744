use Rattle.std.proofs.Common.{rules, FitsSigned, w32, get_or, pos, ap, ◌∙◌}
use Rattle.std.specs.Prelude.{ℤ}
use Rattle.std.specs.BTreeSet.{insert_key}
use Rattle.std.specs.Ordering.{int_cmp}
use Rattle.std.proofs.lemmas.Int.{to_z-of_z}
use Rattle.breaking_changes.proofs.Sets.{one_more}
use Rattle.breaking_changes.proofs.rising.signed_set.Goals as goal

pub loop-number-preserved : goal.loop-number-preserved
loop-number-preserved c =
    let item = get_or c.args.numbers.now c.loop-number.number-index (pos 0) in
    let fits : FitsSigned w32 item = search rules in
    one_more int_cmp c.args.numbers.now c.loop-number.number-index (pos 0) _ _ c.loop-number-test.true
    (c.in_ok-note_signed.ensures ∙ ap (λ (n : ℤ). insert_key int_cmp c.loop-number.found.keys n) (to_z-of_z w32 item fits)) c.loop-number.invariant
