use Rattle.std.proofs.Common.{ap, ◌∙◌}
use Rattle.std.specs.Prelude.{◌==◌, option_and_then, slice_get}
use Rattle.mj_schema.specs.declared.rows.MethodRow.{MethodRow}
use Rattle.breaking_changes.proofs.Places.{at_place}
use Rattle.breaking_changes.proofs.method_table.MethodTable.method_at.Goals as goal

pub returns-in_err-place : goal.returns-in_err-place
returns-in_err-place c =
    let kept = c.in_err-place.ensures.value ∙ c.self.invariant c.args.ordinal in
    let found =
    ap (option_and_then (slice_get c.self.inside.methods.now)) kept
    ∙ at_place (λ (method : MethodRow). method.ordinal == c.args.ordinal) c.self.inside.methods.now in
    let seen = c.self.view_is in
    let made = c.from_residual.ensures in
    cc

pub returns : goal.returns
returns c =
    let kept = c.in_ok-place.ensures.value ∙ c.self.invariant c.args.ordinal in
    let found =
    ap (option_and_then (slice_get c.self.inside.methods.now)) kept
    ∙ at_place (λ (method : MethodRow). method.ordinal == c.args.ordinal) c.self.inside.methods.now in
    let seen = c.self.view_is in
    let got = c.row_at.ensures in
    cc
