use Rattle.std.proofs.Common.{ℕ, List, ap, ◌∙◌}
use Rattle.std.specs.Prelude.{position}
use Rattle.compat_model.specs.Verdicts.{is_name}
use Rattle.compat_check.specs.steps.Named.{names_in}
use Rattle.compat_check.proofs.named_schema.partner_of.Goals as goal

pub returns : goal.returns
returns c =
    let named = c.as_str.ensures ∙ c.in_ok-name.ensures in
    c.in_ok-number.ensures
    ∙ (c.place_of-place.ensures
    ∙ (ap (λ (name : List ℕ). position (is_name name) (names_in c.args.new.now c.args.sort)) named
    ∙ ap (position (is_name c.args.name.now)) (c.requires c.args.sort)))
