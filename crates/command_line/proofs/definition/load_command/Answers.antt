use Rattle.std.proofs.Common.{rules, ap, ap₂, Bool, false, codes, ◌≡◌, ◌∙◌, ◌||◌}
use Rattle.std.proofs.lemmas.Result.{IfOk-weaker}
use Rattle.clap.specs.Simple.{App, app_of, app_of_fields, new_app, with_rule}
use Rattle.clap.specs.declared.builder.command.Command.TheViews.{out-Command}
use Rattle.command_line.specs.Definition.{option}
use Rattle.command_line.proofs.definition.load_command.Goals as goal

abbrev either : Bool → Bool → Bool
either a b = a || b

pub returns-clause-app : goal.returns-clause-app
returns-clause-app c =
    let start : app_of c.about.result ≡ new_app (codes "load") = ap app_of_fields c.about.ensures ∙ c.new.ensures.app in
    let one : app_of c.in_ok-arg.field-0 ≡ with_rule (new_app (codes "load")) (option (codes "seed")) =
    c.in_ok-arg.ensures.shape c.option_arg.ensures.local ∙ ap₂ with_rule start c.option_arg.ensures.rule in
    IfOk-weaker c.arg-2.result _ _ (λ r h. h.shape c.option_arg-2.ensures.local ∙ ap₂ with_rule one c.option_arg-2.ensures.rule) c.arg-2.ensures

pub returns-clause-local : goal.returns-clause-local
returns-clause-local c =
    let start : (out-Command c.about.result).has_globals ≡ false = search rules in
    let one : (out-Command c.in_ok-arg.field-0).has_globals ≡ false = c.in_ok-arg.ensures.globals ∙ ap₂ either start c.option_arg.ensures.local in
    IfOk-weaker c.arg-2.result _ _ (λ r h. h.globals ∙ ap₂ either one c.option_arg-2.ensures.local) c.arg-2.ensures
