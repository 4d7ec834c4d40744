use Rattle.std.proofs.Common.{ap₂, Bool, false, codes, ◌≡◌, ◌∙◌, ◌||◌}
use Rattle.std.proofs.lemmas.Result.{IfOk-weaker}
use Rattle.clap.specs.Simple.{app_of, with_rule}
use Rattle.clap.specs.declared.builder.command.Command.TheViews.{out-Command}
use Rattle.command_line.specs.Definition.{flag, run_start}
use Rattle.command_line.proofs.definition.run_command.Goals as goal

abbrev either : Bool → Bool → Bool
either a b = a || b

pub returns-clause-app : goal.returns-clause-app
returns-clause-app c =
    let one : app_of c.in_ok-arg.field-0 ≡ with_rule run_start (flag (codes "threads")) =
    c.in_ok-arg.ensures.shape c.flag_arg.ensures.local ∙ ap₂ with_rule c.in_ok-run_start_command.ensures.app c.flag_arg.ensures.rule in
    IfOk-weaker c.arg-2.result _ _ (λ r h. h.shape c.files_arg.ensures.local ∙ ap₂ with_rule one c.files_arg.ensures.rule) c.arg-2.ensures

pub returns-clause-local : goal.returns-clause-local
returns-clause-local c =
    let one : (out-Command c.in_ok-arg.field-0).has_globals ≡ false =
    c.in_ok-arg.ensures.globals ∙ ap₂ either c.in_ok-run_start_command.ensures.local c.flag_arg.ensures.local in
    IfOk-weaker c.arg-2.result _ _ (λ r h. h.globals ∙ ap₂ either one c.files_arg.ensures.local) c.arg-2.ensures
