use Rattle.std.proofs.Common.{rules, ap, ap₂, true, codes, ◌≡◌, ◌∙◌}
use Rattle.std.proofs.lemmas.Result.{IfOk-weaker}
use Rattle.clap.specs.Simple.{App, app_of, app_of_fields, new_app, with_subcommand}
use Rattle.command_line.specs.Definition.{check, encode, two_commands}
use Rattle.command_line.proofs.definition.four_command.Goals as goal

pub returns : goal.returns
returns c =
    let one : app_of c.in_ok-subcommand.field-0 ≡ with_subcommand two_commands check.top = c.in_ok-subcommand.ensures.shape c.in_ok-check_command.ensures.local
    ∙ ap₂ with_subcommand c.in_ok-two_command.ensures.app (ap (λ (a : App). a.top) c.in_ok-check_command.ensures.app) in
    let two = ap₂ with_subcommand one (ap (λ (a : App). a.top) c.in_ok-encode_command.ensures.app) in
    record { app = IfOk-weaker c.subcommand-2.result _ _ (λ tool added. added.shape c.in_ok-encode_command.ensures.local ∙ two) c.subcommand-2.ensures }
