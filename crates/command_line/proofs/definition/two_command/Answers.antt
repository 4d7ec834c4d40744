use Rattle.std.proofs.Common.{rules, ap, ap₂, true, codes, ◌≡◌, ◌∙◌}
use Rattle.std.proofs.lemmas.Result.{IfOk-weaker}
use Rattle.clap.specs.Simple.{App, app_of, app_of_fields, new_app, with_subcommand}
use Rattle.command_line.specs.Definition.{bare, print, run}
use Rattle.command_line.proofs.definition.two_command.Goals as goal

pub returns : goal.returns
returns c =
    let plain : app_of c.after_help.result ≡ new_app (codes "mojo") = ap app_of_fields c.after_help.ensures
    ∙ (ap app_of_fields c.about.ensures ∙ c.new.ensures.app) in
    let start : app_of c.subcommand_required.result ≡ bare = ap app_of_fields c.subcommand_required.ensures
    ∙ ap (λ (a : App). record a { top = record a.top { subcommand_required = true } }) plain in
    let one : app_of c.in_ok-subcommand.field-0 ≡ with_subcommand bare run.top = c.in_ok-subcommand.ensures.shape c.in_ok-run_command.ensures.local
    ∙ ap₂ with_subcommand start (ap (λ (a : App). a.top) c.in_ok-run_command.ensures.app) in
    let two = ap₂ with_subcommand one (ap (λ (a : App). a.top) c.in_ok-print_command.ensures.app) in
    record { app = IfOk-weaker c.subcommand-2.result _ _ (λ tool added. added.shape c.in_ok-print_command.ensures.local ∙ two) c.subcommand-2.ensures }
