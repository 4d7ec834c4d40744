use Rattle.std.proofs.Common.{sym, subst}
use Rattle.script_forms.specs.Views.{said_view}
use Rattle.call_script.specs.steps.Commands.{Says}
use Rattle.call_script.proofs.commands.said_command.Goals as goal

pub returns-in-Bind : goal.returns-in-Bind
returns-in-Bind c =
    subst (λ said. Says c.args.indexed.now.schema.now c.args.scope.now (said_view said) c.bind_command.result)
    (sym c.in-Bind.is) c.bind_command.ensures

pub returns-in-Associate : goal.returns-in-Associate
returns-in-Associate c =
    subst (λ said. Says c.args.indexed.now.schema.now c.args.scope.now (said_view said) c.associate_command.result)
    (sym c.in-Associate.is) c.associate_command.ensures

pub returns-in-Attach : goal.returns-in-Attach
returns-in-Attach c =
    subst (λ said. Says c.args.indexed.now.schema.now c.args.scope.now (said_view said) c.attach_command.result)
    (sym c.in-Attach.is) c.attach_command.ensures

pub returns-in-Call : goal.returns-in-Call
returns-in-Call c =
    subst (λ said. Says c.args.indexed.now.schema.now c.args.scope.now (said_view said) c.call_command.result)
    (sym c.in-Call.is) c.call_command.ensures

pub returns-in-Take : goal.returns-in-Take
returns-in-Take c =
    subst (λ said. Says c.args.indexed.now.schema.now c.args.scope.now (said_view said) c.take_command.result)
    (sym c.in-Take.is) c.take_command.ensures

pub returns-in-Answer : goal.returns-in-Answer
returns-in-Answer c =
    subst (λ said. Says c.args.indexed.now.schema.now c.args.scope.now (said_view said) c.answer_command.result)
    (sym c.in-Answer.is) c.answer_command.ensures

pub returns-in-Raw : goal.returns-in-Raw
returns-in-Raw c =
    subst (λ said. Says c.args.indexed.now.schema.now c.args.scope.now (said_view said) c.raw_command.result)
    (sym c.in-Raw.is) c.raw_command.ensures

pub returns-in-CloseToken : goal.returns-in-CloseToken
returns-in-CloseToken c =
    subst (λ said. Says c.args.indexed.now.schema.now c.args.scope.now (said_view said) c.close_command.result)
    (sym c.in-CloseToken.is) c.close_command.ensures

pub returns-in-CloseEndpoint : goal.returns-in-CloseEndpoint
returns-in-CloseEndpoint c =
    subst (λ said. Says c.args.indexed.now.schema.now c.args.scope.now (said_view said) c.close_endpoint_command.result)
    (sym c.in-CloseEndpoint.is) c.close_endpoint_command.ensures

pub returns-in-Notify : goal.returns-in-Notify
returns-in-Notify c =
    subst (λ said. Says c.args.indexed.now.schema.now c.args.scope.now (said_view said) c.notify_command.result)
    (sym c.in-Notify.is) c.notify_command.ensures

pub returns-in-Pause : goal.returns-in-Pause
returns-in-Pause c =
    subst (λ said. Says c.args.indexed.now.schema.now c.args.scope.now (said_view said) c.pause_command.result)
    (sym c.in-Pause.is) c.pause_command.ensures

pub returns-in-Flow : goal.returns-in-Flow
returns-in-Flow c =
    subst (λ said. Says c.args.indexed.now.schema.now c.args.scope.now (said_view said) c.flow_command.result)
    (sym c.in-Flow.is) c.flow_command.ensures
