use Rattle.std.proofs.Common.{ap, sym, ◌∙◌}
use Rattle.std.specs.Prelude.{Option}
use Rattle.bind_model.specs.declared.endpoint.ResponderId.{ResponderId}
use Rattle.script_names.specs.Autos.{due_for}
use Rattle.script_names.specs.Settling.{list_of}
use Rattle.event_follow.proofs.settling.due_reply.Goals as goal

pub returns-in-Some : goal.returns-in-Some
returns-in-Some c =
    c.due_to.ensures ∙ sym (ap (λ (o : Option ResponderId). due_for c.args.autos.now c.args.seq (list_of o)) c.in-Some.is)

pub returns-in-None : goal.returns-in-None
returns-in-None c = sym (ap (λ (o : Option ResponderId). due_for c.args.autos.now c.args.seq (list_of o)) c.in-None.is)
