use Rattle.std.proofs.Common.{List, ap, ◌∙◌}
use Rattle.handle_table.specs.declared.thing.Thing.{Thing}
use Rattle.bind_model.specs.declared.asked.Outgoing.{Outgoing}
use Rattle.bind_model.specs.declared.endpoint.PendingId.{PendingId}
use Rattle.line_parts.proofs.messages.sent_at.Goals as goal

pub returns : goal.returns
returns c =
    let sent : List Thing → List PendingId → Outgoing = λ hs ps. record {
      target = c.args.target;
      parameters = c.args.parameters;
      handles = hs;
      pendings = ps;
      moment = c.args.moment;
    } in
    c.in_ok-sent.ensures
    ∙ (ap (λ (hs : List Thing). sent hs c.from_vec-pendings.result) c.from_vec-handles.ensures
    ∙ ap (sent c.args.tokens.handles.items) c.from_vec-pendings.ensures)
