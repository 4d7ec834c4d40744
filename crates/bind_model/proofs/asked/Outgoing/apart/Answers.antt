use Rattle.std.proofs.Common.{List, ap, ◌∙◌}
use Rattle.handle_table.specs.declared.thing.Thing.{Thing}
use Rattle.bind_model.specs.declared.asked.Outgoing.{Outgoing}
use Rattle.bind_model.proofs.asked.Outgoing.apart.Goals as goal

pub returns : goal.returns
returns c =
    let sent : List Thing → Outgoing = λ hs. record {
      target = c.args.target;
      parameters = c.args.parameters;
      handles = hs;
      pendings = c.args.pendings;
      moment = c.args.moment;
    } in
    c.in_ok-apart.ensures ∙ ap sent c.in_ok-handles.ensures
