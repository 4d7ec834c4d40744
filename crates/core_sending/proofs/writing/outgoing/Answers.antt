use Rattle.std.proofs.Common.{ap, ◌∙◌}
use Rattle.bind_model.specs.declared.asked.Outgoing.{Outgoing}
use Rattle.wire_model.specs.Trees.{Tree}
use Rattle.core_sending.proofs.writing.outgoing.Goals as goal

pub returns : goal.returns
returns c =
    let sent : Tree → Outgoing = λ t. record {
      target = c.args.prepared.now.target;
      parameters = t;
      handles = c.args.names.things;
      pendings = c.args.names.pendings;
      moment = c.args.moment;
    } in
    c.in_ok-outgoing.ensures ∙ ap sent c.in_ok-parameters.ensures
