use Rattle.std.proofs.Common.{◌≡◌, Bool, ap, sym, ◌∙◌}
use Rattle.std.specs.Prelude.{◌==◌, ◌&&◌, not}
use Rattle.bind_model.specs.declared.endpoint.ResponderId.{ResponderId}
use Rattle.bind_model.specs.Responders.{count_of}
use Rattle.core_sending.specs.declared.carried.CarriedNames.{CarriedNames}
use Rattle.core_sending.specs.Answering.{way_back}
use Rattle.core_sending.specs.Carrying.{all_own}
use Rattle.core_sending.proofs.Replied.{answer_refused, way_named}
use Rattle.core_sending.proofs.answer.respond.Goals as goal

pub refuse-requires-clause-why : goal.refuse-requires-clause-why
refuse-requires-clause-why c =
    let s = c.args.state.now in
    let r = c.args.response in
    let own : c.in-Ok-is_own.own ≡ (not (count_of s.rights.responders r.responder == 0) && all_own s.pipes s.rights.pendings c.in-Ok.names) =
    c.in-Ok-is_own.ensures
    ∙ ap (λ (q : ResponderId). not (count_of s.rights.responders q == 0) && all_own s.pipes s.rights.pendings c.in-Ok.names) c.id.ensures in
    rw c.into_command-in-Ok-asked.ensures
    (answer_refused s c.args.seq r c.requires c.in-Err.why
    (ap (λ (ns : CarriedNames). way_named s c.args.seq r c.requires ns) (sym c.in-Ok.ensures)
    ∙ (ap (λ (b : Bool). way_back c.args.seq r.responder r.prepared c.in-Ok.names b s.pipes s.tables.flows s.endpoints) (sym own)
    ∙ sym c.in-Err.ensures)))
