use Rattle.std.proofs.Common.{Bool, ap, sym, ◌∙◌}
use Rattle.bind_model.specs.Plain.{asked_of}
use Rattle.bind_model.specs.declared.asked.Asked.TheVariants as asks
use Rattle.core_sending.specs.declared.carried.CarriedNames.{CarriedNames}
use Rattle.core_sending.specs.Calls.{outgoing_named}
use Rattle.core_sending.specs.Fitting.{way}
use Rattle.core_sending.proofs.Called.{call_refused, way_named}
use Rattle.core_sending.proofs.call.request_from.Goals as goal

pub refuse-requires-clause-asked : goal.refuse-requires-clause-asked
refuse-requires-clause-asked c =
    let r = c.args.request in
    c.in-Ok-asked.ensures
    ∙ (ap (λ (ns : CarriedNames). asks.Call r.end r.id (outgoing_named r.prepared ns r.moment)) c.in-Ok.ensures
    ∙ sym (ap asked_of c.into_command-in-Ok-asked.ensures))

pub refuse-requires-clause-why : goal.refuse-requires-clause-why
refuse-requires-clause-why c =
    let s = c.args.state.now in
    let r = c.args.request in
    rw c.into_command-in-Ok-asked.ensures
    (call_refused s c.args.seq r c.requires c.in-Err.why
    (ap (λ (ns : CarriedNames). way_named s c.args.seq r c.requires ns) (sym c.in-Ok.ensures)
    ∙ (ap (λ (b : Bool). way c.args.seq r.end r.id r.prepared c.in-Ok.names b s.pipes s.tables.flows s.endpoints) (sym c.in-Ok-all_own.ensures)
    ∙ sym c.in-Err.ensures)))

pub send-requires-clause-free : goal.send-requires-clause-free
send-requires-clause-free c =
    let s = c.args.state.now in
    let r = c.args.request in
    ap (λ (ns : CarriedNames). way_named s c.args.seq r c.requires ns) (sym c.in-Ok.ensures)
    ∙ (ap (λ (b : Bool). way c.args.seq r.end r.id r.prepared c.in-Ok.names b s.pipes s.tables.flows s.endpoints) (sym c.in-Ok-all_own.ensures)
    ∙ sym c.in-Ok-way.ensures)
