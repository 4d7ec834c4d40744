use Rattle.std.proofs.Common.{ap, sym, ◌∙◌}
use Rattle.bind_model.specs.Pendings.{is_out}
use Rattle.bind_model.specs.declared.endpoint.PendingId.{PendingId}
use Rattle.core_state.specs.Routers.{found_at}
use Rattle.core_state.specs.Unsent.{is_received}
use Rattle.core_ends.proofs.Retiring.{pending_refused}
use Rattle.core_ends.proofs.unsent.close_pending.Goals as goal

pub refuse-requires-clause-why : goal.refuse-requires-clause-why
refuse-requires-clause-why c =
    pending_refused c.args.state.now c.args.seq c.requires.able c.args.pending.name
    (ap (λ (p : PendingId). is_out c.args.state.now.rights.pendings p) (sym c.id-id.ensures) ∙ (sym c.is_out.ensures ∙ c.if-not-is_out.true))

pub close_made-requires-clause-held : goal.close_made-requires-clause-held
close_made-requires-clause-held c =
    ap (λ (p : PendingId). is_out c.args.state.now.rights.pendings p) (sym c.id-id.ensures) ∙ (sym c.is_out.ensures ∙ c.if-not-is_out.false)

pub close_made-requires-clause-made : goal.close_made-requires-clause-made
close_made-requires-clause-made c =
    ap (λ (p : PendingId). is_received (found_at c.args.state.now.endpoints p.end p.id)) (sym c.id-id.ensures)
    ∙ (sym c.is_received.ensures ∙ c.if-is_received.false)
