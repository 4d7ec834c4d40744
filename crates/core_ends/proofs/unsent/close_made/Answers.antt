use Rattle.std.proofs.Common.{◌≡◌, true, false, refl, subst, sym}
use Rattle.std.specs.Prelude.{◌&&◌, not}
use Rattle.bind_model.specs.Pendings.{is_out}
use Rattle.bind_model.specs.Replies.{same_pending}
use Rattle.bind_model.specs.declared.endpoint.PendingId.{PendingId}
use Rattle.core_state.specs.Routers.{found_at}
use Rattle.core_state.specs.Unsent.{is_received}
use Rattle.core_ends.proofs.Retiring.{row_here, unsent_done}
use Rattle.core_ends.proofs.unsent.close_made.Goals as goal

pub turn-requires : goal.turn-requires
turn-requires c =
    let s = c.args.state.now in
    row_here s c.args.seq c.requires.able c.id-id.result
    (subst (λ (p : PendingId). is_out s.rights.pendings p ≡ true) (sym c.id-id.ensures) c.requires.held)
    (subst (λ (p : PendingId). is_received (found_at s.endpoints p.end p.id) ≡ false) (sym c.id-id.ensures) c.requires.made)

pub returns : goal.returns
returns c =
    let s = c.args.state.now in
    unsent_done s c.args.seq c.requires.able c.id-id.result
    (subst (λ (p : PendingId). is_out s.rights.pendings p ≡ true) (sym c.id-id.ensures) c.requires.held)
    (subst (λ (p : PendingId). is_received (found_at s.endpoints p.end p.id) ≡ false) (sym c.id-id.ensures) c.requires.made)
    _ c.args.pending c.new.result c.new-2.result c.id-id.ensures c.new.ensures c.new-2.ensures refl refl refl refl refl c.turn.ensures
    (subst (λ (p : PendingId). (q : PendingId) → is_out c.spend.new.self q ≡ (is_out s.rights.pendings q && not (same_pending p q)))
    (sym c.id-id.ensures) c.spend.ensures)
    c.push_reserved.ensures.events
