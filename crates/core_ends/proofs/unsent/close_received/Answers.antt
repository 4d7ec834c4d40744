use Rattle.std.proofs.Common.{◌≡◌, true, refl, subst, sym}
use Rattle.std.specs.Prelude.{◌&&◌, not}
use Rattle.bind_model.specs.Pendings.{is_out}
use Rattle.bind_model.specs.Replies.{same_pending}
use Rattle.bind_model.specs.declared.endpoint.PendingId.{PendingId}
use Rattle.core_state.specs.Routers.{found_at}
use Rattle.core_state.specs.Unsent.{is_received}
use Rattle.core_ends.proofs.Unbinding.{close_row, received_done, tell_named, tell_peer_there}
use Rattle.core_ends.proofs.unsent.close_received.Goals as goal

pub tell_peer-requires-clause-named : goal.tell_peer-requires-clause-named
tell_peer-requires-clause-named c =
    let s = c.args.state.now in
    tell_named s c.args.seq c.requires.able c.id-id.result
    (subst (λ (p : PendingId). is_out s.rights.pendings p ≡ true) (sym c.id-id.ensures) c.requires.held)
    (subst (λ (p : PendingId). is_received (found_at s.endpoints p.end p.id) ≡ true) (sym c.id-id.ensures) c.requires.received)

pub tell_peer-requires-clause-peer : goal.tell_peer-requires-clause-peer
tell_peer-requires-clause-peer c =
    let s = c.args.state.now in
    tell_peer_there s c.args.seq c.requires.able c.id-id.result
    (subst (λ (p : PendingId). is_out s.rights.pendings p ≡ true) (sym c.id-id.ensures) c.requires.held)
    (subst (λ (p : PendingId). is_received (found_at s.endpoints p.end p.id) ≡ true) (sym c.id-id.ensures) c.requires.received)

pub turn-requires : goal.turn-requires
turn-requires c =
    let s = c.args.state.now in
    close_row s c.args.seq c.requires.able c.id-id.result
    (subst (λ (p : PendingId). is_out s.rights.pendings p ≡ true) (sym c.id-id.ensures) c.requires.held)
    (subst (λ (p : PendingId). is_received (found_at s.endpoints p.end p.id) ≡ true) (sym c.id-id.ensures) c.requires.received)

pub returns-clause-done : goal.returns-clause-done
returns-clause-done c =
    let s = c.args.state.now in
    received_done s c.args.seq c.requires.able c.id-id.result
    (subst (λ (p : PendingId). is_out s.rights.pendings p ≡ true) (sym c.id-id.ensures) c.requires.held)
    (subst (λ (p : PendingId). is_received (found_at s.endpoints p.end p.id) ≡ true) (sym c.id-id.ensures) c.requires.received)
    _ c.args.pending c.new.result c.new-2.result c.id-id.ensures c.new.ensures c.new-2.ensures refl refl refl refl
    c.in-Ok.ensures.ok c.turn.ensures
    (subst (λ (p : PendingId). (q : PendingId) → is_out c.spend.new.self q ≡ (is_out s.rights.pendings q && not (same_pending p q)))
    (sym c.id-id.ensures) c.spend.ensures)
    c.push_reserved.ensures.events
