use Rattle.std.proofs.Common.{◌≡◌, refl, subst, sym}
use Rattle.std.specs.Prelude.{◌&&◌, not, None}
use Rattle.bind_model.specs.Pendings.{is_out}
use Rattle.bind_model.specs.Replies.{same_pending}
use Rattle.bind_model.specs.declared.endpoint.PendingId.{PendingId}
use Rattle.core_ends.proofs.Pended.{attach_done, may_attach, why_here}
use Rattle.core_ends.proofs.attach.bind.Goals as goal

pub turn-requires : goal.turn-requires
turn-requires c =
    let s = c.args.state.now in
    may_attach s c.args.seq c.requires.able c.id-id.result c.args.on
    (subst (λ (p : PendingId). why_here s c.args.seq c.requires.able p c.args.on ≡ None) (sym c.id-id.ensures) c.requires.free)

pub returns : goal.returns
returns c =
    let s = c.args.state.now in
    attach_done s c.args.seq c.requires.able c.id-id.result c.args.on
    (subst (λ (p : PendingId). why_here s c.args.seq c.requires.able p c.args.on ≡ None) (sym c.id-id.ensures) c.requires.free)
    _ c.args.pending (sym c.id-id.ensures) refl refl refl refl refl c.turn.ensures
    (subst (λ (p : PendingId). (q : PendingId) → is_out c.spend.new.self q ≡ (is_out s.rights.pendings q && not (same_pending p q)))
    (sym c.id-id.ensures) c.spend.ensures)
    c.push_reserved.ensures.events
