use Rattle.std.proofs.Common.{subst, sym}
use Rattle.std.specs.Prelude.{true}
use Rattle.endpoint_router.specs.Turns.{CanTurn, TurnsIf, turn_of}
use Rattle.endpoint_router.specs.declared.turns.Turn.{Turn}
use Rattle.endpoint_router.proofs.turns.turn_one.Goals as goal

pub attach-requires : goal.attach-requires
attach-requires c = subst (λ (t : Turn). CanTurn c.args.router.now c.args.id t) c.in-Attached.is c.requires

pub detach-requires : goal.detach-requires
detach-requires c = subst (λ (t : Turn). CanTurn c.args.router.now c.args.id t) c.in-Closed.is c.requires

pub peer_closed-requires : goal.peer_closed-requires
peer_closed-requires c = subst (λ (t : Turn). CanTurn c.args.router.now c.args.id t) c.in-PeerClosed.is c.requires

pub draw-request-requires-clause-bound : goal.draw-request-requires-clause-bound
draw-request-requires-clause-bound c = (subst (λ (t : Turn). CanTurn c.args.router.now c.args.id t) c.in-Sent.is c.requires).bound

pub draw-request-requires-clause-few : goal.draw-request-requires-clause-few
draw-request-requires-clause-few c = (subst (λ (t : Turn). CanTurn c.args.router.now c.args.id t) c.in-Sent.is c.requires).few

pub draw-request-requires-clause-room : goal.draw-request-requires-clause-room
draw-request-requires-clause-room c = (subst (λ (t : Turn). CanTurn c.args.router.now c.args.id t) c.in-Sent.is c.requires).room

pub returns-in-Attached : goal.returns-in-Attached
returns-in-Attached c =
    subst (λ (t : Turn). TurnsIf (turn_of t) c.args.id true c.args.router.now c.attach.new.self) (sym c.in-Attached.is)
    (record { rows = c.attach.ensures.rows; drawn = c.attach.ensures.rest.drawn })

pub returns-in-Closed : goal.returns-in-Closed
returns-in-Closed c =
    subst (λ (t : Turn). TurnsIf (turn_of t) c.args.id true c.args.router.now c.detach.new.self) (sym c.in-Closed.is)
    (record { rows = c.detach.ensures.rows; drawn = c.detach.ensures.rest.drawn })

pub returns-in-PeerClosed : goal.returns-in-PeerClosed
returns-in-PeerClosed c =
    subst (λ (t : Turn). TurnsIf (turn_of t) c.args.id true c.args.router.now c.peer_closed.new.self) (sym c.in-PeerClosed.is)
    (record { rows = c.peer_closed.ensures.rows; drawn = c.peer_closed.ensures.rest.drawn })

pub returns-in-Sent : goal.returns-in-Sent
returns-in-Sent c =
    subst (λ (t : Turn). TurnsIf (turn_of t) c.args.id true c.args.router.now c.draw-request.new.self) (sym c.in-Sent.is)
    (record { rows = c.draw-request.ensures.rows; drawn = c.draw-request.ensures.rest.drawn })

pub returns-in-Answered : goal.returns-in-Answered
returns-in-Answered c =
    subst (λ (t : Turn). TurnsIf (turn_of t) c.args.id true c.args.router.now c.end_request.new.self) (sym c.in-Answered.is)
    (record { rows = c.end_request.ensures.rows; drawn = c.end_request.ensures.rest.drawn })
