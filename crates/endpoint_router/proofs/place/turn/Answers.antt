use Rattle.std.proofs.Common.{◌≡◌, subst, sym}
use Rattle.std.specs.Option.{option_map}
use Rattle.endpoint_router.specs.Rows.{seen_in}
use Rattle.endpoint_router.specs.Turns.{turn_of}
use Rattle.endpoint_router.specs.declared.turns.Turn.{Turn}
use Rattle.endpoint_router.specs.steps.SlotChanges.{MayTurn}
use Rattle.endpoint_router.proofs.place.turn.Goals as goal

pub draw-request-requires-clause-room : goal.draw-request-requires-clause-room
draw-request-requires-clause-room c = (subst (λ (t : Turn). MayTurn c.args.place.now t) c.in-Sent.is c.requires).0

pub draw-request-requires-clause-few : goal.draw-request-requires-clause-few
draw-request-requires-clause-few c = (subst (λ (t : Turn). MayTurn c.args.place.now t) c.in-Sent.is c.requires).1

pub returns-in-Attached : goal.returns-in-Attached
returns-in-Attached c =
    subst (λ (t : Turn). seen_in c.set_state.new.place ≡ option_map (turn_of t) (seen_in c.args.place.now)) (sym c.in-Attached.is) c.set_state.ensures

pub returns-in-Closed : goal.returns-in-Closed
returns-in-Closed c =
    subst (λ (t : Turn). seen_in c.close.new.place ≡ option_map (turn_of t) (seen_in c.args.place.now)) (sym c.in-Closed.is) c.close.ensures

pub returns-in-PeerClosed : goal.returns-in-PeerClosed
returns-in-PeerClosed c =
    subst (λ (t : Turn). seen_in c.mark.new.place ≡ option_map (turn_of t) (seen_in c.args.place.now)) (sym c.in-PeerClosed.is) c.mark.ensures

pub returns-in-Sent : goal.returns-in-Sent
returns-in-Sent c =
    subst (λ (t : Turn). seen_in c.draw-request.new.place ≡ option_map (turn_of t) (seen_in c.args.place.now)) (sym c.in-Sent.is)
    c.draw-request.ensures.row

pub returns-in-Answered : goal.returns-in-Answered
returns-in-Answered c =
    subst (λ (t : Turn). seen_in c.finish.new.place ≡ option_map (turn_of t) (seen_in c.args.place.now)) (sym c.in-Answered.is) c.finish.ensures
