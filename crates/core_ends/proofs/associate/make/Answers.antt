use Rattle.std.proofs.Common.{◌≡◌, refl, subst}
use Rattle.wire_encoder.specs.declared.endpoint.EndpointSide.{EndpointSide}
use Rattle.core_ends.proofs.Pended.{associate_done, few_drawn, main_here, may_enter}
use Rattle.core_ends.proofs.associate.make.Goals as goal

pub next_id-number-requires : goal.next_id-number-requires
next_id-number-requires c = few_drawn c.args.state.now c.args.seq c.requires.able c.args.end c.args.side c.args.interface

pub reserve-requires : goal.reserve-requires
reserve-requires c = main_here c.args.state.now c.args.seq c.requires.able c.args.end c.args.side c.args.interface c.requires.told

pub associate-requires : goal.associate-requires
associate-requires c =
    may_enter c.args.state.now c.args.seq c.requires.able c.args.end c.args.side c.args.interface c.reserve.new.self c.reserve.ensures.same
    c.next_id-number.result c.next_id-number.ensures c.in_ok-reserve.ensures.room

pub returns-clause-done : goal.returns-clause-done
returns-clause-done c =
    associate_done c.args.state.now c.args.seq c.requires.able c.args.end c.args.side c.args.interface c.requires.told _ c.next_id-number.result
    c.make-pending.result c.reserve.new.self c.reserve-2.new.self refl refl refl refl refl c.next_id-number.ensures c.reserve.ensures.same c.associate.ensures
    (subst (λ (z : EndpointSide). c.make-pending.result
    ≡ record { name = record { end = c.args.end; id = c.next_id-number.result }; side = z; interface = c.args.interface })
    c.other_side.ensures c.make-pending.ensures.made)
    c.reserve-2.ensures.same c.make-pending.ensures.outs c.push_reserved.ensures.events
