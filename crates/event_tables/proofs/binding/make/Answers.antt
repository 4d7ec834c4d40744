use Rattle.std.proofs.Common.{refl}
use Rattle.bind_model.specs.Machine.{other_side}
use Rattle.bind_model.specs.Pendings.{Half}
use Rattle.bind_model.specs.declared.commands.Command.TheVariants as commands
use Rattle.bind_model.specs.declared.commands.Reply.TheVariants as replies
use Rattle.core_ends.proofs.Pended.{associate_done, few_drawn, main_here, may_enter}
use Rattle.event_tables.specs.AsCore.{state_of}
use Rattle.event_tables.proofs.Stepping.{steps_of}
use Rattle.event_tables.proofs.binding.make.Goals as goal

pub next_id-number-requires : goal.next_id-number-requires
next_id-number-requires c =
    few_drawn (state_of c.args.tables.now) c.args.seq c.requires.able c.args.end c.args.side c.args.interface

pub reserve-requires : goal.reserve-requires
reserve-requires c =
    main_here (state_of c.args.tables.now) c.args.seq c.requires.able c.args.end c.args.side c.args.interface c.requires.told

pub associate-requires : goal.associate-requires
associate-requires c =
    may_enter (state_of c.args.tables.now) c.args.seq c.requires.able c.args.end c.args.side c.args.interface c.reserve.new.self c.reserve.ensures.same
    c.next_id-number.result c.next_id-number.ensures c.in_ok-reserve.ensures.room

pub returns : goal.returns
returns c =
    let s = state_of c.args.tables.now in
    let half : Half = record {
      name = record { end = c.args.end; id = c.next_id-number.result };
      side = other_side c.args.side;
      interface = c.args.interface;
    } in
    steps_of s _ c.args.seq (commands.Associate c.args.end c.args.side c.args.interface) (replies.Associated half)
    (associate_done s c.args.seq c.requires.able c.args.end c.args.side c.args.interface c.requires.told _ c.next_id-number.result
    half c.reserve.new.self c.reserve-2.new.self refl refl refl refl refl c.next_id-number.ensures c.reserve.ensures.same c.associate.ensures
    refl c.reserve-2.ensures.same c.add.ensures.outs c.push_reserved.ensures.events)
