use Rattle.std.proofs.Common.{refl, sym}
use Rattle.bind_model.specs.Plain.{asked_of}
use Rattle.bind_model.specs.declared.commands.Reply.TheVariants as replies
use Rattle.core_ends.proofs.Made.{few_made, pipe_done}
use Rattle.event_tables.specs.AsCore.{state_of}
use Rattle.event_tables.proofs.Stepping.{steps_as, steps_of}
use Rattle.event_tables.proofs.making.make.Goals as goal

pub make-requires : goal.make-requires
make-requires c = few_made (state_of c.args.tables.now) c.args.seq c.requires.able

pub returns : goal.returns
returns c = λ command same.
    steps_as _ _ c.args.seq (asked_of command) c.args.asked (sym same)
    (steps_of (state_of c.args.tables.now) _ c.args.seq command (replies.Made c.in_ok-things.things)
    (pipe_done (state_of c.args.tables.now) _ c.args.seq c.requires.able refl refl refl refl c.args.other c.args.asked command
    c.in_ok-things.things c.in_ok-things.things c.in_ok-pipe.pipe.0 c.in_ok-pipe.pipe.1 same c.requires.told refl c.push_reserved.ensures.events
    c.in_ok-things.ensures c.in_ok-things.ensures c.in_ok-pipe.ensures.ok))
