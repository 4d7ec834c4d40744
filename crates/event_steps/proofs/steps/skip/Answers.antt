use Rattle.std.proofs.Common.{refl}
use Rattle.bind_model.specs.declared.commands.Command.TheVariants as commands
use Rattle.bind_model.specs.declared.commands.Reply.TheVariants as replies
use Rattle.core_state.specs.Agreement.{past_of, wire_in}
use Rattle.core_state.proofs.Held.{finish}
use Rattle.core_state.proofs.Still.{skipped}
use Rattle.event_tables.specs.AsCore.{state_of}
use Rattle.event_tables.proofs.Stepping.{steps_of}
use Rattle.event_steps.proofs.steps.skip.Goals as goal

pub returns : goal.returns
returns c =
    let s = state_of c.args.tables.now in
    steps_of s _ c.args.seq (commands.Skip c.args.line) replies.Skipped
    (finish s _ c.args.seq _ _ c.requires refl refl refl refl
    (record { none = refl; handed = λ wire. refl; after = λ rs. refl; gives = refl; hands = refl; halves = λ wire past. refl })
    refl c.push_reserved.ensures.events refl (skipped (wire_in s) (past_of s) c.args.seq _ s.pipes s.endpoints c.requires.holds.agrees) tt)
