use Rattle.std.proofs.Common.{true, refl, sym, ◌∙◌}
use Rattle.std.proofs.lemmas.Bool.{lt-ltb}
use Rattle.handle_table.specs.declared.thing.Thing.TheVariants.{End}
use Rattle.bind_model.specs.declared.commands.Command.TheVariants as commands
use Rattle.bind_model.specs.declared.commands.Reply.TheVariants as replies
use Rattle.bind_model.proofs.Fresh.{kept}
use Rattle.core_state.specs.Routers.{router_at}
use Rattle.core_state.specs.Agreement.{past_of, schema_of, wire_in}
use Rattle.core_state.proofs.Facts.{out_unbound}
use Rattle.core_state.proofs.Steady.{found_is}
use Rattle.core_state.proofs.Turned.{no_row}
use Rattle.core_ends.proofs.Binding.{bind_told}
use Rattle.core_ends.proofs.Bound.{bind_done}
use Rattle.event_tables.specs.AsCore.{state_of}
use Rattle.event_tables.proofs.Stepping.{steps_of}
use Rattle.event_tables.proofs.binding.bind_end.Goals as goal

pub enter-requires : goal.enter-requires
enter-requires c =
    let s = state_of c.args.tables.now in
    let h = c.requires.able.holds in
    no_row (router_at s.endpoints c.args.end) 0
    (found_is h.agrees c.args.end 0
    ∙ out_unbound (wire_in s) (past_of s) (kept (wire_in s) s.seqs (past_of s) h.legal) c.args.end 0 c.requires.held)

pub returns : goal.returns
returns c =
    let s = state_of c.args.tables.now in
    steps_of s _ c.args.seq (commands.Bind c.args.thing c.args.side c.args.interface) (replies.Bound c.args.end)
    (bind_done s _ c.args.seq c.requires.able refl refl refl refl c.args.thing c.args.end c.args.side c.args.interface c.requires.end c.requires.held
    (bind_told (schema_of s) s.seqs (past_of s) c.args.seq (End c.args.end) c.args.side c.args.interface true (sym c.requires.held)
    (lt-ltb _ _ c.requires.there))
    c.in_ok-enter.ensures.ok c.put.ensures c.push_reserved.ensures.events)
