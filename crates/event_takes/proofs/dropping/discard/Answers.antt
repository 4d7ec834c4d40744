use Rattle.std.proofs.Common.{ℕ, List, refl, sym, subst}
use Rattle.handle_table.specs.declared.thing.Thing.{Thing}
use Rattle.message_pipe.specs.Contents.{Closes}
use Rattle.message_pipe.specs.Ends.{end_of, peer_of}
use Rattle.bind_model.specs.Machine.{Entry}
use Rattle.bind_model.specs.declared.commands.Command.TheVariants as commands
use Rattle.bind_model.specs.declared.commands.Reply.TheVariants as replies
use Rattle.core_state.specs.Routers.{router_at}
use Rattle.core_state.specs.Emitting.{AreNamed, EmitsTo, controls_at}
use Rattle.core_state.specs.Entries.{AllEnterAt, AreNew, ArePlaced}
use Rattle.core_taking.proofs.LetGo.{drop_done, drop_main, drop_named, drop_new, drop_peer, drop_there}
use Rattle.event_tables.specs.AsCore.{state_of}
use Rattle.event_tables.proofs.Stepping.{steps_of}
use Rattle.event_takes.proofs.dropping.discard.Goals as goal

pub place_all-requires : goal.place_all-requires
place_all-requires c =
    drop_main (state_of c.args.tables.now) c.args.seq c.requires.able c.args.end c.args.id c.args.admitted c.requires.told c.in_ok-goes.goes
    c.in_ok-goes.ensures

pub emit_all-requires-clause-named : goal.emit_all-requires-clause-named
emit_all-requires-clause-named c =
    subst (λ (ids : List ℕ). AreNamed ids) (sym c.as_slice-closed.ensures.value)
    (drop_named (state_of c.args.tables.now) c.args.seq c.requires.able c.args.end c.args.id c.args.admitted c.requires.told c.in_ok-goes.goes
    c.in_ok-goes.ensures)

pub emit_all-requires-clause-peer : goal.emit_all-requires-clause-peer
emit_all-requires-clause-peer c =
    drop_peer (state_of c.args.tables.now) c.args.seq c.requires.able c.args.end c.args.id c.args.admitted c.requires.told c.in_ok-goes.goes
    c.in_ok-goes.ensures

pub pop_front-front-requires : goal.pop_front-front-requires
pop_front-front-requires c =
    drop_there (state_of c.args.tables.now) c.args.seq c.requires.able c.args.end c.args.id c.args.admitted c.requires.told c.in_ok-goes.goes
    c.in_ok-goes.ensures
    _ _ c.emit_all.new.pipes c.in_ok-emit_all.ensures

pub enter_all-requires : goal.enter_all-requires
enter_all-requires c =
    subst (λ (es : List Entry). AreNew (router_at c.place_all.new.self c.args.end) es) (sym c.as_slice-entries.ensures.value)
    (drop_new (state_of c.args.tables.now) c.args.seq c.requires.able c.args.end c.args.id c.args.admitted c.requires.told c.in_ok-goes.goes
    c.in_ok-goes.ensures
    c.place_all.new.self c.place_all.ensures.same
    (subst (λ (es : List Entry). ArePlaced (router_at c.place_all.new.self c.args.end) es) c.as_slice-entries.ensures.value
    c.in_ok-place_all.ensures.places))

pub returns : goal.returns
returns c =
    steps_of (state_of c.args.tables.now) _ c.args.seq (commands.Take c.args.end) (replies.Dropped c.args.id c.in_ok-goes.goes)
    (drop_done (state_of c.args.tables.now) c.args.seq c.requires.able c.args.end c.args.id c.args.admitted c.requires.told c.in_ok-goes.goes
    c.in_ok-goes.ensures
    _ c.in_ok-goes.goes c.place_all.new.self c.emit_all.new.pipes c.pop_front-front.new.self refl refl refl refl refl c.push_reserved.ensures.events
    c.place_all.ensures.same
    (subst (λ (ids : List ℕ). EmitsTo (peer_of (end_of (state_of c.args.tables.now).pipes.ends c.args.end)) (controls_at c.place_all.new.self c.args.end ids)
    (state_of c.args.tables.now).pipes c.emit_all.new.pipes) c.as_slice-closed.ensures.value c.in_ok-emit_all.ensures)
    c.pop_front-front.ensures.rest
    (subst (λ (ts : List Thing). Closes ts c.pop_front-front.new.self c.close.new.self) c.as_slice.ensures c.close.ensures)
    (subst (λ (es : List Entry). AllEnterAt es c.args.end c.place_all.new.self c.enter_all.new.self) c.as_slice-entries.ensures.value c.enter_all.ensures))
