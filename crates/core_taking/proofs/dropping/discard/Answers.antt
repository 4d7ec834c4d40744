use Rattle.std.proofs.Common.{ℕ, List, refl, sym, subst}
use Rattle.handle_table.specs.declared.thing.Thing.{Thing}
use Rattle.message_pipe.specs.Contents.{Closes, Contents}
use Rattle.message_pipe.specs.Ends.{end_of, peer_of}
use Rattle.bind_model.specs.Machine.{Entry}
use Rattle.core_state.specs.Routers.{router_at}
use Rattle.core_state.specs.Emitting.{AreNamed, EmitsTo, controls_at}
use Rattle.core_state.specs.Entries.{AllEnterAt, AreNew, ArePlaced}
use Rattle.core_taking.proofs.LetGo.{drop_done, drop_main, drop_named, drop_new, drop_peer, drop_there}
use Rattle.core_state.specs.Agreement.{Holds}
use Rattle.core_state.proofs.Still.{unseen_holds}
use Rattle.core_taking.proofs.dropping.discard.Goals as goal

pub place_all-requires : goal.place_all-requires
place_all-requires c =
    drop_main c.args.state.now c.args.seq c.requires.able c.args.end c.args.id c.args.admitted c.requires.told c.in-Ok.goes.noted c.in-Ok.ensures.noted

pub emit-requires-clause-named : goal.emit-requires-clause-named
emit-requires-clause-named c =
    subst (λ (ids : List ℕ). AreNamed ids) (sym c.as_slice-closed.ensures.value)
    (drop_named c.args.state.now c.args.seq c.requires.able c.args.end c.args.id c.args.admitted c.requires.told c.in-Ok.goes.noted c.in-Ok.ensures.noted)

pub emit-requires-clause-peer : goal.emit-requires-clause-peer
emit-requires-clause-peer c =
    drop_peer c.args.state.now c.args.seq c.requires.able c.args.end c.args.id c.args.admitted c.requires.told c.in-Ok.goes.noted c.in-Ok.ensures.noted

pub pop_front-front-requires : goal.pop_front-front-requires
pop_front-front-requires c =
    drop_there c.args.state.now c.args.seq c.requires.able c.args.end c.args.id c.args.admitted c.requires.told c.in-Ok.goes.noted c.in-Ok.ensures.noted
    _ _ c.emit.new.pipes c.in-Ok-emit.ensures.ok

pub enter_all-requires : goal.enter_all-requires
enter_all-requires c =
    subst (λ (es : List Entry). AreNew (router_at c.place_all.new.self c.args.end) es) (sym c.as_slice-entries.ensures.value)
    (drop_new c.args.state.now c.args.seq c.requires.able c.args.end c.args.id c.args.admitted c.requires.told c.in-Ok.goes.noted c.in-Ok.ensures.noted
    c.place_all.new.self c.place_all.ensures.same
    (subst (λ (es : List Entry). ArePlaced (router_at c.place_all.new.self c.args.end) es) c.as_slice-entries.ensures.value
    c.in-Ok-place_all.ensures.places))

pub returns-clause-done : goal.returns-clause-done
returns-clause-done c =
    drop_done c.args.state.now c.args.seq c.requires.able c.args.end c.args.id c.args.admitted c.requires.told c.in-Ok.goes.noted c.in-Ok.ensures.noted
    _ c.in-Ok.goes.told c.place_all.new.self c.emit.new.pipes c.pop_front-front.new.self refl refl c.in-Ok.ensures.told refl refl c.push_reserved.ensures.events
    c.place_all.ensures.same
    (subst (λ (ids : List ℕ). EmitsTo (peer_of (end_of c.args.state.now.pipes.ends c.args.end)) (controls_at c.place_all.new.self c.args.end ids)
    c.args.state.now.pipes c.emit.new.pipes) c.as_slice-closed.ensures.value c.in-Ok-emit.ensures.ok)
    c.pop_front-front.ensures.rest
    (subst (λ (ts : List Thing). Closes ts c.pop_front-front.new.self c.close.new.self) c.as_slice.ensures c.close.ensures)
    (subst (λ (es : List Entry). AllEnterAt es c.args.end c.place_all.new.self c.enter_all.new.self) c.as_slice-entries.ensures.value c.enter_all.ensures)

pub returns-in_default-place_all-clause-undone : goal.returns-in_default-place_all-clause-undone
returns-in_default-place_all-clause-undone c =
    let s = c.args.state.now in
    record {
      holds = unseen_holds s c.place_all.new.self s.rights c.place_all.ensures.same (λ r. refl) (λ p. refl) c.requires.able.holds;
      schema = refl;
      seqs = refl;
      events = refl;
      back = refl;
      spent = c.requires.able.few;
    }

pub returns-in_default-emit-clause-undone : goal.returns-in_default-emit-clause-undone
returns-in_default-emit-clause-undone c =
    let s = c.args.state.now in
    record {
      holds =
          subst (λ (pipes : Contents). Holds (record s { pipes = pipes; endpoints = c.place_all.new.self })) (sym c.in_default-emit.ensures.err)
          (unseen_holds s c.place_all.new.self s.rights c.place_all.ensures.same (λ r. refl) (λ p. refl) c.requires.able.holds);
      schema = refl;
      seqs = refl;
      events = refl;
      back = refl;
      spent = c.requires.able.few;
    }
