use Rattle.std.proofs.Common.{◌+◌, ℕ, Bool, List, [], ◌∷◌, ◌++◌, refl, sym, subst, ap, ◌∙◌}
use Rattle.std.specs.Prelude.{◌||◌, Option}
use Rattle.mj_schema.specs.declared.schema.Schema.{Schema}
use Rattle.handle_table.specs.declared.places.Place.TheVariants as places
use Rattle.handle_table.specs.declared.thing.Thing.{Thing}
use Rattle.message_pipe.specs.Contents.{Closes, Contents}
use Rattle.message_pipe.specs.Ends.{end_of, peer_of}
use Rattle.bind_model.specs.Machine.{Entry}
use Rattle.bind_model.specs.WireOf.{wire_of}
use Rattle.bind_model.specs.declared.endpoint.ResponderId.{ResponderId}
use Rattle.bind_model.specs.declared.event.Event.{Event}
use Rattle.bind_model.specs.Pendings.{is_out}
use Rattle.bind_model.specs.Replies.{has_pending, pendings_at}
use Rattle.bind_model.specs.Responders.{count_of}
use Rattle.core_state.specs.Routers.{router_at}
use Rattle.core_state.specs.Emitting.{AreNamed, EmitsTo, controls_at}
use Rattle.core_state.specs.Entries.{AllEnterAt, AreNew, ArePlaced}
use Rattle.core_taking.specs.Founds.{pending_ids}
use Rattle.core_taking.specs.steps.Pending.{halves_from}
use Rattle.core_state.specs.Placing.{PutsAll}
use Rattle.core_taking.specs.Taking.{LieThere}
use Rattle.core_state.specs.Dues.{responder_due, times_in}
use Rattle.core_taking.proofs.Receiving.{as_bringing, bringing_of, got_done, got_lie, got_main, got_named, got_new, got_peer, got_still}
use Rattle.core_state.proofs.Responding.{count_few}
use Rattle.core_state.specs.Agreement.{Holds}
use Rattle.core_state.proofs.Still.{unseen_holds}
use Rattle.core_taking.proofs.receive.receive.Goals as goal

pub make_places-requires : goal.make_places-requires
make_places-requires c = got_main c.args.state.now c.args.seq c.requires.able c.args.end c.args.arrived c.requires.told

pub emit-requires-clause-named : goal.emit-requires-clause-named
emit-requires-clause-named c =
    subst (λ (ids : List ℕ). AreNamed ids) (sym c.as_slice-closed.ensures.value)
    (got_named c.args.state.now c.args.seq c.requires.able c.args.end c.args.arrived c.requires.told)

pub emit-requires-clause-peer : goal.emit-requires-clause-peer
emit-requires-clause-peer c = got_peer c.args.state.now c.args.seq c.requires.able c.args.end c.args.arrived c.requires.told

pub pop_front-front-requires : goal.pop_front-front-requires
pop_front-front-requires c =
    got_still c.args.state.now c.args.seq c.requires.able c.args.end c.args.arrived c.requires.told (bringing_of c.in-Ok-gather.brings)
    (as_bringing c.args.state.now.pipes c.args.end c.args.arrived c.in-Ok-gather.brings c.in-Ok-gather.ensures)
    _ _ c.emit.new.pipes c.in-Ok-emit.ensures.ok

pub hand_out-handles-requires-clause-there : goal.hand_out-handles-requires-clause-there
hand_out-handles-requires-clause-there c =
    subst (λ (ts : List Thing). LieThere c.close.new.self ts) (sym c.as_slice-2.ensures)
    (got_lie c.args.state.now c.args.seq c.requires.able c.args.end c.args.arrived c.requires.told (bringing_of c.in-Ok-gather.brings)
    (as_bringing c.args.state.now.pipes c.args.end c.args.arrived c.in-Ok-gather.brings c.in-Ok-gather.ensures)
    _ _ c.emit.new.pipes c.pop_front-front.new.self c.close.new.self c.in-Ok-emit.ensures.ok c.pop_front-front.ensures.rest
    (subst (λ (ts : List Thing). Closes ts c.pop_front-front.new.self c.close.new.self) c.as_slice.ensures c.close.ensures))

pub make_due-responder-requires-clause-room : goal.make_due-responder-requires-clause-room
make_due-responder-requires-clause-room c = λ r.
    rw (c.make_places.ensures.counts r) (count_few c.args.state.now c.requires.able.holds r)

pub enter_all-requires : goal.enter_all-requires
enter_all-requires c =
    subst (λ (es : List Entry). AreNew (router_at c.make_places.new.endpoints c.args.end) es) (sym c.as_slice-entries.ensures.value)
    (got_new c.args.state.now c.args.seq c.requires.able c.args.end c.args.arrived c.requires.told
    c.make_places.new.endpoints c.make_places.ensures.same
    (subst (λ (es : List Entry). ArePlaced (router_at c.make_places.new.endpoints c.args.end) es) c.as_slice-entries.ensures.value
    c.in-Ok.ensures.places))

pub returns-clause-done : goal.returns-clause-done
returns-clause-done c =
    got_done c.args.state.now c.args.seq c.requires.able c.args.end c.args.arrived c.requires.told (bringing_of c.in-Ok-gather.brings)
    (as_bringing c.args.state.now.pipes c.args.end c.args.arrived c.in-Ok-gather.brings c.in-Ok-gather.ensures)
    _ c.make_due-responder.result c.hand_out-handles.result c.make_pending-pendings.result c.make_places.new.endpoints c.enter_all.new.self
    c.emit.new.pipes c.pop_front-front.new.self c.close.new.self refl refl refl
    (c.hand_out-handles.ensures.handles ∙ c.as_slice-2.ensures)
    (c.make_pending-pendings.ensures.made ∙ ap (λ (es : List Entry). halves_from c.args.end es) c.as_slice-entries.ensures.value)
    (c.push_reserved.ensures.events ∙ ap (λ (event : Event). c.args.state.now.log.events ++ event ∷ []) c.event_of.ensures)
    (c.make_due-responder.ensures.made ∙ (c.responder_due-due.ensures
    ∙ ap (λ (schema : Schema). responder_due (wire_of schema) c.args.end c.args.arrived.id c.args.arrived.target c.args.arrived.request)
    c.deref.ensures))
    (λ q.
    c.make_due-responder.ensures.counts q
    ∙ (ap (λ (n : ℕ). n + times_in c.responder_due-due.result q) (c.make_places.ensures.counts q)
    ∙ ap (λ (o : Option ResponderId). count_of c.args.state.now.rights.responders q + times_in o q) (sym c.make_due-responder.ensures.made)))
    (λ p.
    c.make_pending-pendings.ensures.outs p
    ∙ (ap (λ (es : List Entry). has_pending (pendings_at c.args.end (pending_ids es)) p || is_out c.make_places.new.rights.pendings p)
    c.as_slice-entries.ensures.value
    ∙ ap (λ (b : Bool). has_pending (pendings_at c.args.end (pending_ids c.args.arrived.admitted.entries.items)) p || b)
    (c.make_places.ensures.outs p)))
    c.make_places.ensures.same
    (subst (λ (ids : List ℕ). EmitsTo (peer_of (end_of c.args.state.now.pipes.ends c.args.end)) (controls_at c.make_places.new.endpoints c.args.end ids)
    c.args.state.now.pipes c.emit.new.pipes) c.as_slice-closed.ensures.value c.in-Ok-emit.ensures.ok)
    c.pop_front-front.ensures.rest
    (subst (λ (ts : List Thing). Closes ts c.pop_front-front.new.self c.close.new.self) c.as_slice.ensures c.close.ensures)
    (subst (λ (ts : List Thing). PutsAll ts places.Out c.close.new.self c.hand_out-handles.new.pipes) c.as_slice-2.ensures c.hand_out-handles.ensures.places)
    (subst (λ (es : List Entry). AllEnterAt es c.args.end c.make_places.new.endpoints c.enter_all.new.self) c.as_slice-entries.ensures.value
    c.enter_all.ensures)
    c.note_answered.ensures

pub returns-in_default-clause-undone : goal.returns-in_default-clause-undone
returns-in_default-clause-undone c =
    let s = c.args.state.now in
    record {
      holds = unseen_holds s c.make_places.new.endpoints c.make_places.new.rights
          c.make_places.ensures.same c.make_places.ensures.counts c.make_places.ensures.outs c.requires.able.holds;
      schema = refl;
      seqs = refl;
      events = refl;
      back = refl;
      spent = c.requires.able.few;
    }

pub returns-in_default-gather-clause-undone : goal.returns-in_default-gather-clause-undone
returns-in_default-gather-clause-undone c =
    let s = c.args.state.now in
    record {
      holds = unseen_holds s c.make_places.new.endpoints c.make_places.new.rights
          c.make_places.ensures.same c.make_places.ensures.counts c.make_places.ensures.outs c.requires.able.holds;
      schema = refl;
      seqs = refl;
      events = refl;
      back = refl;
      spent = c.requires.able.few;
    }

pub returns-in_default-emit-clause-undone : goal.returns-in_default-emit-clause-undone
returns-in_default-emit-clause-undone c =
    let s = c.args.state.now in
    record {
      holds =
          subst (λ (pipes : Contents). Holds (record s { pipes = pipes; endpoints = c.make_places.new.endpoints; rights = c.make_places.new.rights }))
          (sym c.in_default-emit.ensures.err)
          (unseen_holds s c.make_places.new.endpoints c.make_places.new.rights
          c.make_places.ensures.same c.make_places.ensures.counts c.make_places.ensures.outs c.requires.able.holds);
      schema = refl;
      seqs = refl;
      events = refl;
      back = refl;
      spent = c.requires.able.few;
    }
