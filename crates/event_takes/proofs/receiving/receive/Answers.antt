use Rattle.std.proofs.Common.{◌+◌, ℕ, Bool, List, [], ◌∷◌, ◌++◌, refl, sym, subst, ap, ◌∙◌}
use Rattle.std.specs.Prelude.{◌||◌}
use Rattle.mj_schema.specs.declared.schema.Schema.{Schema}
use Rattle.handle_table.specs.declared.places.Place.TheVariants as places
use Rattle.handle_table.specs.declared.thing.Thing.{Thing}
use Rattle.message_pipe.specs.Contents.{Closes}
use Rattle.message_pipe.specs.Ends.{end_of, peer_of}
use Rattle.bind_model.specs.Machine.{Entry}
use Rattle.bind_model.specs.WireOf.{wire_of}
use Rattle.bind_model.specs.declared.commands.Command.TheVariants as commands
use Rattle.bind_model.specs.declared.commands.Reply.TheVariants as replies
use Rattle.bind_model.specs.declared.event.Event.{Event}
use Rattle.bind_model.specs.Pendings.{is_out}
use Rattle.bind_model.specs.Replies.{has_pending, pendings_at}
use Rattle.core_state.specs.Routers.{router_at}
use Rattle.core_state.specs.Emitting.{AreNamed, EmitsTo, controls_at}
use Rattle.core_state.specs.Entries.{AllEnterAt, AreNew, ArePlaced}
use Rattle.core_taking.specs.Founds.{pending_ids}
use Rattle.core_taking.specs.steps.Pending.{halves_from}
use Rattle.core_state.specs.Placing.{PutsAll}
use Rattle.core_taking.specs.Taking.{Bringing}
use Rattle.core_state.specs.Dues.{responder_due, times_in}
use Rattle.core_taking.proofs.Receiving.{got_done, got_main, got_named, got_new, got_peer, got_still, received}
use Rattle.core_state.proofs.Responding.{count_few}
use Rattle.event_tables.specs.AsCore.{state_of}
use Rattle.event_tables.proofs.Stepping.{steps_of}
use Rattle.event_takes.proofs.receiving.receive.Goals as goal

pub make_places-requires : goal.make_places-requires
make_places-requires c = got_main (state_of c.args.tables.now) c.args.seq c.requires.able c.args.end c.args.arrived c.requires.told

pub emit_all-requires-clause-named : goal.emit_all-requires-clause-named
emit_all-requires-clause-named c =
    subst (λ (ids : List ℕ). AreNamed ids) (sym c.as_slice-closed.ensures.value)
    (got_named (state_of c.args.tables.now) c.args.seq c.requires.able c.args.end c.args.arrived c.requires.told)

pub emit_all-requires-clause-peer : goal.emit_all-requires-clause-peer
emit_all-requires-clause-peer c = got_peer (state_of c.args.tables.now) c.args.seq c.requires.able c.args.end c.args.arrived c.requires.told

pub pop_front-front-requires : goal.pop_front-front-requires
pop_front-front-requires c =
    let found = c.in_ok-found.found in
    let b : Bringing = record { noted = found.noted; things = c.args.arrived.named; gone = found.gone } in
    got_still (state_of c.args.tables.now) c.args.seq c.requires.able c.args.end c.args.arrived c.requires.told b c.in_ok-found.ensures
    _ _ c.emit_all.new.pipes c.in_ok-emit_all.ensures

pub add_due-requires-clause-room : goal.add_due-requires-clause-room
add_due-requires-clause-room c = λ r.
    rw (c.make_places.ensures.counts r) (count_few (state_of c.args.tables.now) c.requires.able.holds r)

pub enter_all-requires : goal.enter_all-requires
enter_all-requires c =
    subst (λ (es : List Entry). AreNew (router_at c.make_places.new.endpoints c.args.end) es) (sym c.as_slice-entries.ensures.value)
    (got_new (state_of c.args.tables.now) c.args.seq c.requires.able c.args.end c.args.arrived c.requires.told
    c.make_places.new.endpoints c.make_places.ensures.same
    (subst (λ (es : List Entry). ArePlaced (router_at c.make_places.new.endpoints c.args.end) es) c.as_slice-entries.ensures.value
    c.in_ok-make_places.ensures.places))

pub returns : goal.returns
returns c =
    let s = state_of c.args.tables.now in
    let a = c.args.arrived in
    let found = c.in_ok-found.found in
    let b : Bringing = record { noted = found.noted; things = a.named; gone = found.gone } in
    let due = c.responder_due-due.result in
    let halves = halves_from c.args.end a.admitted.entries.items in
    steps_of s _ c.args.seq (commands.Take c.args.end)
    (replies.Got (received s c.args.seq c.requires.able c.args.end a c.requires.told b c.in_ok-found.ensures due a.named halves))
    (got_done s c.args.seq c.requires.able c.args.end a c.requires.told b c.in_ok-found.ensures
    _ due a.named halves c.make_places.new.endpoints c.enter_all.new.self
    c.emit_all.new.pipes c.pop_front-front.new.self c.close.new.self refl refl refl refl refl
    (c.push_reserved.ensures.events ∙ ap (λ (event : Event). s.log.events ++ event ∷ []) c.event_of.ensures)
    (c.responder_due-due.ensures ∙ ap (λ (schema : Schema). responder_due (wire_of schema) c.args.end a.id a.target a.request) c.deref.ensures)
    (λ q. c.add_due.ensures q ∙ ap (λ (n : ℕ). n + times_in due q) (c.make_places.ensures.counts q))
    (λ p.
    c.add_pending.ensures p
    ∙ (ap (λ (es : List Entry). has_pending (pendings_at c.args.end (pending_ids es)) p || is_out c.make_places.new.pendings p)
    c.as_slice-entries.ensures.value
    ∙ ap (λ (o : Bool). has_pending (pendings_at c.args.end (pending_ids a.admitted.entries.items)) p || o) (c.make_places.ensures.outs p)))
    c.make_places.ensures.same
    (subst (λ (ids : List ℕ). EmitsTo (peer_of (end_of s.pipes.ends c.args.end)) (controls_at c.make_places.new.endpoints c.args.end ids)
    s.pipes c.emit_all.new.pipes) c.as_slice-closed.ensures.value c.in_ok-emit_all.ensures)
    c.pop_front-front.ensures.rest
    (subst (λ (ts : List Thing). Closes ts c.pop_front-front.new.self c.close.new.self) c.as_slice.ensures c.close.ensures)
    (subst (λ (ts : List Thing). PutsAll ts places.Out c.close.new.self c.put_all.new.pipes) c.as_slice-2.ensures c.put_all.ensures)
    (subst (λ (es : List Entry). AllEnterAt es c.args.end c.make_places.new.endpoints c.enter_all.new.self) c.as_slice-entries.ensures.value
    c.enter_all.ensures)
    c.note_answered.ensures)
