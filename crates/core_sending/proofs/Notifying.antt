-- That a notice is refused or written, by its way.
use Rattle.std.proofs.Common.{◌≡◌, ◌<◌, ℕ, Bool, true, false, List, [], ◌∷◌, ◌++◌, length, refl, sym, ap, ◌∙◌, subst, arith}
use Rattle.std.specs.Prelude.{◌+◌, ◌&&◌, ◌||◌, not, Option, Some, None, Result, Ok, Err, is_some}
use Rattle.std.proofs.lemmas.List.{length-reverse}
use Rattle.mj_base.specs.declared.limits.TheConstants.{MAX_EVENTS, MAX_UNREAD_MESSAGES}
use Rattle.mj_base.specs.declared.ids.EndId.{EndId}
use Rattle.mj_base.specs.declared.ids.SeqId.{SeqId}
use Rattle.mj_schema.specs.declared.schema.Schema.{Schema}
use Rattle.handle_table.specs.Things.{has}
use Rattle.handle_table.specs.declared.places.Place.{Place}
use Rattle.handle_table.specs.declared.places.Place.TheVariants as places
use Rattle.handle_table.specs.declared.thing.Thing.TheVariants.{End}
use Rattle.message_pipe.specs.Contents.{Becomes, Contents}
use Rattle.message_pipe.specs.Ends.{end_of, is_closed, peer_of, unread_at, with_message}
use Rattle.message_pipe.specs.Mail.{weighs}
use Rattle.message_pipe.specs.declared.message.Message.{Message}
use Rattle.message_pipe.specs.declared.pipe_end.PipeEnd.{PipeEnd}
use Rattle.wire_model.specs.HeaderMarks.{CONTROL_ID}
use Rattle.control_bytes.specs.Controls.{HasNumber, written_control}
use Rattle.control_bytes.specs.declared.control.Control.{Control}
use Rattle.bind_model.specs.Machine.{control_of, endpoint_at, is_gone, made, peer}
use Rattle.bind_model.specs.Notices.{flushed}
use Rattle.bind_model.specs.Replies.{cannot_write, first_of, from_id, is_flush, is_receiver, notified, told_of, unless}
use Rattle.bind_model.specs.Wire.{Wire}
use Rattle.bind_model.specs.WireOf.{wire_of}
use Rattle.bind_model.specs.declared.asked.Asked.TheVariants as asks
use Rattle.bind_model.specs.declared.asked.Notice.{Notice}
use Rattle.bind_model.specs.declared.asked.Notice.TheVariants.{Query, Require, Flush}
use Rattle.bind_model.specs.declared.commands.Command.TheVariants as commands
use Rattle.bind_model.specs.declared.commands.Reply.TheVariants as replies
use Rattle.bind_model.specs.declared.endpoint.Endpoint.{Endpoint}
use Rattle.bind_model.specs.declared.event.Event.{Event}
use Rattle.bind_model.specs.declared.told.Notified.{Notified}
use Rattle.bind_model.specs.declared.told.Told.{Told}
use Rattle.bind_model.specs.declared.told.Told.TheVariants as tells
use Rattle.bind_model.specs.declared.told.Why.{Why}
use Rattle.bind_model.specs.declared.told.Why.TheVariants.{WrongSide}
use Rattle.bind_model.proofs.Fresh.{kept}
use Rattle.bind_model.proofs.Kept.{Kept, bound_made}
use Rattle.bind_model.proofs.Outcomes.{Open, Outcome, Writes, notifies, outcome}
use Rattle.end_notices.specs.Seen.{with_notice}
use Rattle.end_notices.specs.Table.{AllSame, BecomesAt, Lines, notices_at}
use Rattle.end_notices.proofs.Few.{few_flushes, few_queries}
use Rattle.end_notices.proofs.Quieting.{all_notified, becomes_after}
use Rattle.core_state.specs.Agreement.{Agrees, Holds, past_of, schema_of, wire_in}
use Rattle.core_state.proofs.Tabled.{tables_noted}
use Rattle.core_state.specs.Doing.{CanDo, Done, told_in}
use Rattle.core_state.specs.Opens.{opened}
use Rattle.core_state.specs.Placing.{PutsAll}
use Rattle.core_state.specs.Routers.{Routers, found_at}
use Rattle.core_state.specs.declared.state.State.{State}
use Rattle.core_sending.specs.steps.Notifying.{notice_at, notice_from, notice_way}
use Rattle.core_sending.specs.Ways.{way_to}
use Rattle.core_state.proofs.Facts.{closed_is, peer_is}
use Rattle.core_state.proofs.Held.{event_of, finish_noting}
use Rattle.core_state.proofs.Named.{ids_below}
use Rattle.core_state.proofs.Opening.{opened_tests, told_of_opened}
use Rattle.core_state.proofs.Steady.{found_is, steady}
use Rattle.core_sending.proofs.Fitted.{last_to, passed, test_if, to_is, to_room, told_of_way}
use Rattle.core_sending.proofs.Sending.{IsWriting, sent_agrees}

-- the bytes of a control on a schema's wire
control_is : (schema : Schema) (control : Control) → (wire_of schema).control control ≡ written_control control
unfolding wire_of
control_is schema control = refl

-- no handles come to a place
none_put : (place : Place) (pipes : Contents) → PutsAll [] place pipes pipes
none_put place pipes = record { ends = λ x. refl; places = λ z. refl; ends_made = λ s. refl; tokens_made = λ s. refl; made = refl }

-- what is known of a notice that is written
facts : (wire : Wire) (seqs : ℕ) (past : List Event) (seq : SeqId) (y : EndId) (notice : Notice) (told : Notified)
    → Outcome wire seqs past seq (asks.Notify y notice) (tells.Notified told)
    → Writes wire past y [] × ((r : Endpoint) × Open wire past seq y (from_id notice) r)
facts wire seqs past seq y notice told (notifies r o e w s f p) = (w, (r, o))

-- the number of the next flush is the one that is told
pub next_is : (s : State) → Holds s → (y : EndId) → (notices_at s.tables.notices y).flushes + 1 ≡ length (flushed (past_of s) y) + 1
next_is s h y = ap (λ (n : ℕ). n + 1) (h.tables.notices y).flushes

-- fewer than there may be events
module _ (s : State) (h : Holds s) (few : length s.log.events < MAX_EVENTS) (y : EndId) where
  few_past : length (past_of s) < MAX_EVENTS
  few_past = omega (arith, few, length-reverse s.log.events)

  pub queries_few : (id : ℕ) → (notices_at s.tables.notices y).queries id < MAX_EVENTS
  queries_few id = few_queries (past_of s) y (notices_at s.tables.notices y) (h.tables.notices y) few_past id

  pub flushes_few : (notices_at s.tables.notices y).flushes < MAX_EVENTS
  flushes_few = few_flushes (past_of s) y (notices_at s.tables.notices y) (h.tables.notices y) few_past

module _ (old : State) (seq : SeqId) (y : EndId) (notice : Notice) (can : CanDo old seq (commands.Notify y notice)) where
  k : Kept (wire_in old) (past_of old)
  k = kept (wire_in old) old.seqs (past_of old) can.able.holds.legal

  abbrev pub way : Result EndId Why
  way = notice_way seq y notice old.pipes old.tables.flows old.endpoints

  abbrev pub informed : Notified
  informed = told_of (past_of old) y notice

  abbrev done : Told
  done = tells.Notified informed

  -- ## What is told

  abbrev tests_of : Endpoint → List (Option Why)
  tests_of r =
      unless (is_flush notice || not (is_receiver r.side)) WrongSide
      ∷ cannot_write (wire_in old) (past_of old) y (not (is_flush notice) && r.peer_closed) []

  from_told : has (made (past_of old)) (End y) ≡ true → (r : Endpoint)
      → told_of_way done (notice_from notice old.pipes old.tables.flows y r) ≡ first_of (tests_of r) done
  from_told m r =
      test_if (not (is_flush notice) && is_receiver r.side) WrongSide
      (way_to old.pipes old.tables.flows (not (is_flush notice) && r.peer_closed) [] (peer_of (end_of old.pipes.ends y)))
      (cannot_write (wire_in old) (past_of old) y (not (is_flush notice) && r.peer_closed) []) done
      (last_to (wire_in old) (past_of old) k old.pipes old.endpoints can.able.holds.agrees [] old.tables.flows refl y m done
      (not (is_flush notice) && r.peer_closed))
      ∙ ap (λ (b : Bool). first_of (unless b WrongSide ∷ cannot_write (wire_in old) (past_of old) y (not (is_flush notice) && r.peer_closed) []) done)
      (turned (is_flush notice) (is_receiver r.side))
    where
      turned : (b c : Bool) → not (not b && c) ≡ (b || not c)
      turned true c = refl
      turned false c = refl

  each_way : has (made (past_of old)) (End y) ≡ true → (o : Result Endpoint Why)
      → told_of_way done (notice_at notice old.pipes old.tables.flows y o) ≡ told_of_opened o (λ r. first_of (tests_of r) done)
  each_way m (Ok r) = from_told m r
  each_way m (Err why) = refl

  at_endpoint : (o : Option Endpoint) → endpoint_at (wire_in old) (past_of old) y (from_id notice) ≡ o
      → told_of_way done (notice_at notice old.pipes old.tables.flows y (opened seq (is_gone (past_of old) y) (from_id notice) o))
      ≡ notified (wire_in old) (past_of old) seq y notice o
  at_endpoint None e = refl
  at_endpoint (Some r) e =
      let m : has (made (past_of old)) (End y) ≡ true =
      bound_made (wire_in old) (past_of old) k (End y) (k.endpoints y (from_id notice) r e) in
      each_way m (opened seq (is_gone (past_of old) y) (from_id notice) (Some r))
      ∙ opened_tests (is_gone (past_of old) y) seq (from_id notice) r tests_of done

  way_told : told_of_way done way ≡ told_in old seq (commands.Notify y notice)
  way_told =
      ap (λ (o : Result Endpoint Why). told_of_way done (notice_at notice old.pipes old.tables.flows y o))
      (ap (λ (b : Bool). opened seq b (from_id notice) (found_at old.endpoints y (from_id notice)))
      (closed_is (wire_in old) (past_of old) k old.pipes old.endpoints can.able.holds.agrees y)
      ∙ ap (λ (o : Option Endpoint). opened seq (is_gone (past_of old) y) (from_id notice) o) (found_is can.able.holds.agrees y (from_id notice)))
      ∙ at_endpoint (endpoint_at (wire_in old) (past_of old) y (from_id notice)) refl

  pub notify_refused : (why : Why) → way ≡ Err why → told_in old seq (commands.Notify y notice) ≡ tells.No why
  notify_refused why h = sym way_told ∙ ap (λ (w : Result EndId Why). told_of_way done w) h

  -- ## What is written

  module _ (x : EndId) (free : way ≡ Ok x) where
    told_now : told_in old seq (commands.Notify y notice) ≡ done
    told_now = sym way_told ∙ ap (λ (w : Result EndId Why). told_of_way done w) free

    known : Writes (wire_in old) (past_of old) y []
        × ((r : Endpoint) × Open (wire_in old) (past_of old) seq y (from_id notice) r)
    known =
        facts (wire_in old) old.seqs (past_of old) seq y notice informed
        (outcome (wire_in old) old.seqs (past_of old) seq (asks.Notify y notice) done (sym told_now))

    made_here : has (made (past_of old)) (End y) ≡ true
    made_here =
        bound_made (wire_in old) (past_of old) k (End y) (k.endpoints y (from_id notice) known.1.0 known.1.1.here)

    -- the end that it goes to is the peer, and isn't full
    goes : (o : Result Endpoint Why) → notice_at notice old.pipes old.tables.flows y o ≡ Ok x
        → (peer_of (end_of old.pipes.ends y) ≡ Some x) × (weighs (unread_at old.pipes.ends x) < MAX_UNREAD_MESSAGES)
    goes (Err why) e = absurd cc
    goes (Ok r) e =
        let b = passed (not (is_flush notice) && is_receiver r.side) WrongSide _ x e in (
          to_is old.pipes old.tables.flows [] (not (is_flush notice) && r.peer_closed) (peer_of (end_of old.pipes.ends y)) x b.1,
          to_room old.pipes old.tables.flows [] (not (is_flush notice) && r.peer_closed) (peer_of (end_of old.pipes.ends y)) x b.1,
        )

    pub room : weighs (unread_at old.pipes.ends x) < MAX_UNREAD_MESSAGES
    room = (goes (opened seq (is_closed (end_of old.pipes.ends y)) (from_id notice) (found_at old.endpoints y (from_id notice))) free).1

    peer_here : x ≡ peer (past_of old) y
    peer_here =
        let p = peer_is (wire_in old) (past_of old) k old.pipes old.endpoints can.able.holds.agrees y made_here in
        let q = (goes (opened seq (is_closed (end_of old.pipes.ends y)) (from_id notice) (found_at old.endpoints y (from_id notice))) free).0 in
        cc

    -- the other end was made
    pub there : is_some (end_of old.pipes.ends x) ≡ true
    there = ap (λ (o : Option PipeEnd). is_some o) (can.able.holds.agrees.ends x) ∙ rw (peer_here, k.peers y made_here) refl

    below : from_id notice < CONTROL_ID
    below =
        let few = can.able.few in
        ids_below (schema_of old) old.seqs (past_of old) can.able.holds.legal (omega (arith, few, length-reverse old.log.events)) y (from_id notice)
        (ap (λ (o : Option Endpoint). is_some o) known.1.1.here)

    -- its control has a number that its kind may have
    pub numbered : HasNumber (control_of notice informed)
    numbered = go notice below
      where
        go : (n : Notice) → from_id n < CONTROL_ID → HasNumber (control_of n (told_of (past_of old) y n))
        go (Query id) less = less
        go (Require id v) less = less
        go Flush less = omega arith

    abbrev event : Event
    event = event_of seq (commands.Notify y notice) (replies.Notified informed)

    abbrev message : Message
    message = record { bytes = (wire_in old).control (control_of notice informed); handles = []; emitted = false }

    notice_writes : IsWriting done (asks.Notify y notice)
    notice_writes = record { made = refl; gone = refl; handed = refl; takes = λ z. refl; peer = λ z before. refl }

    agrees_now : (new : Contents) → Becomes x (with_message message) old.pipes new
        → Agrees (wire_in old) (event ∷ past_of old) new old.endpoints
    agrees_now new b =
        sent_agrees (wire_in old) (past_of old) k seq (asks.Notify y notice) done y [] ((wire_in old).control (control_of notice informed))
        notice_writes refl (λ z. refl) known.0.own known.0.open_there old.pipes new new old.endpoints old.endpoints
        (subst (λ (z : EndId). Becomes z (with_message message) old.pipes new) peer_here b)
        (none_put (places.Unread (peer (past_of old) y)) new)
        (steady (wire_in old) event (past_of old)
        (record { draws = λ z n. refl; answers = λ z n. refl; associates = λ z. refl; endpoints = λ z n. refl }) old.endpoints
        can.able.holds.agrees.routers)
        can.able.holds.agrees

    pub notify_done : (new : State) (told : Notified) (written : Message) (mid : Lines) → told ≡ informed
        → written ≡ record { bytes = written_control (control_of notice informed); handles = []; emitted = false }
        → schema_of new ≡ schema_of old → new.seqs ≡ old.seqs → new.rights ≡ old.rights → new.endpoints ≡ old.endpoints
        → Becomes x (with_message written) old.pipes new.pipes
        → new.tables.flows ≡ old.tables.flows → AllSame old.tables.notices mid → BecomesAt (with_notice notice) y mid new.tables.notices
        → new.log.events ≡ old.log.events ++ record { seq = seq; asked = asks.Notify y notice; told = tells.Notified told } ∷ []
        → Done old new seq (commands.Notify y notice) (replies.Notified told)
    notify_done new told written mid is w schema seqs unmoved same b unflowed reserved noted events =
        let lies : written ≡ message =
        w ∙ ap (λ (bytes : List ℕ). record { bytes = bytes; handles = []; emitted = false }) (sym (control_is (schema_of old) (control_of notice informed))) in
        subst (λ (t : Notified). Done old new seq (commands.Notify y notice) (replies.Notified t)) (sym is)
        (finish_noting old new seq (commands.Notify y notice) (replies.Notified informed) can.able schema seqs unmoved
        (record { none = refl; handed = λ wire. refl; after = λ rs. refl; gives = refl; hands = refl; halves = λ wire past. refl })
        (events
        ∙ ap (λ (t : Notified). old.log.events ++ record { seq = seq; asked = asks.Notify y notice; told = tells.Notified t } ∷ []) is)
        (sym told_now)
        (subst (λ (tables : Routers). Agrees (wire_in old) (event ∷ past_of old) new.pipes tables) (sym same)
        (agrees_now new.pipes (subst (λ (m : Message). Becomes x (with_message m) old.pipes new.pipes) lies b)))
        tt
        (tables_noted event (past_of old) old.tables new.tables unflowed refl
        (all_notified (past_of old) seq y old.tables.notices new.tables.notices notice
        (becomes_after (with_notice notice) y old.tables.notices mid new.tables.notices reserved noted) can.able.holds.tables.notices)
        can.able.holds.tables))
