-- That a request or a response is got, by what the parts did.
use Rattle.std.proofs.Common.{◌≡◌, ℕ, ◌+◌, Bool, true, false, List, [], ◌∷◌, ◌++◌, refl, sym, ap, ◌∙◌, subst}
use Rattle.std.specs.Prelude.{◌||◌, is_some, IsSome, Option, None, Some, Result, Ok, Err}
use Rattle.mj_base.specs.declared.ids.EndId.{EndId}
use Rattle.mj_base.specs.declared.ids.SeqId.{SeqId}
use Rattle.mj_base.specs.declared.fault.Fault.{Fault}
use Rattle.handle_table.specs.declared.places.Place.TheVariants as places
use Rattle.handle_table.specs.declared.thing.Thing.{Thing}
use Rattle.message_pipe.specs.Contents.{Becomes, Closes, Contents}
use Rattle.message_pipe.specs.Ends.{end_of, peer_of, without_front}
use Rattle.message_pipe.specs.Mail.{front_of}
use Rattle.message_pipe.specs.declared.message.Message.{Message}
use Rattle.bind_model.specs.declared.asked.Asked.TheVariants as asks
use Rattle.bind_model.specs.declared.commands.Command.TheVariants as commands
use Rattle.bind_model.specs.declared.commands.Received.{Received}
use Rattle.bind_model.specs.declared.commands.Reply.TheVariants as replies
use Rattle.bind_model.specs.declared.endpoint.Endpoint.{Endpoint}
use Rattle.bind_model.specs.declared.endpoint.PendingId.{PendingId}
use Rattle.bind_model.specs.declared.endpoint.ResponderId.{ResponderId}
use Rattle.bind_model.specs.declared.event.Event.{Event}
use Rattle.bind_model.specs.declared.told.Got.{Got}
use Rattle.bind_model.specs.declared.told.Told.{Told}
use Rattle.bind_model.specs.declared.told.Told.TheVariants as tells
use Rattle.bind_model.specs.Laws.{all_differ, has_number}
use Rattle.bind_model.specs.Machine.{Entry, closed_ids, content_at, endpoint_at, enters, enters_from, entries_of, ids_in, named_in, written}
use Rattle.bind_model.specs.Pendings.{Half, is_out, names_of}
use Rattle.bind_model.specs.Replies.{has_pending, pendings_at}
use Rattle.bind_model.specs.Responders.{count_of}
use Rattle.bind_model.specs.Tables.{ids_of_entries}
use Rattle.bind_model.specs.Wire.{Content, Header, Wire}
use Rattle.bind_model.proofs.Entering.{entered_new}
use Rattle.bind_model.proofs.Fresh.{kept}
use Rattle.bind_model.proofs.Kept.{Kept}
use Rattle.bind_model.proofs.Outcomes.{Fronts, Outcome, gets, outcome}
use Rattle.bind_model.proofs.TableAfter.{no_double}
use Rattle.endpoint_router.specs.Rows.{row_at}
use Rattle.endpoint_router.proofs.Entering.{unsent}
use Rattle.core_state.specs.Agreement.{Agrees, past_of, schema_of, wire_in}
use Rattle.core_state.specs.Routers.{Routers, router_at}
use Rattle.core_taking.specs.declared.reading.Arrived.{Arrived}
use Rattle.core_taking.specs.declared.receive.Brings.{Brings}
use Rattle.core_state.specs.declared.state.State.{State}
use Rattle.core_state.specs.Doing.{Done, HasRoom, told_to}
use Rattle.core_state.specs.Emitting.{AreNamed, EmitsTo, HasPeer, controls_at}
use Rattle.core_state.specs.Entries.{AllEnterAt, AreNew, ArePlaced}
use Rattle.core_taking.specs.Founds.{IsGot, front_at, pending_ids}
use Rattle.core_taking.specs.steps.Pending.{halves_from}
use Rattle.core_state.specs.Placing.{PutsAll}
use Rattle.core_state.specs.Requests.{AnswersAt}
use Rattle.core_taking.specs.Taking.{Bringing, IsBringing, IsBrought, LieThere}
use Rattle.core_state.specs.Dues.{responder_due, times_in}
use Rattle.endpoint_router.specs.Turns.{IsSame}
use Rattle.core_state.proofs.Emitted.{emits_is}
use Rattle.core_taking.proofs.Fronts.{goes_is, got_there, lie_there}
use Rattle.control_bytes.specs.declared.control.Control.TheVariants.{Closed}
use Rattle.core_state.proofs.Held.{event_of, finish_with, unstirred}
use Rattle.core_taking.proofs.LetGo.{are_named, are_new, has_peer, made_here, main_row, still_there}
use Rattle.core_taking.proofs.PendingsOut.{got_hands, got_known, names_from}
use Rattle.core_state.proofs.Responding.{counts_made, handed_is}
use Rattle.core_state.proofs.Steady.{got_turns}
use Rattle.core_state.proofs.Still.{unseen}
use Rattle.core_taking.proofs.Taking.{got_takes, taken_agrees}

-- what is got, as plain data
abbrev plain_of : Received → Got
plain_of r = record {
  id = r.id;
  target = r.target;
  parameters = r.parameters;
  request = r.request;
  handles = r.handles;
  pendings = names_of r.pendings;
  gone = r.gone;
  moment = r.moment;
}

-- ## What is known of the message

-- the oldest message, as it was read
front_got : (wire : Wire) (seqs : ℕ) (past : List Event) (seq : SeqId) (y : EndId) (g : Got) (m : Message) → front_at wire past y ≡ Some m
    → Outcome wire seqs past seq (asks.Take y) (tells.Taken g) → Fronts wire past y m
front_got wire seqs past seq y g m e (gets n h r c f told) = subst (λ (o : Message). Fronts wire past y o) (same n f.front) f.front
  where
    same : (n : Message) → Fronts wire past y n → n ≡ m
    same n f = let now : Some n ≡ Some m = sym (ap (λ (ms : List Message). front_of ms) f.stands) ∙ e in cc

-- what stands at an endpoint has one
some_stands : (wire : Wire) (o : Option Endpoint) (m : Message) (c : Content) → content_at wire o m ≡ Ok c → is_some o ≡ true
some_stands wire None m c h = absurd cc
some_stands wire (Some e) m c h = refl

-- ## A request or a response that is got

-- what was brought, but for the room
abbrev pub bringing_of : Brings → Bringing
bringing_of b = record { noted = b.noted; things = b.things; gone = b.gone }

pub as_bringing : (pipes : Contents) (y : EndId) (a : Arrived) (b : Brings) → IsBrought pipes y a b → IsBringing pipes y a (bringing_of b)
as_bringing pipes y a b brought = record { noted = brought.noted; gone = brought.gone; things = brought.things }

module _ (s : State) (seq : SeqId) (able : HasRoom s seq) (y : EndId) (a : Arrived)
    (got : IsGot (wire_in s) (past_of s) y a (told_to s seq (asks.Take y))) where
  abbrev entries : List Entry
  entries = a.admitted.entries.items

  abbrev got_of : List PendingId → List Thing → Got
  got_of names gone = record {
    id = a.id;
    target = a.target;
    parameters = a.parameters;
    request = a.request;
    handles = a.named;
    pendings = names;
    gone = gone;
    moment = a.moment;
  }

  abbrev names : List PendingId
  names = pendings_at y (pending_ids entries)

  front : Fronts (wire_in s) (past_of s) y got.m
  front =
      front_got (wire_in s) s.seqs (past_of s) seq y (got_of names _) got.m got.front
      (subst (λ (told : Told). Outcome (wire_in s) s.seqs (past_of s) seq (asks.Take y) told) got.is
      (outcome (wire_in s) s.seqs (past_of s) seq (asks.Take y) (told_to s seq (asks.Take y)) refl))

  pub got_main : IsSome (row_at (router_at s.endpoints y) 0)
  got_main = main_row s seq able y got.m front got.h got.reads got.c.ids a.admitted got.admits

  pub got_new : (mid : Routers) → ((x : EndId) → IsSame (router_at s.endpoints x) (router_at mid x)) → ArePlaced (router_at mid y) entries
      → AreNew (router_at mid y) entries
  got_new = are_new s seq able y got.m front got.h got.reads got.c.ids a.admitted got.admits

  pub got_named : AreNamed a.admitted.closed.items
  got_named = are_named s seq able y got.m front got.h got.reads got.c.ids a.admitted got.admits

  pub got_peer : HasPeer s.pipes y
  got_peer = has_peer s seq able y got.m front got.h got.reads got.c.ids a.admitted got.admits

  carried : ids_in (wire_in s) got.m ≡ got.h.ids
  carried = ap (λ (r : Result Header Fault). elim r [ Ok k ↦ k.ids | Err fault ↦ [] ]) got.reads

  content : content_at (wire_in s) (endpoint_at (wire_in s) (past_of s) y a.id) got.m ≡ Ok got.c
  content = ap (λ (i : ℕ). content_at (wire_in s) (endpoint_at (wire_in s) (past_of s) y i) got.m) got.at ∙ got.stands

  -- what enters
  pub got_entering : (ps : List PendingId) (gone : List Thing)
      → enters (wire_in s) (past_of s) y (written (wire_in s) (past_of s) y) (endpoint_at (wire_in s) (past_of s) y) (tells.Taken (got_of ps gone)) ≡ entries
  got_entering ps gone =
      ap (λ (o : Option Message). enters_from (wire_in s) (endpoint_at (wire_in s) (past_of s) y) (tells.Taken (got_of ps gone)) o) got.front
      ∙ (ap (λ (r : Result Content Unit). entries_of (endpoint_at (wire_in s) (past_of s) y) (named_in r) 0 [] (ids_in (wire_in s) got.m)) content
      ∙ (ap (λ (ids : List ℕ). entries_of (endpoint_at (wire_in s) (past_of s) y) got.c.ids 0 [] ids) carried ∙ sym got.admits.entries))

  once : all_differ (ids_of_entries entries) ≡ true
  once =
      ap (λ (es : List Entry). all_differ (ids_of_entries es)) got.admits.entries
      ∙ no_double (endpoint_at (wire_in s) (past_of s) y) got.c.ids 0 [] got.h.ids

  -- the endpoint that the message is for was there, so it doesn't enter
  stays : has_number (ids_of_entries entries) a.id ≡ false
  stays = go (has_number (ids_of_entries entries) a.id) refl
    where
      there : is_some (endpoint_at (wire_in s) (past_of s) y a.id) ≡ true
      there = some_stands (wire_in s) (endpoint_at (wire_in s) (past_of s) y a.id) got.m got.c content

      go : (b : Bool) → has_number (ids_of_entries entries) a.id ≡ b → b ≡ false
      go false e = refl
      go true e = absurd (
          let none : is_some (endpoint_at (wire_in s) (past_of s) y a.id) ≡ false =
          entered_new (endpoint_at (wire_in s) (past_of s) y) got.c.ids 0 [] got.h.ids a.id
          (ap (λ (es : List Entry). has_number (ids_of_entries es) a.id) (sym got.admits.entries) ∙ e) in
          let f : true ≡ false = sym there ∙ none in
          cc)

  -- ### With what it brings

  module _ (b : Bringing) (brought : IsBringing s.pipes y a b) where
    abbrev g : Got
    g = got_of names b.gone

    got_told : tells.Taken g ≡ told_to s seq (asks.Take y)
    got_told =
        ap (λ (gone : List Thing). tells.Taken (got_of names gone)) (brought.gone
        ∙ goes_is (wire_in s) s.seqs (past_of s) able.holds.legal s.pipes s.endpoints able.holds.agrees y a.left)
        ∙ sym got.is

    pub got_still : (o : Option EndId) (messages : List Message) (sent : Contents) → EmitsTo o messages s.pipes sent → IsSome (end_of sent.ends y)
    got_still o messages sent e =
        still_there s seq able y got.m front got.h got.reads got.c.ids a.admitted got.admits o messages sent e
        (got_there (wire_in s) s.seqs (past_of s) able.holds.legal s.pipes s.endpoints able.holds.agrees seq able.within y g got_told)

    abbrev event : Event
    event = record { seq = seq; asked = asks.Take y; told = tells.Taken g }

    before : Kept (wire_in s) (past_of s)
    before = kept (wire_in s) s.seqs (past_of s) able.holds.legal

    agrees_now : (mid entered : Routers) → ((x : EndId) → IsSame (router_at s.endpoints x) (router_at mid x)) → (sent popped shut new : Contents)
        (now : Routers) → EmitsTo (peer_of (end_of s.pipes.ends y)) (controls_at mid y a.admitted.closed.items) s.pipes sent
        → Becomes y without_front sent popped → Closes b.gone popped shut → PutsAll a.named places.Out shut new
        → AllEnterAt entries y mid entered → AnswersAt y a.id a.request a.target.side entered now
        → Agrees (wire_in s) (event ∷ past_of s) new now
    agrees_now mid entered same sent popped shut new now e f c p t n =
        let seen = unseen (wire_in s) (past_of s) s.pipes s.endpoints mid same able.holds.agrees in
        taken_agrees (wire_in s) event (past_of s) y _ before
        (kept (wire_in s) s.seqs (event ∷ past_of s) (able.within, got_told, able.holds.legal))
        (got_takes (wire_in s) s.seqs (past_of s) seq y before got.m front g a.admitted.closed.items
        (ap (λ (es : List Entry). closed_ids es) (got_entering names b.gone ∙ got.admits.entries) ∙ sym got.admits.closed))
        s.pipes sent popped shut new mid now
        (emits_is (schema_of s) Closed (past_of s) before s.pipes mid seen y
        (made_here s seq able y got.m front got.h got.reads got.c.ids a.admitted got.admits) a.admitted.closed.items sent e)
        f c p
        (got_turns (wire_in s) (past_of s) seq mid now seen.routers y g entries entered (got_entering names b.gone)
        (unsent (wire_in s) s.seqs (past_of s) able.holds.legal y (tells.Taken g)) stays t n)
        seen

    abbrev pub received : Option ResponderId → List Thing → List Half → Received
    received responder handles pendings = record {
      id = a.id;
      target = a.target;
      parameters = a.parameters;
      request = a.request;
      handles = handles;
      pendings = pendings;
      responder = responder;
      gone = b.gone;
      moment = a.moment;
    }

    abbrev noted : List PendingId → List Event
    noted ps = s.log.events ++ record { seq = seq; asked = asks.Take y; told = tells.Taken (got_of ps b.gone) } ∷ []

    -- the names of the pendings are those that are noted
    name_is : names ≡ names_of (halves_from y entries)
    name_is = sym (names_from y entries)

    done_named : (new : State) (responder : Option ResponderId) → schema_of new ≡ schema_of s → new.seqs ≡ s.seqs → new.tables ≡ s.tables
        → new.log.events ≡ noted names
        → Agrees (wire_in s) (event ∷ past_of s) new.pipes new.endpoints
        → responder ≡ responder_due (wire_in s) y a.id a.target a.request
        → ((q : ResponderId) → count_of new.rights.responders q ≡ count_of s.rights.responders q + times_in responder q)
        → ((p : PendingId) → is_out new.rights.pendings p ≡ (has_pending names p || is_out s.rights.pendings p))
        → Done s new seq (commands.Take y) (replies.Got (received responder a.named (halves_from y entries)))
    done_named new responder schema seqs unnoticed events agrees due counts outs =
        finish_with s new seq (commands.Take y) (replies.Got (received responder a.named (halves_from y entries))) able schema seqs
        (events ∙ ap (λ (ps : List PendingId). noted ps) name_is)
        (ap (λ (ps : List PendingId). tells.Taken (got_of ps b.gone)) (sym name_is) ∙ got_told)
        (subst (λ (ps : List PendingId).
        Agrees (wire_in s) (record { seq = seq; asked = asks.Take y; told = tells.Taken (got_of ps b.gone) } ∷ past_of s) new.pipes new.endpoints)
        name_is agrees)
        (counts_made (wire_in s) (event_of seq (commands.Take y) (replies.Got (received responder a.named (halves_from y entries)))) (past_of s) y
        (plain_of (received responder a.named (halves_from y entries))) s.rights.responders new.rights.responders refl refl
        (λ q. counts q ∙ ap (λ (o : Option ResponderId). count_of s.rights.responders q + times_in o q) due) able.holds.responders)
        tt
        (ap (λ (o : Option ResponderId). elim o [ Some q ↦ q ∷ [] | None ↦ [] ]) due
        ∙ handed_is (wire_in s) (past_of s) y (plain_of (received responder a.named (halves_from y entries))))
        (got_known (past_of s) seq y (received responder a.named (halves_from y entries)) entries s.rights.pendings new.rights.pendings refl outs
        able.holds.pendings)
        (got_hands (wire_in s) (past_of s) seq y (received responder a.named (halves_from y entries)) entries
        (got_entering (names_of (halves_from y entries)) b.gone) once refl)
        (unstirred s new seq (commands.Take y) (replies.Got (received responder a.named (halves_from y entries))) able unnoticed refl)

    pub got_lie : (o : Option EndId) (messages : List Message) (sent popped shut : Contents) → EmitsTo o messages s.pipes sent
        → Becomes y without_front sent popped → Closes b.gone popped shut → LieThere shut b.things
    got_lie o messages sent popped shut e f c =
        subst (λ (things : List Thing). LieThere shut things) (sym brought.things)
        (lie_there (wire_in s) s.seqs (past_of s) able.holds.legal s.pipes s.endpoints able.holds.agrees seq able.within y g got_told
        popped shut (unmoved o e) c)
      where
        unmoved : (o : Option EndId) → EmitsTo o messages s.pipes sent → popped.table ≡ s.pipes.table
        unmoved None e = f.table ∙ ap (λ (p : Contents). p.table) e
        unmoved (Some p) e = f.table ∙ e.table

    pub got_done : (new : State) (responder : Option ResponderId) (handles : List Thing) (pendings : List Half) (mid entered : Routers)
        (sent popped shut : Contents) → schema_of new ≡ schema_of s → new.seqs ≡ s.seqs → new.tables ≡ s.tables → handles ≡ b.things
        → pendings ≡ halves_from y entries
        → new.log.events ≡ s.log.events ++ record { seq = seq; asked = asks.Take y; told = tells.Taken b.noted } ∷ []
        → responder ≡ responder_due (wire_in s) y a.id a.target a.request
        → ((q : ResponderId) → count_of new.rights.responders q ≡ count_of s.rights.responders q + times_in responder q)
        → ((p : PendingId) → is_out new.rights.pendings p ≡ (has_pending names p || is_out s.rights.pendings p))
        → ((x : EndId) → IsSame (router_at s.endpoints x) (router_at mid x))
        → EmitsTo (peer_of (end_of s.pipes.ends y)) (controls_at mid y a.admitted.closed.items) s.pipes sent
        → Becomes y without_front sent popped → Closes b.gone popped shut → PutsAll b.things places.Out shut new.pipes
        → AllEnterAt entries y mid entered → AnswersAt y a.id a.request a.target.side entered new.endpoints
        → Done s new seq (commands.Take y) (replies.Got (received responder handles pendings))
    got_done new responder handles pendings mid entered sent popped shut schema seqs unnoticed h l events due counts outs same e f c p t n =
        subst (λ (hs : List Thing). Done s new seq (commands.Take y) (replies.Got (received responder hs pendings))) (sym (h ∙ brought.things))
        (subst (λ (halves : List Half). Done s new seq (commands.Take y) (replies.Got (received responder a.named halves))) (sym l)
        (done_named new responder schema seqs unnoticed
        (events ∙ ap (λ (x : Got). s.log.events ++ record { seq = seq; asked = asks.Take y; told = tells.Taken x } ∷ []) brought.noted)
        (agrees_now mid entered same sent popped shut new.pipes new.endpoints e f c
        (subst (λ (things : List Thing). PutsAll things places.Out shut new.pipes) brought.things p) t n)
        due counts outs))
