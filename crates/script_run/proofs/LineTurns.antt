-- A line more of those in the order is done.
use Rattle.std.proofs.Common.{◌≡◌, ◌<◌, ◌≤◌, ◌+◌, ℕ, Bool, true, false, List, ◌∷◌, ◌++◌, inl, inr, length, refl, sym, ap, ◌∙◌, subst, arith, length-set}
use Rattle.std.specs.Prelude.{◌==◌, Option, Some, set, slice_get}
use Rattle.std.specs.Option.{option_map}
use Rattle.std.proofs.lemmas.Bool.{eqb-true}
use Rattle.mj_base.specs.declared.ids.SeqId.{SeqId}
use Rattle.mj_base.specs.declared.limits.TheConstants.{MAX_EVENTS}
use Rattle.mj_schema.specs.declared.schema.Schema.{Schema}
use Rattle.bind_core.specs.Play.{Play}
use Rattle.bind_model.specs.Replies.{Legal}
use Rattle.bind_model.specs.Seen.{own_of}
use Rattle.bind_model.specs.Wire.{Wire}
use Rattle.bind_model.specs.WireOf.{wire_of}
use Rattle.bind_model.specs.declared.asked.Asked.{Asked}
use Rattle.bind_model.specs.declared.event.Event.{Event}
use Rattle.call_script.specs.declared.script.AutoReply.{AutoReply}
use Rattle.call_script.specs.declared.script.Line.{Line}
use Rattle.call_script.specs.declared.script.Script.{Script}
use Rattle.remote_receiver.specs.Notes.{Kept}
use Rattle.remote_receiver.specs.declared.rest.Rest.{Rest}
use Rattle.script_names.specs.Autos.{due, line_at}
use Rattle.script_names.specs.Names.{Named, named_after}
use Rattle.script_run.specs.OfScript.{AsksNext, names_of, next_of, reply_first}
use Rattle.script_names.specs.Asking.{asked_by}
use Rattle.script_run.specs.Order.{InTurns, lines_of, turn}
use Rattle.script_run.specs.declared.plain.Plain.{Plain}
use Rattle.script_names.specs.declared.rooms.Rooms.{Rooms}
use Rattle.script_run.specs.AtDesk.{Seen}
use Rattle.script_run.specs.steps.Desks.{DidLine, due_by}
use Rattle.script_run.specs.Draining.{past_in}
use Rattle.script_run.specs.steps.Going.{HasDone, IsPutBack, IsWoken}
use Rattle.script_run.specs.steps.Orders.{AreInOrder}
use Rattle.script_names.specs.Held.{HaveNames, names_in}
use Rattle.script_run.specs.steps.Running.{DidTurn, IsRunning, seat_of}
use Rattle.script_run.proofs.Coming.{Came, CameAlone, CameBoth, at_seat, came, came_of, core_behind, each_room, ends, names_reply, none_behind, rested_behind}
use Rattle.script_run.proofs.TurnLemmas.{AreCounted, asks_line, counted_line, counted_reply, line_within, names_line}
use Rattle.script_run.proofs.TurnLemmas.{other_event, own_event, turns_line, turns_reply}
use Rattle.script_run.proofs.Waking.{grew_line}

-- ## A turn

-- a line that was done at a desk: the desk was woken for it, and put to rest behind it
module _ (schema : Schema) (script : Script) (line : Line) (autos : List AutoReply) (core at there after : Play) (of on : SeqId)
    (rests woken new : List (Rest Plain)) (kept kept' : Kept Plain) (rooms : List Rooms) (room later : Rooms) where
  same_desk : (b a : Seen) → DidLine script.autos line b a kept kept' (names_in room) (names_in later)
      → (a.me ≡ b.me) × (length a.events ≤ MAX_EVENTS)
  same_desk b a did =
      ends (due_by b.schema script.autos b.me (asked_by (names_in room) line) did.told) b did.between a kept did.kept kept' (asked_by (names_in room) line)
      did.told did.went did.replied

  pub did_turn : (within : line.seq.0 < script.seqs) → IsRunning schema script core rests rooms → IsWoken line.seq core rests woken at of kept
      → autos ≡ script.autos → DidLine autos line (seat_of at of) (seat_of there on) kept kept' (names_in room) (names_in later)
      → IsPutBack on woken new kept' there → after ≡ there → Legal (wire_of after.schema) after.seqs after.events
      → slice_get rooms line.seq.0 ≡ Some room → HaveNames (length room.stands.things.items) later
      → DidTurn schema script line core after new rooms (set rooms line.seq.0 later)
  did_turn within running is by did back same legal here names =
      let first : DidLine script.autos line (seat_of at of) (seat_of there on) kept kept' (names_in room) (names_in later) =
      subst (λ (all : List AutoReply). DidLine all line (seat_of at of) (seat_of there on) kept kept' (names_in room) (names_in later)) by did in
      let seat = at_seat (λ b a. DidLine script.autos line b a kept kept' (names_in room) (names_in later)) (λ b a d. (same_desk b a d).0) core at there after
      line.seq of on is.core is.seq same first in
      let few = (same_desk (seat_of core line.seq) (seat_of after line.seq) seat.1).1 in
      let grew = grew_line script.autos line (seat_of at of) (seat_of there on) kept kept' (names_in room) (names_in later) refl first in
      let there_is : line.seq.0 < core.seqs = omega (arith, within, running.core.seqs) in
      record {
        core =
            core_behind schema script line.seq of on core at there after rests woken new kept kept' running.core there_is running.rests is grew seat.0 back same
            legal few;
        rests =
            rested_behind schema script line.seq of on core at there after rests woken new kept kept' running.core there_is running.rests is grew seat.0 back
            same legal few;
        room = room;
        later = later;
        here = here;
        rooms = refl;
        names = subst (λ (n : ℕ). HaveNames n later) (running.names line.seq room here).stands names;
        kept = kept;
        kept' = kept';
        did = seat.1;
      }

-- ## The events of a turn

module _ (schema : Schema) (script : Script) (line : Line) (core after : Play) (new : List (Rest Plain)) (rooms later : List Rooms)
    (is : core.schema ≡ schema) (did : DidTurn schema script line core after new rooms later) where
  -- the event of the line
  abbrev pub line_event : Event
  line_event = record { seq = line.seq; asked = asked_by (names_in did.room) line; told = did.did.told }

  pub line_came : Came (wire_of schema) script.autos line_event (past_in core) (past_in after)
  line_came =
      came_of (wire_of core.schema) (wire_of schema) script.autos line_event (past_in core) (past_in after) (ap wire_of is)
      (came script.autos (seat_of core line.seq) did.did.between (seat_of after line.seq) did.kept did.did.kept did.kept'
      (asked_by (names_in did.room) line) did.did.told refl did.did.went did.did.replied)

  -- the names of its sequence
  pub line_named : names_in did.later ≡ named_after (wire_of schema) (Some line) (due (wire_of schema) script.autos (line_event ∷ past_in core)) line_event
      (names_in did.room)
  line_named =
      subst
      (λ (s : Schema). names_in did.later
      ≡ named_after (wire_of s) (Some line) (due_by s script.autos line.seq (asked_by (names_in did.room) line) did.did.told) line_event
      (names_in did.room))
      is did.did.named

  -- a run goes on
  pub still_running : (rests : List (Rest Plain)) → IsRunning schema script core rests rooms → IsRunning schema script after new later
  still_running rests running = record {
    core = did.core;
    rests = did.rests;
    count = ap length did.rooms ∙ (length-set rooms line.seq.0 did.later ∙ running.count);
    names = λ s room e.
        each_room (λ (t : SeqId) (r : Rooms). HaveNames script.names r) line.seq rooms did.later did.names
        (λ t r other h. running.names t r h) s room (ap (λ (rs : List Rooms). slice_get rs s.0) (sym did.rooms) ∙ e);
    none = none_behind (wire_of schema) script.autos line_event (past_in core) (past_in after) line_came;
  }

-- ## The lines that are done

module _ (schema : Schema) (script : Script) (order : ℕ) (after_joins : List Event) (lines : List Line) (are : AreInOrder script order lines) (count : ℕ)
    (line : Line) (here : slice_get lines count ≡ Some line) (core after : Play) (rests new : List (Rest Plain)) (rooms later : List Rooms)
    (done : HasDone schema script order after_joins lines count core rests rooms) (did : DidTurn schema script line core after new rooms later) where
  -- the wire of the schema
  abbrev wire : Wire
  wire = wire_of schema

  -- the event of the line
  abbrev event : Event
  event = line_event schema script line core after new rooms later done.core.schema did

  -- the events of its sequence before
  abbrev own : List Event
  own = own_of line.seq done.middle

  -- what a sequence asks next
  abbrev next : SeqId → List Event → Option Asked
  next s = next_of wire script after_joins s

  counted : AreCounted wire script lines count done.middle
  counted = record {
    none = done.none;
    done = done.done;
    quiet = λ s w. (done.each s w).none;
    each = λ s w. (done.each s w).done;
  }

  within : line.seq.0 < script.seqs
  within = line_within script order lines are count line here

  before_names : names_in did.room ≡ names_of wire script after_joins line.seq own
  before_names = done.rooms.held line.seq did.room did.here

  -- the event is what its sequence asks next
  asks_event : next line.seq own ≡ Some event.asked
  asks_event =
      asks_line wire script order lines are count done.middle counted line here after_joins
      ∙ ap (λ (n : Named). Some (asked_by n line)) (sym before_names)

  own_asks : AsksNext (next line.seq) (event ∷ own)
  own_asks = (asks_event, (done.each line.seq within).asks)

  event_names : names_in did.later ≡ names_of wire script after_joins line.seq (event ∷ own)
  event_names =
      line_named schema script line core after new rooms later done.core.schema did
      ∙ (ap (named_after wire (Some line) (due wire script.autos (event ∷ done.middle)) event) before_names
      ∙ sym (names_line wire script order lines are count done.middle counted line here after_joins event))

  -- with the events of the turn
  module _ (middle : List Event) (whole : past_in after ≡ middle ++ after_joins) (more : AreCounted wire script lines (count + 1) middle)
      (turns : InTurns (turn wire script order) middle) (mine : List Event) (is_mine : own_of line.seq middle ≡ mine)
      (asks : AsksNext (next line.seq) mine) (names : names_in did.later ≡ names_of wire script after_joins line.seq mine)
      (others : (s : SeqId) → (line.seq.0 == s.0) ≡ false → own_of s middle ≡ own_of s done.middle) where
    each_asks : (s : SeqId) → s.0 < script.seqs → AsksNext (next s) (own_of s middle)
    each_asks s w = go (line.seq.0 == s.0) refl
      where
        go : (b : Bool) → (line.seq.0 == s.0) ≡ b → AsksNext (next s) (own_of s middle)
        go true same =
            let who : line.seq ≡ s = ap (λ (k : ℕ). record { 0 = k }) (eqb-true line.seq.0 s.0 same) in
            subst (λ (q : SeqId). AsksNext (next q) (own_of q middle)) who (subst (AsksNext (next line.seq)) (sym is_mine) asks)
        go false other = subst (AsksNext (next s)) (sym (others s other)) (done.each s w).asks

    held_again : (s : SeqId) (room : Rooms) → slice_get later s.0 ≡ Some room → names_in room ≡ names_of wire script after_joins s (own_of s middle)
    held_again s room e =
        each_room (λ (t : SeqId) (r : Rooms). names_in r ≡ names_of wire script after_joins t (own_of t middle)) line.seq rooms did.later
        (names ∙ ap (names_of wire script after_joins line.seq) (sym is_mine))
        (λ t r other h. done.rooms.held t r h ∙ ap (names_of wire script after_joins t) (sym (others t other)))
        s room (ap (λ (rs : List Rooms). slice_get rs s.0) (sym did.rooms) ∙ e)

    done_again : HasDone schema script order after_joins lines (count + 1) after new later
    done_again = record {
      core = did.core;
      rests = did.rests;
      middle = middle;
      whole = whole;
      each = λ s w. record { asks = each_asks s w; none = more.quiet s w; done = more.each s w };
      none = more.none;
      done = more.done;
      turns = turns;
      rooms = record {
        count = ap length did.rooms ∙ (length-set rooms line.seq.0 did.later ∙ done.rooms.count);
        names = λ s room e.
            each_room (λ (t : SeqId) (r : Rooms). HaveNames script.names r) line.seq rooms did.later did.names
            (λ t r other h. done.rooms.names t r h) s room (ap (λ (rs : List Rooms). slice_get rs s.0) (sym did.rooms) ∙ e);
        held = held_again;
      };
    }

  -- without a reply
  alone : CameAlone wire script.autos event (past_in core) (past_in after) → HasDone schema script order after_joins lines (count + 1) after new later
  alone c =
      done_again (event ∷ done.middle) (c.whole ∙ ap (λ (es : List Event). event ∷ es) done.whole)
      (counted_line wire script order lines are count done.middle counted line here event refl c.none)
      (turns_line wire script order lines are count done.middle counted line here done.turns event refl)
      (event ∷ own) (own_event line.seq event done.middle refl) own_asks event_names
      (λ s other. other_event s event done.middle other)

  -- with one
  both : CameBoth wire script.autos event (past_in core) (past_in after) → HasDone schema script order after_joins lines (count + 1) after new later
  both c =
      let asks_reply : next line.seq (event ∷ own) ≡ Some c.reply.asked =
      ap
      (λ o. reply_first o (option_map (asked_by (names_of wire script after_joins line.seq (event ∷ own)))
      (line_at wire script.autos (lines_of script line.seq) (event ∷ own))))
      c.found
      ∙ ap (λ (a : Asked). Some a) (sym c.asked) in
      done_again (c.reply ∷ event ∷ done.middle) (c.whole ∙ ap (λ (es : List Event). c.reply ∷ event ∷ es) done.whole)
      (counted_reply wire script order lines are count done.middle counted line here event c.reply c.d refl c.seq c.found c.asked)
      (turns_reply wire script order lines are count done.middle counted line here done.turns event c.reply c.d refl c.seq c.found)
      (c.reply ∷ event ∷ own)
      (own_event line.seq c.reply (event ∷ done.middle) c.seq ∙ ap (λ (es : List Event). c.reply ∷ es) (own_event line.seq event done.middle refl))
      (asks_reply, own_asks)
      (event_names ∙ sym (names_reply wire script after_joins line.seq (event ∷ own) c.reply c.d c.found c.asked))
      (λ s other.
      other_event s c.reply (event ∷ done.middle) (ap (λ (q : SeqId). q.0 == s.0) c.seq ∙ other)
      ∙ other_event s event done.middle other)

  pub done_more : HasDone schema script order after_joins lines (count + 1) after new later
  done_more = go (line_came schema script line core after new rooms later done.core.schema did)
    where
      go : Came wire script.autos event (past_in core) (past_in after) → HasDone schema script order after_joins lines (count + 1) after new later
      go (inl c) = alone c
      go (inr c) = both c
