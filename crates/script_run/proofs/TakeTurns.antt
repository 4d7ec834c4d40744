-- A take more of the drain is done.
use Rattle.std.proofs.Common.{◌≡◌, ◌≤◌, ◌<◌, ◌-◌, List, [], ◌∷◌, ◌++◌, inl, inr, length, refl, sym, ap, ◌∙◌, append_assoc, subst, arith}
use Rattle.std.specs.Prelude.{Option, Some, None, filter, option_and_then, reverse}
use Rattle.std.specs.Option.{option_map}
use Rattle.std.proofs.lemmas.List.{append-nil, length-reverse, reverse-append}
use Rattle.mj_base.specs.declared.ids.EndId.{EndId}
use Rattle.mj_base.specs.declared.ids.SeqId.{SeqId}
use Rattle.mj_base.specs.declared.limits.TheConstants.{MAX_EVENTS}
use Rattle.mj_schema.specs.declared.schema.Schema.{Schema}
use Rattle.bind_core.specs.Play.{Play}
use Rattle.bind_model.specs.Machine.{made}
use Rattle.bind_model.specs.Ready.{ends_of, is_ready, least, ready, taker}
use Rattle.bind_model.specs.Replies.{Legal}
use Rattle.bind_model.specs.Wire.{Wire}
use Rattle.bind_model.specs.WireOf.{wire_of}
use Rattle.bind_model.specs.declared.asked.Asked.{Asked}
use Rattle.bind_model.specs.declared.asked.Asked.TheVariants as asks
use Rattle.bind_model.specs.declared.event.Event.{Event}
use Rattle.bind_model.proofs.PendingFacts.{taker_below}
use Rattle.call_script.specs.declared.script.AutoReply.{AutoReply}
use Rattle.call_script.specs.declared.script.Script.{Script}
use Rattle.remote_receiver.specs.Notes.{Kept}
use Rattle.remote_receiver.specs.declared.rest.Rest.{Rest}
use Rattle.script_names.specs.Autos.{Due, due}
use Rattle.script_run.specs.OfScript.{GoesOn, IsPart, Next, next_take, replied, reply_or}
use Rattle.script_run.specs.declared.plain.Plain.{Plain}
use Rattle.script_run.specs.AtDesk.{Adds, Seen}
use Rattle.script_run.specs.steps.Cutting.{PartTake}
use Rattle.script_run.specs.steps.Desks.{CameTo, TookAt, answered_it, asked_it, due_by, stood}
use Rattle.script_run.specs.Draining.{DrainedPart, HasDrained, HaveRested, IsCoreOf, past_in}
use Rattle.script_run.specs.steps.Going.{IsPutBack, IsWoken}
use Rattle.script_run.specs.steps.Running.{TookTurn, seat_of}
use Rattle.script_run.proofs.Coming.{Came, CameAlone, CameBoth, at_seat, came, came_of, core_behind, ends, more_behind, rested_behind}
use Rattle.script_run.proofs.TurnLemmas.{due_seq, none_due}
use Rattle.script_run.proofs.Waking.{grew_take}

-- as many events in either order
pub past_length : (core : Play) → length (past_in core) ≡ length core.events
past_length core = length-reverse core.events

-- who takes at the end that is ready is a sequence that is there
pub ready_below : (schema : Schema) (script : Script) (core : Play) → IsCoreOf schema script core → (seq : SeqId) (end : EndId)
    → ready (wire_of core.schema) (past_in core) ≡ Some (seq, end) → seq.0 < core.seqs
ready_below schema script core is seq end there =
    go (least (filter (is_ready (wire_of core.schema) (past_in core)) (ends_of (made (past_in core))))) there
  where
    few : length (past_in core) ≤ MAX_EVENTS
    few = omega (arith, past_length core, is.few)

    of_taker : (y : EndId) (o : Option SeqId) → taker (wire_of core.schema) (past_in core) y ≡ o
        → option_map {U = SeqId × EndId} (λ (t : SeqId). (t, y)) o ≡ Some (seq, end) → seq.0 < core.seqs
    of_taker y None takes e = absurd cc
    of_taker y (Some t) takes e =
        let pair : (t, y) ≡ (seq, end) = cc in
        let who : t ≡ seq = ap (λ (p : SeqId × EndId). p.0) pair in
        subst (λ (s : SeqId). s.0 < core.seqs) who (taker_below (wire_of core.schema) core.seqs (past_in core) is.legal few y t takes)

    go : (o : Option EndId)
        → option_and_then {U = SeqId × EndId} (λ (y : EndId). option_map (λ (t : SeqId). (t, y)) (taker (wire_of core.schema) (past_in core) y)) o
        ≡ Some (seq, end)
        → seq.0 < core.seqs
    go None e = absurd cc
    go (Some y) e = of_taker y (taker (wire_of core.schema) (past_in core) y) refl e

-- ## A turn

-- a take that was done at a desk: the desk was woken for it, and put to rest behind it
module _ (schema : Schema) (script : Script) (seq : SeqId) (end : EndId) (autos : List AutoReply) (core at there after : Play) (of on : SeqId)
    (rests woken new : List (Rest Plain)) (kept kept' : Kept Plain) where
  same_desk : (b a : Seen) → TookAt script.autos end b a kept kept' → (a.me ≡ b.me) × (length a.events ≤ MAX_EVENTS)
  same_desk b a took =
      ends (due_by b.schema script.autos b.me (asks.Take end) took.told) b took.between a kept took.kept kept' (asks.Take end) took.told took.went
      took.replied

  pub took_turn : IsCoreOf schema script core → seq.0 < core.seqs → HaveRested core rests → IsWoken seq core rests woken at of kept
      → autos ≡ script.autos → TookAt autos end (seat_of at of) (seat_of there on) kept kept' → IsPutBack on woken new kept' there → after ≡ there
      → Legal (wire_of after.schema) after.seqs after.events → TookTurn schema script seq end core after new
  took_turn is_core within rested is by took back same legal =
      let first : TookAt script.autos end (seat_of at of) (seat_of there on) kept kept' =
      subst (λ (all : List AutoReply). TookAt all end (seat_of at of) (seat_of there on) kept kept') by took in
      let seat = at_seat (λ b a. TookAt script.autos end b a kept kept') (λ b a t. (same_desk b a t).0) core at there after seq of on is.core is.seq same
      first in
      let few = (same_desk (seat_of core seq) (seat_of after seq) seat.1).1 in
      let grew = grew_take script.autos end (seat_of at of) (seat_of there on) kept kept' refl first in
      record {
        core =
            core_behind schema script seq of on core at there after rests woken new kept kept' is_core within rested is grew seat.0 back same legal few;
        rests =
            rested_behind schema script seq of on core at there after rests woken new kept kept' is_core within rested is grew seat.0 back same legal few;
        kept = kept;
        kept' = kept';
        took = seat.1;
      }

module _ (schema : Schema) (script : Script) (seq : SeqId) (end : EndId) (core after : Play) (new : List (Rest Plain)) (is : core.schema ≡ schema)
    (took : TookTurn schema script seq end core after new) where
  -- the event of the take
  abbrev pub take_event : Event
  take_event = record { seq = seq; asked = asks.Take end; told = took.took.told }

  pub take_came : Came (wire_of schema) script.autos take_event (past_in core) (past_in after)
  take_came =
      came_of (wire_of core.schema) (wire_of schema) script.autos take_event (past_in core) (past_in after) (ap wire_of is)
      (came script.autos (seat_of core seq) took.took.between (seat_of after seq) took.kept took.took.kept took.kept'
      (asks.Take end) took.took.told refl took.took.went took.took.replied)

  -- fewer events may still come
  pub fewer_left : MAX_EVENTS - length after.events < MAX_EVENTS - length core.events
  fewer_left =
      let more = more_behind (wire_of schema) script.autos take_event (past_in core) (past_in after) take_came in
      omega (arith, more, past_length core, past_length after, took.core.few)

-- ## The takes so far

module _ (schema : Schema) (script : Script) (before : List Event) (core : Play) (rests : List (Rest Plain))
    (drained : HasDrained schema script before core rests) where
  -- the wire of the schema
  abbrev wire : Wire
  wire = wire_of schema

  -- the take that comes next, or the automatic reply
  abbrev next : List Event → Option Next
  next = next_take wire script.autos before

  -- what is next where no reply is due
  next_ready : (found : Option (SeqId × EndId)) → ready (wire_of core.schema) (past_in core) ≡ found
      → next drained.own ≡ option_map (λ (turn : SeqId × EndId). (turn.0, asks.Take turn.1)) found
  next_ready found e =
      let here : ready wire (drained.own ++ before) ≡ found =
      ap (ready wire) (sym drained.whole) ∙ (ap (λ (s : Schema). ready (wire_of s) (past_in core)) (sym drained.core.schema) ∙ e) in
      ap (λ (d : Option Due). reply_or d (option_map (λ (turn : SeqId × EndId). (turn.0, asks.Take turn.1)) (ready wire (drained.own ++ before))))
      drained.none
      ∙ ap (λ (o : Option (SeqId × EndId)). option_map (λ (turn : SeqId × EndId). (turn.0, asks.Take turn.1)) o) here

  -- no end is ready any more
  pub all_taken : ready (wire_of core.schema) (past_in core) ≡ None → IsPart next before (past_in core)
  all_taken e = record {
    own = drained.own;
    whole = drained.whole;
    asks = drained.asks;
    over = next_ready None e;
  }

  -- one that was cut off
  module _ (seq : SeqId) (end : EndId) (there : ready (wire_of core.schema) (past_in core) ≡ Some (seq, end)) (after : Play)
      (part : PartTake script seq end core after) where
    next_asks : next drained.own ≡ Some (seq, asks.Take end)
    next_asks = next_ready (Some (seq, end)) there

    -- by the events that came
    with_events : (evs back own : List Event) → reverse (core.events ++ evs) ≡ back ++ past_in core → own ≡ back ++ drained.own → GoesOn next own
        → Adds (seat_of core seq) (seat_of after seq) evs → DrainedPart schema script before after
    with_events evs back own turned is goes adds = record {
      schema = part.came.0.same.schema ∙ drained.core.schema;
      seqs = part.came.0.same.seqs ∙ drained.core.seqs;
      legal = part.legal;
      own = own;
      whole =
          ap reverse (adds.sole refl)
          ∙ (turned ∙ (ap (λ (es : List Event). back ++ es) drained.whole
          ∙ (sym (append_assoc back drained.own before) ∙ ap (λ (es : List Event). es ++ before) (sym is))));
      asks = goes;
    }

    pub drained_part : DrainedPart schema script before after
    drained_part = go part.came.1
      where
        go : CameTo script.autos (asks.Take end) (seat_of core seq) (seat_of after seq) → DrainedPart schema script before after
        go (stood none) = with_events [] [] drained.own (ap reverse (append-nil core.events)) refl drained.asks none
        go (asked_it told came) =
            let event : Event = record { seq = seq; asked = asks.Take end; told = told } in
            with_events (event ∷ []) (event ∷ []) (event ∷ drained.own) (reverse-append core.events (event ∷ [])) refl (next_asks, drained.asks) came
        go (answered_it told d answer found came) =
            let event : Event = record { seq = seq; asked = asks.Take end; told = told } in
            let reply : Event = record { seq = seq; asked = replied d; told = answer } in
            let here : due wire script.autos (event ∷ (drained.own ++ before)) ≡ Some d =
            subst (λ (s : Schema). due_by s script.autos seq (asks.Take end) told ≡ Some d) drained.core.schema found in
            let who : d.1.seq ≡ seq = due_seq wire script.autos event (drained.own ++ before) d here in
            let asks_reply : next (event ∷ drained.own) ≡ Some (seq, replied d) =
            ap
            (λ (o : Option Due). reply_or o (option_map (λ (turn : SeqId × EndId). (turn.0, asks.Take turn.1)) (ready wire ((event ∷ drained.own) ++ before))))
            here
            ∙ ap (λ (s : SeqId). Some (s, replied d)) who in
            with_events (event ∷ reply ∷ []) (reply ∷ event ∷ []) (reply ∷ event ∷ drained.own) (reverse-append core.events (event ∷ reply ∷ [])) refl
            (asks_reply, (next_asks, drained.asks)) came

  -- one take more
  module _ (seq : SeqId) (end : EndId) (there : ready (wire_of core.schema) (past_in core) ≡ Some (seq, end)) (after : Play)
      (new : List (Rest Plain)) (took : TookTurn schema script seq end core after new) where
    -- the event of the take
    abbrev event : Event
    event = take_event schema script seq end core after new drained.core.schema took

    own_asks : GoesOn next (event ∷ drained.own)
    own_asks = (next_ready (Some (seq, end)) there, drained.asks)

    whole_event : event ∷ past_in core ≡ (event ∷ drained.own) ++ before
    whole_event = ap (λ (es : List Event). event ∷ es) drained.whole

    alone : CameAlone wire script.autos event (past_in core) (past_in after) → HasDrained schema script before after new
    alone c = record {
      core = took.core;
      rests = took.rests;
      own = event ∷ drained.own;
      whole = c.whole ∙ whole_event;
      asks = own_asks;
      none = c.none;
    }

    both : CameBoth wire script.autos event (past_in core) (past_in after) → HasDrained schema script before after new
    both c =
        let who : c.d.1.seq ≡ c.reply.seq = due_seq wire script.autos event (past_in core) c.d c.found ∙ sym c.seq in
        let asks_reply : next (event ∷ drained.own) ≡ Some (c.reply.seq, c.reply.asked) =
        ap
        (λ (o : Option Due). reply_or o (option_map (λ (turn : SeqId × EndId). (turn.0, asks.Take turn.1)) (ready wire ((event ∷ drained.own) ++ before))))
        c.found
        ∙ (ap (λ (s : SeqId). Some (s, replied c.d)) who ∙ ap (λ (a : Asked). Some (c.reply.seq, a)) (sym c.asked)) in
        record {
          core = took.core;
          rests = took.rests;
          own = c.reply ∷ event ∷ drained.own;
          whole = c.whole ∙ ap (λ (es : List Event). c.reply ∷ es) whole_event;
          asks = (asks_reply, own_asks);
          none = none_due wire script.autos c.reply (event ∷ (drained.own ++ before)) c.d c.asked;
        }

    pub drained_more : HasDrained schema script before after new
    drained_more = go (take_came schema script seq end core after new drained.core.schema took)
      where
        go : Came wire script.autos event (past_in core) (past_in after) → HasDrained schema script before after new
        go (inl c) = alone c
        go (inr c) = both c
