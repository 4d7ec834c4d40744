-- A take more of the drain is done.
use Rattle.std.proofs.Common.{◌≡◌, ◌≤◌, ◌<◌, ◌-◌, ◌+◌, ℕ, suc, List, ◌∷◌, ◌++◌, length, refl, sym, ap, ◌∙◌, subst, arith}
use Rattle.std.specs.Prelude.{Option, Some, None}
use Rattle.std.specs.Option.{option_map}
use Rattle.std.proofs.lemmas.List.{length-reverse}
use Rattle.mj_base.specs.declared.ids.EndId.{EndId}
use Rattle.mj_base.specs.declared.ids.SeqId.{SeqId}
use Rattle.mj_base.specs.declared.limits.TheConstants.{MAX_EVENTS, MAX_FILE_BYTES}
use Rattle.mj_schema.specs.declared.schema.Schema.{Schema}
use Rattle.bind_model.specs.Ready.{ready}
use Rattle.bind_model.specs.Replies.{answer, legal, responders_handed}
use Rattle.bind_model.specs.Seen.{own_of}
use Rattle.bind_model.specs.Wire.{Wire}
use Rattle.bind_model.specs.WireOf.{wire_of}
use Rattle.bind_model.specs.declared.asked.Asked.TheVariants as asks
use Rattle.bind_model.specs.declared.event.Event.{Event}
use Rattle.bind_model.specs.declared.told.Told.{Told}
use Rattle.call_script.specs.Sound.{IsReply, IsScript}
use Rattle.call_script.specs.declared.script.Script.{Script}
use Rattle.core_state.specs.Agreement.{schema_of}
use Rattle.event_tables.specs.AsCore.{past_by, state_of, wire_by}
use Rattle.event_steps.specs.declared.machine.Machine.{Machine}
use Rattle.script_names.specs.Autos.{Due, due}
use Rattle.script_run.specs.OfScript.{AsksNext, GoesOn, IsPart, Next, next_join, next_of, next_take, replied, reply_or}
use Rattle.script_run.proofs.FewEvents.{few_events}
use Rattle.script_run.proofs.LineDone.{due_from}
use Rattle.script_run.proofs.TakeTurns.{ready_below}
use Rattle.script_run.proofs.TurnLemmas.{due_seq, none_due}
use Rattle.event_follow.specs.steps.Draining.{HasDrained, IsAnswered, TookTurn, take_event}
use Rattle.event_follow.specs.steps.Turning.{Did, Stepped}
use Rattle.event_follow.proofs.Running.{core_of, did_of, legal_of, play_of}

-- ## A turn

module _ (schema : Schema) (script : Script) (seq : SeqId) (end : EndId) (before mid : Machine)
    (did : Did schema script seq (asks.Take end) before mid) where
  -- the event of the take
  abbrev taken : Event
  taken = take_event seq end did.told

  -- what is due behind it is one of the replies
  pub due_sound : (d : Due) → due (wire_of schema) script.autos (taken ∷ past_by before.tables) ≡ Some d → IsScript schema script
      → IsReply (schema_of (state_of mid.tables)) mid.tables.seqs d.1
  due_sound d found sound =
      subst (λ (s : Schema). IsReply s mid.tables.seqs d.1) (sym did.is.schema)
      (subst (λ (n : ℕ). IsReply schema n d.1) (sym did.is.seqs)
      (due_from (IsReply schema script.seqs) script.autos seq (responders_handed (wire_of schema) did.told (asks.Take end)) d sound.autos found))

  -- nothing was due
  pub turn_alone : due (wire_of schema) script.autos (taken ∷ past_by before.tables) ≡ None → TookTurn schema script seq end before mid
  turn_alone none = record {
    is = did.is;
    told = did.told;
    answered =
        subst (λ (o : Option Due). IsAnswered seq o (taken ∷ past_by before.tables) (past_by mid.tables)) (sym none) did.past;
  }

  -- what was due was sent
  pub turn_both : (d : Due) → due (wire_of schema) script.autos (taken ∷ past_by before.tables) ≡ Some d → (after : Machine)
      → Stepped seq (replied d) mid after → TookTurn schema script seq end before after
  turn_both d found after stepped =
      let second = did_of schema script mid did.is seq (replied d) after stepped in
      let reply : Event = record { seq = seq; asked = replied d; told = second.told } in
      record {
        is = second.is;
        told = did.told;
        answered =
            subst (λ (o : Option Due). IsAnswered seq o (taken ∷ past_by before.tables) (past_by after.tables)) (sym found)
            (second.told, second.past ∙ ap (λ (es : List Event). reply ∷ es) did.past);
      }

-- fewer events may still come
pub fewer_left : (schema : Schema) (script : Script) (seq : SeqId) (end : EndId) (before after : Machine) → TookTurn schema script seq end before after
    → MAX_EVENTS - length after.tables.log.events < MAX_EVENTS - length before.tables.log.events
fewer_left schema script seq end before after took =
    go (due (wire_of schema) script.autos (take_event seq end took.told ∷ past_by before.tables)) took.answered
  where
    was : length (past_by before.tables) ≡ length before.tables.log.events
    was = length-reverse before.tables.log.events

    now : length (past_by after.tables) ≡ length after.tables.log.events
    now = length-reverse after.tables.log.events

    most : length after.tables.log.events ≤ MAX_EVENTS
    most = took.is.stands.holds.few

    go : (o : Option Due) → IsAnswered seq o (take_event seq end took.told ∷ past_by before.tables) (past_by after.tables)
        → MAX_EVENTS - length after.tables.log.events < MAX_EVENTS - length before.tables.log.events
    go None same = omega (arith, ap length same, was, now, most)
    go (Some d) second = omega (arith, ap length second.1, was, now, most)

-- ## The takes so far

module _ (schema : Schema) (script : Script) (before : List Event) (machine : Machine) (drained : HasDrained schema script before machine) where
  -- the wire of the schema
  abbrev wire : Wire
  wire = wire_of schema

  -- the take that comes next, or the automatic reply
  abbrev next : List Event → Option Next
  next = next_take wire script.autos before

  -- what is next where no reply is due
  next_ready : (found : Option (SeqId × EndId)) → ready (wire_by machine.tables) (past_by machine.tables) ≡ found
      → next drained.own ≡ option_map (λ (turn : SeqId × EndId). (turn.0, asks.Take turn.1)) found
  next_ready found e =
      let here : ready wire (drained.own ++ before) ≡ found =
      ap (ready wire) (sym drained.whole) ∙ (ap (λ (s : Schema). ready (wire_of s) (past_by machine.tables)) (sym drained.is.schema) ∙ e) in
      ap (λ (d : Option Due). reply_or d (option_map (λ (turn : SeqId × EndId). (turn.0, asks.Take turn.1)) (ready wire (drained.own ++ before))))
      drained.none
      ∙ ap (λ (o : Option (SeqId × EndId)). option_map (λ (turn : SeqId × EndId). (turn.0, asks.Take turn.1)) o) here

  -- no end is ready any more
  pub all_taken : ready (wire_by machine.tables) (past_by machine.tables) ≡ None → IsPart next before (past_by machine.tables)
  all_taken e = record {
    own = drained.own;
    whole = drained.whole;
    asks = drained.asks;
    over = next_ready None e;
  }

  -- one take more
  module _ (seq : SeqId) (end : EndId) (there : ready (wire_by machine.tables) (past_by machine.tables) ≡ Some (seq, end)) where
    -- the sequence is there
    pub taker_within : seq.0 < script.seqs
    taker_within =
        subst (λ (n : ℕ). seq.0 < n) drained.is.seqs
        (ready_below schema script (play_of machine) (core_of schema script machine drained.is) seq end there)

    -- by what it is told
    own_asks : (told : Told) → GoesOn next (take_event seq end told ∷ drained.own)
    own_asks told = (next_ready (Some (seq, end)) there, drained.asks)

    -- there is room for two events more
    pub room_for_two : IsScript schema script → script.bytes ≤ MAX_FILE_BYTES → (after_joins middle : List Event) → before ≡ middle ++ after_joins
        → GoesOn (next_join script) after_joins
        → ((s : SeqId) → s.0 < script.seqs → AsksNext (next_of wire script after_joins s) (own_of s middle))
        → length machine.tables.log.events + 1 < MAX_EVENTS
    room_for_two sound short after_joins middle is joins lines =
        let told = answer wire script.seqs (drained.own ++ before) seq (asks.Take end) in
        let taken : List Event = take_event seq end told ∷ drained.own in
        let past : legal wire script.seqs (drained.own ++ before) =
        subst (λ (es : List Event). legal wire script.seqs es) drained.whole (legal_of schema script machine drained.is) in
        let goes : legal wire script.seqs (taken ++ before) = (taker_within, refl, past) in
        let few : suc (length (drained.own ++ (middle ++ after_joins))) < MAX_EVENTS =
        few_events schema script sound after_joins middle short taken
        (subst (λ (es : List Event). legal wire script.seqs (taken ++ es)) is goes) joins lines
        (subst (λ (es : List Event). GoesOn (next_take wire script.autos es) taken) is (own_asks told)) in
        let turned : length (past_by machine.tables) ≡ length machine.tables.log.events = length-reverse machine.tables.log.events in
        let size : length (past_by machine.tables) ≡ length (drained.own ++ before) = ap length drained.whole in
        let same : length (drained.own ++ before) ≡ length (drained.own ++ (middle ++ after_joins)) =
        ap (λ (es : List Event). length (drained.own ++ es)) is in
        omega (arith, few, turned, size, same)

    module _ (after : Machine) (took : TookTurn schema script seq end machine after) where
      -- the event of the take
      abbrev event : Event
      event = take_event seq end took.told

      whole_event : event ∷ past_by machine.tables ≡ (event ∷ drained.own) ++ before
      whole_event = ap (λ (es : List Event). event ∷ es) drained.whole

      alone : due wire script.autos (event ∷ past_by machine.tables) ≡ None → past_by after.tables ≡ event ∷ past_by machine.tables
          → HasDrained schema script before after
      alone none same = record {
        is = took.is;
        own = event ∷ drained.own;
        whole = same ∙ whole_event;
        asks = own_asks took.told;
        none = none;
      }

      both : (d : Due) → due wire script.autos (event ∷ past_by machine.tables) ≡ Some d → (answered : Told)
          → past_by after.tables ≡ record { seq = seq; asked = replied d; told = answered } ∷ event ∷ past_by machine.tables
          → HasDrained schema script before after
      both d found answered whole =
          let reply : Event = record { seq = seq; asked = replied d; told = answered } in
          let who : d.1.seq ≡ seq = due_seq wire script.autos event (past_by machine.tables) d found in
          let asks_reply : next (event ∷ drained.own) ≡ Some (seq, replied d) =
          ap
          (λ (o : Option Due). reply_or o (option_map (λ (turn : SeqId × EndId). (turn.0, asks.Take turn.1)) (ready wire ((event ∷ drained.own) ++ before))))
          found
          ∙ ap (λ (s : SeqId). Some (s, replied d)) who in
          record {
            is = took.is;
            own = reply ∷ event ∷ drained.own;
            whole = whole ∙ ap (λ (es : List Event). reply ∷ es) whole_event;
            asks = (asks_reply, own_asks took.told);
            none = none_due wire script.autos reply (event ∷ (drained.own ++ before)) d refl;
          }

      pub drained_more : HasDrained schema script before after
      drained_more = go (due wire script.autos (event ∷ past_by machine.tables)) refl took.answered
        where
          go : (o : Option Due) → due wire script.autos (event ∷ past_by machine.tables) ≡ o
              → IsAnswered seq o (event ∷ past_by machine.tables) (past_by after.tables) → HasDrained schema script before after
          go None none same = alone none same
          go (Some d) found second = both d found second.0 second.1
