-- No turn of a script that was read from 1,048,576 bytes at most is cut off by the number of events.
use Rattle.std.proofs.Common.{◌≡◌, ◌≤◌, ◌<◌, ◌⊎◌, inl, inr, ℕ, Bool, true, false, List, [], ◌∷◌, ◌++◌, length, refl, sym, ap, ◌∙◌, subst, arith}
use Rattle.std.specs.Prelude.{◌==◌, Option, Some, reverse, slice_get}
use Rattle.std.specs.Option.{option_map}
use Rattle.std.proofs.lemmas.List.{append-nil, length-reverse, reverse-append}
use Rattle.mj_base.specs.declared.ids.EndId.{EndId}
use Rattle.mj_base.specs.declared.ids.SeqId.{SeqId}
use Rattle.mj_base.specs.declared.limits.TheConstants.{MAX_EVENTS, MAX_FILE_BYTES}
use Rattle.mj_schema.specs.declared.schema.Schema.{Schema}
use Rattle.bind_core.specs.Play.{Play}
use Rattle.bind_model.specs.Ready.{ready}
use Rattle.bind_model.specs.Replies.{Legal, legal}
use Rattle.bind_model.specs.Seen.{own_of}
use Rattle.bind_model.specs.Wire.{Wire}
use Rattle.bind_model.specs.WireOf.{wire_of}
use Rattle.bind_model.specs.declared.asked.Asked.{Asked}
use Rattle.bind_model.specs.declared.asked.Asked.TheVariants as asks
use Rattle.bind_model.specs.declared.event.Event.{Event}
use Rattle.bind_model.specs.declared.told.Told.{Told}
use Rattle.call_script.specs.Sound.{IsScript}
use Rattle.call_script.specs.declared.script.AutoReply.{AutoReply}
use Rattle.call_script.specs.declared.script.Line.{Line}
use Rattle.call_script.specs.declared.script.Script.{Script}
use Rattle.remote_receiver.specs.Notes.{Kept}
use Rattle.remote_receiver.specs.declared.rest.Rest.{Rest}
use Rattle.script_names.specs.Autos.{Due}
use Rattle.script_names.specs.Names.{Named}
use Rattle.script_run.specs.OfScript.{AsksNext, GoesOn, Next, next_join, next_of, next_take, reply_or}
use Rattle.script_names.specs.Asking.{asked_by}
use Rattle.script_run.specs.declared.plain.Plain.{Plain}
use Rattle.script_names.specs.declared.rooms.Rooms.{Rooms}
use Rattle.script_run.specs.steps.Cutting.{CutJoin, CutLine, CutTake}
use Rattle.script_run.specs.AtDesk.{Seen}
use Rattle.script_run.specs.steps.Desks.{CutIn, IsFull}
use Rattle.script_run.specs.Draining.{HasDrained, past_in}
use Rattle.script_run.specs.steps.Going.{HasDone, HasJoined}
use Rattle.script_run.specs.steps.Orders.{AreInOrder}
use Rattle.script_names.specs.Held.{names_in}
use Rattle.script_run.specs.steps.Running.{seat_of}
use Rattle.script_run.proofs.FewEvents.{few_events}
use Rattle.script_run.proofs.Sequences.{same_seq}
use Rattle.script_run.proofs.TurnLemmas.{AreCounted, asks_line, other_event, own_event}

-- ## What a turn that is cut off leaves

-- the history is full, with the event that was asked for or without it
record CutAt (asked : Asked) (before after : Seen) : Type 0 where
  full : MAX_EVENTS ≤ length after.events
  schema : after.schema ≡ before.schema
  seqs : after.seqs ≡ before.seqs
  past : (reverse after.events ≡ reverse before.events)
      ⊎ ((told : Told) × (reverse after.events ≡ record { seq = before.me; asked = asked; told = told } ∷ reverse before.events))

-- where no event came
pub full_same : (b a : Seen) → b.alone ≡ true → IsFull b a → a.events ≡ b.events
full_same b a alone full =
    full.stays.0.all ∙ (ap (λ (es : List Event). b.events ++ es) (full.stays.0.none alone) ∙ append-nil b.events)

cut_at : (autos : List AutoReply) (asked : Asked) (b a : Seen) (old : Kept Plain) → b.alone ≡ true → CutIn autos asked b a old → CutAt asked b a
cut_at autos asked b a old alone (inl full) = record {
  full = full.full;
  schema = full.same.schema;
  seqs = full.same.seqs;
  past = inl (ap reverse (full_same b a alone full));
}
cut_at autos asked b a old alone (inr behind) =
    let event : Event = record { seq = b.me; asked = asked; told = behind.told } in
    record {
      full = behind.full.full;
      schema = behind.full.same.schema ∙ behind.went.same.schema;
      seqs = behind.full.same.seqs ∙ behind.went.same.seqs;
      past = inr (
        behind.told,
        ap reverse (full_same behind.between a (behind.went.same.alone ∙ alone) behind.full ∙ behind.went.sole alone)
            ∙ reverse-append b.events (event ∷ []),
      );
    }

module _ (schema : Schema) (script : Script) (is : IsScript schema script) (short : script.bytes ≤ MAX_FILE_BYTES) (after_joins : List Event)
    (joins : GoesOn (next_join script) after_joins) where
  -- the wire of the schema
  abbrev wire : Wire
  wire = wire_of schema

  -- each sequence asks what is next
  abbrev pub AskNext : List Event → Type 0
  AskNext middle = (s : SeqId) → s.0 < script.seqs → AsksNext (next_of wire script after_joins s) (own_of s middle)

  -- with one event more
  one_more : (middle : List Event) (event : Event) → AskNext middle → next_of wire script after_joins event.seq (own_of event.seq middle) ≡ Some event.asked
      → AskNext (event ∷ middle)
  one_more middle event lines next s w = go (event.seq.0 == s.0) refl
    where
      go : (b : Bool) → (event.seq.0 == s.0) ≡ b → AsksNext (next_of wire script after_joins s) (own_of s (event ∷ middle))
      go true e =
          let who : event.seq ≡ s = same_seq event.seq s e in
          let within : event.seq.0 < script.seqs = subst (λ (q : SeqId). q.0 < script.seqs) (sym who) w in
          subst (λ (q : SeqId). AsksNext (next_of wire script after_joins q) (own_of q (event ∷ middle))) who
          (subst (AsksNext (next_of wire script after_joins event.seq)) (sym (own_event event.seq event middle refl)) (next, lines event.seq within))
      go false e = subst (AsksNext (next_of wire script after_joins s)) (sym (other_event s event middle e)) (lines s w)

  -- a core of the script isn't full
  not_full : (middle taken : List Event) → AskNext middle → GoesOn (next_take wire script.autos (middle ++ after_joins)) taken → (after : Play)
      → after.schema ≡ schema → after.seqs ≡ script.seqs → Legal (wire_of after.schema) after.seqs after.events
      → past_in after ≡ taken ++ (middle ++ after_joins) → MAX_EVENTS ≤ length after.events → ⊥
  not_full middle taken lines takes after given seqs h whole full =
      let past : legal wire script.seqs (taken ++ (middle ++ after_joins)) =
      subst (λ (es : List Event). legal wire script.seqs es) whole
      (subst (λ (n : ℕ). legal wire n (past_in after)) seqs (subst (λ (q : Schema). legal (wire_of q) after.seqs (past_in after)) given h)) in
      let few = few_events schema script is after_joins middle short taken past joins lines takes in
      absurd (omega (arith, few, full, length-reverse after.events, ap length whole))

  -- ## Lines

  module _ (order : ℕ) (lines : List Line) (are : AreInOrder script order lines) (count : ℕ) (line : Line) (here : slice_get lines count ≡ Some line)
      (core after : Play) (rests : List (Rest Plain)) (rooms : List Rooms) where
    pub never_in_line : HasDone schema script order after_joins lines count core rests rooms → CutLine script line core after rooms → ⊥
    never_in_line done cut = go at.past
      where
        at : CutAt (asked_by (names_in cut.room) line) (seat_of core line.seq) (seat_of after line.seq)
        at = cut_at script.autos (asked_by (names_in cut.room) line) (seat_of core line.seq) (seat_of after line.seq) cut.kept refl cut.cut

        asked : AskNext done.middle
        asked s w = (done.each s w).asks

        counted : AreCounted wire script lines count done.middle
        counted = record {
          none = done.none;
          done = done.done;
          quiet = λ s w. (done.each s w).none;
          each = λ s w. (done.each s w).done;
        }

        next : next_of wire script after_joins line.seq (own_of line.seq done.middle) ≡ Some (asked_by (names_in cut.room) line)
        next =
            asks_line wire script order lines are count done.middle counted line here after_joins
            ∙ ap (λ (n : Named). Some (asked_by n line)) (sym (done.rooms.held line.seq cut.room cut.here))

        go : (reverse after.events ≡ reverse core.events)
            ⊎ ((told : Told)
            × (reverse after.events ≡ record { seq = line.seq; asked = asked_by (names_in cut.room) line; told = told } ∷ reverse core.events))
            → ⊥
        go (inl same) =
            not_full done.middle [] asked tt after (at.schema ∙ done.core.schema) (at.seqs ∙ done.core.seqs) cut.legal (same ∙ done.whole) at.full
        go (inr (told, e)) =
            let event : Event = record { seq = line.seq; asked = asked_by (names_in cut.room) line; told = told } in
            not_full (event ∷ done.middle) [] (one_more done.middle event asked next) tt after (at.schema ∙ done.core.schema) (at.seqs ∙ done.core.seqs)
            cut.legal (e ∙ ap (λ (es : List Event). event ∷ es) done.whole) at.full

  -- ## Takes

  module _ (middle : List Event) (lines : AskNext middle) (seq : SeqId) (end : EndId) (core after : Play) (rests : List (Rest Plain)) where
    pub never_in_take : HasDrained schema script (middle ++ after_joins) core rests → ready (wire_of core.schema) (past_in core) ≡ Some (seq, end)
        → CutTake script seq end core after → ⊥
    never_in_take drained there cut = go at.past
      where
        at : CutAt (asks.Take end) (seat_of core seq) (seat_of after seq)
        at = cut_at script.autos (asks.Take end) (seat_of core seq) (seat_of after seq) cut.kept refl cut.cut

        taking : SeqId × EndId → Next
        taking turn = (turn.0, asks.Take turn.1)

        here : ready wire (drained.own ++ (middle ++ after_joins)) ≡ Some (seq, end)
        here =
            ap (ready wire) (sym drained.whole)
            ∙ (ap (λ (q : Schema). ready (wire_of q) (past_in core)) (sym drained.core.schema) ∙ there)

        next : next_take wire script.autos (middle ++ after_joins) drained.own ≡ Some (seq, asks.Take end)
        next =
            ap (λ (d : Option Due). reply_or d (option_map taking (ready wire (drained.own ++ (middle ++ after_joins))))) drained.none
            ∙ ap (λ (o : Option (SeqId × EndId)). option_map taking o) here

        go : (reverse after.events ≡ reverse core.events)
            ⊎ ((told : Told) × (reverse after.events ≡ record { seq = seq; asked = asks.Take end; told = told } ∷ reverse core.events)) → ⊥
        go (inl same) =
            not_full middle drained.own lines drained.asks after (at.schema ∙ drained.core.schema) (at.seqs ∙ drained.core.seqs) cut.legal
            (same ∙ drained.whole) at.full
        go (inr (told, e)) =
            let event : Event = record { seq = seq; asked = asks.Take end; told = told } in
            not_full middle (event ∷ drained.own) lines (next, drained.asks) after (at.schema ∙ drained.core.schema) (at.seqs ∙ drained.core.seqs) cut.legal
            (e ∙ ap (λ (es : List Event). event ∷ es) drained.whole) at.full

-- ## Joins

pub never_in_join : (schema : Schema) (script : Script) → IsScript schema script → script.bytes ≤ MAX_FILE_BYTES → (count : ℕ) (seq : SeqId) (core after : Play)
    (rests : List (Rest Plain)) (rooms : List Rooms) → HasJoined schema script count core rests rooms → CutJoin seq core after → ⊥
never_in_join schema script is short count seq core after rests rooms joined cut =
    not_full schema script is short (past_in core) joined.asks [] [] (λ s w. tt) tt after (cut.cut.same.schema ∙ joined.core.schema)
    (cut.cut.same.seqs ∙ joined.core.seqs) cut.legal (ap reverse (full_same (seat_of core seq) (seat_of after seq) refl cut.cut)) cut.cut.full
