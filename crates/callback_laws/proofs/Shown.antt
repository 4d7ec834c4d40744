-- What a desk notes is what its events say of callbacks.
use Rattle.std.proofs.Common.{◌≡◌, ◌≤◌, ◌==◌, ◌+◌, ℕ, Bool, true, false, List, [], ◌∷◌, ◌++◌, length, reverse, refl, sym, ap, ◌∙◌, subst, arith}
use Rattle.std.specs.Prelude.{Option, Some, None, if◌then◌else◌, map, not, cond, ◌&&◌, ◌||◌, is_some}
use Rattle.std.specs.List.{AllByRecursion}
use Rattle.std.proofs.lemmas.Bool.{and_parts, and_from, eqb-true, eq-eqb}
use Rattle.std.proofs.lemmas.List.{reverse-append}
use Rattle.mj_base.specs.declared.ids.EndId.{EndId}
use Rattle.mj_base.specs.declared.ids.SeqId.{SeqId}
use Rattle.mj_base.specs.declared.limits.TheConstants.{MAX_EVENTS}
use Rattle.mj_schema.specs.declared.schema.Schema.{Schema}
use Rattle.handle_table.specs.Things.{same_end}
use Rattle.handle_table.proofs.ThingsLemmas.{same_end-true, same_end-refl}
use Rattle.bind_model.specs.Replies.{drawn, is_response, legal, Legal}
use Rattle.bind_model.specs.Wire.{Wire}
use Rattle.bind_model.specs.WireOf.{wire_of}
use Rattle.bind_model.specs.declared.asked.Asked.{Asked}
use Rattle.bind_model.specs.declared.asked.Asked.TheVariants.{Call, Take}
use Rattle.bind_model.specs.declared.event.Event.{Event}
use Rattle.bind_model.specs.declared.told.Told.{Told}
use Rattle.bind_model.specs.declared.told.Told.TheVariants.{Sent, Taken}
use Rattle.bind_model.proofs.Outcomes.{Outcome, outcome, calls}
use Rattle.bind_model.specs.Seen.{own_of}
use Rattle.ending_laws.specs.Callers.{IsAmong, none, known, other, EndsSilent, AllEndSilent, sends}
use Rattle.ending_laws.proofs.Silent.{all_end_silent}
use Rattle.history_text.specs.declared.notes.Note as text
use Rattle.response_map.specs.declared.key.Key.{Key}
use Rattle.remote_receiver.specs.Notes.{first_told, response_in, AreNotes, Became, FirstNote}
use Rattle.remote_receiver.specs.Stepped.{Step, given_by, answered, key_of, same_key, response_by}
use Rattle.remote_receiver.specs.declared.job.Answered.{Answered}
use Rattle.remote_receiver.specs.declared.note.Note as desk
use Rattle.remote_receiver.proofs.Requests.{same_keys, same_itself}
use Rattle.callback_laws.specs.Callbacks.{callback_of, callbacks_in, fate_of, gets_response, is_answered}
use Rattle.callback_laws.specs.Ran.{event_of, response_to}
use Rattle.callback_laws.specs.Shown.{shown, GivesJob, GivesJobs}
use Rattle.callback_laws.proofs.InTime.{same_response}

-- ## The request of a call that was sent

-- it is 0 exactly where the method has no response
abbrev IsNumbered : Wire → Told → Asked → Type 0
IsNumbered wire (Sent request bytes) (Call x id outgoing) = (request == 0) ≡ not (wire.responds outgoing.target.interface outgoing.target.method)
IsNumbered wire told asked = Unit {0}

abbrev AllNumbered : Wire → List Event → Type 0
AllNumbered wire events = AllByRecursion (λ (event : Event). IsNumbered wire event.told event.asked) events

zero_or_more : (responds : Bool) (n request : ℕ) → request ≡ (if responds then n + 1 else 0) → (request == 0) ≡ not responds
zero_or_more true n request e = by (request == 0) refl
  where
    by : (b : Bool) → (request == 0) ≡ b → b ≡ false
    by true f = absurd (let is : request ≡ 0 = eqb-true request 0 f in omega (arith, e, is))
    by false f = refl
zero_or_more false n request e = eq-eqb request 0 e

module _ (wire : Wire) (seqs : ℕ) where
  numbered : (past : List Event) (seq : SeqId) {asked : Asked} {told : Told} → Outcome wire seqs past seq asked told → IsNumbered wire told asked
  numbered past seq (calls {y = y} {id = id} {s = s} {request = request} r o ps mk e w b) =
      zero_or_more (wire.responds s.target.interface s.target.method) (length (drawn past y id)) request e
  numbered past seq o = tt

  past_numbered : (past : List Event) → legal wire seqs past → AllNumbered wire past
  past_numbered [] h = tt
  past_numbered (event ∷ past) h =
      (numbered past event.seq (outcome wire seqs past event.seq event.asked event.told h.1), past_numbered past h.2)

module _ (P : Event → Type 0) where
  both : (events more : List Event) → AllByRecursion P (events ++ more) → AllByRecursion P events × AllByRecursion P more
  both [] more h = (tt, h)
  both (event ∷ events) more h = let rest = both events more h.1 in ((h.0, rest.0), rest.1)

  turned : (events : List Event) → AllByRecursion P (reverse events) → AllByRecursion P events
  turned [] h = tt
  turned (event ∷ events) h =
      let parts = both (reverse events) (event ∷ []) (subst (AllByRecursion P) (reverse-append (event ∷ []) events) h) in
      (parts.1.0, turned events parts.0)

  of_some : {some all : List Event} → IsAmong some all → AllByRecursion P all → AllByRecursion P some
  of_some none h = tt
  of_some (known among) h = (h.0, of_some among h.1)
  of_some (other among) h = of_some among h.1

-- the events of a sequence are some of all
own_among : (me : SeqId) (events : List Event) → IsAmong (own_of me events) events
own_among me [] = none
own_among me (event ∷ events) = by (event.seq.0 == me.0) (own_among me events)
  where
    by : (b : Bool) → IsAmong (own_of me events) events → IsAmong (cond b (event ∷ own_of me events) (own_of me events)) (event ∷ events)
    by true among = known among
    by false among = other among

own_numbered : (wire : Wire) (seqs : ℕ) (me : SeqId) (history : List Event) → Legal wire seqs history → AllNumbered wire (own_of me history)
own_numbered wire seqs me history h =
    of_some (λ event. IsNumbered wire event.told event.asked) (own_among me history)
    (turned (λ event. IsNumbered wire event.told event.asked) history (past_numbered wire seqs (reverse history) h))

-- ## Whether a request is answered

one_truth : (a b : Bool) → (a ≡ true → b ≡ true) → (b ≡ true → a ≡ true) → a ≡ b
one_truth true b there back = sym (there refl)
one_truth false true there back = back refl
one_truth false false there back = refl

some_if : (b : Bool) (got : Answered) → is_some (if b then Some got else None) ≡ b
some_if true got = refl
some_if false got = refl

some_told : (o later : Option Answered) → is_some (first_told o false later) ≡ (is_some o || is_some later)
some_told (Some got) later = refl
some_told None later = refl

-- a take is the response to a request exactly where it gets it
same_answer : (key : Key) (asked : Asked) (told : Told) → is_some (response_by key asked told) ≡ gets_response key.end key.id key.request told asked
same_answer key (Take end) (Taken g) = some_if (is_response g.target.side && same_key (key_of (answered end g)) key) (answered end g)
    ∙ one_truth (is_response g.target.side && same_key (key_of (answered end g)) key) (gets_response key.end key.id key.request (Taken g) (Take end)) there back
  where
    own : is_response g.target.side ≡ true → gets_response end g.id g.request (Taken g) (Take end) ≡ true
    own response = and_from (same_end end end && (g.id == g.id) && is_response g.target.side) (g.request == g.request)
        (and_from (same_end end end && (g.id == g.id)) (is_response g.target.side)
        (and_from (same_end end end) (g.id == g.id) (same_end-refl end) (eq-eqb g.id g.id refl)) response)
        (eq-eqb g.request g.request refl)

    there : (is_response g.target.side && same_key (key_of (answered end g)) key) ≡ true → gets_response key.end key.id key.request (Taken g) (Take end) ≡ true
    there h =
        let parts = and_parts (is_response g.target.side) (same_key (key_of (answered end g)) key) h in
        subst (λ (k : Key). gets_response k.end k.id k.request (Taken g) (Take end) ≡ true) (same_keys (key_of (answered end g)) key parts.1) (own parts.0)

    is_key : end ≡ key.end → g.id ≡ key.id → g.request ≡ key.request → key_of (answered end g) ≡ key
    is_key p q r = λ i. record { end = p i; id = q i; request = r i }

    back : gets_response key.end key.id key.request (Taken g) (Take end) ≡ true → (is_response g.target.side && same_key (key_of (answered end g)) key) ≡ true
    back h =
        let all = and_parts (same_end end key.end && (g.id == key.id) && is_response g.target.side) (g.request == key.request) h in
        let some = and_parts (same_end end key.end && (g.id == key.id)) (is_response g.target.side) all.0 in
        let point = and_parts (same_end end key.end) (g.id == key.id) some.0 in
        let same = is_key (same_end-true end key.end point.0) (eqb-true g.id key.id point.1) (eqb-true g.request key.request all.1) in
        and_from (is_response g.target.side) (same_key (key_of (answered end g)) key) some.1
        (subst (λ (k : Key). same_key (key_of (answered end g)) k ≡ true) same (same_itself (key_of (answered end g))))
same_answer key asked (Taken g) = refl
same_answer key asked told = refl

-- ## What is noted

-- the callback of a request, by whether it is answered
abbrev callback : SeqId → Key → Bool → text.Note
callback me key ran = record { seq = me; end = key.end; id = key.id; request = key.request; fate = fate_of ran }

module _ {C : Type 0} (me : SeqId) where
  same_fate : (key : Key) (later : List (Step C)) → is_some (response_to key later) ≡ is_answered key.end key.id key.request (map (event_of me) later)
  same_fate key [] = refl
  same_fate key (step ∷ later) =
      some_told (response_by key step.asked step.told) (response_to key later)
      ∙ ap (λ b. b || is_some (response_to key later)) (same_answer key step.asked step.told)
      ∙ ap (λ b. gets_response key.end key.id key.request step.told step.asked || b) (same_fate key later)

  noted : (promises : C → Answered → ℕ → Type 0) (job : C) (key : Key) (o : Option Answered) (note : desk.Note) → Became promises job key o note
      → shown me note ≡ callback me key (is_some o)
  noted promises job key None note e = ap (shown me) e
  noted promises job key (Some got) note e = ap (λ k. callback me k note.ran) e.0 ∙ ap (callback me key) e.1

  -- the note of a job is the callback of its call
  job_noted : (promises : C → Answered → ℕ → Type 0) (job : C) (key : Key) (later : List (Step C)) (note : desk.Note)
      → EndsSilent key.end key.id (map (event_of me) later) → Became promises job key (response_in key later) note
      → shown me note ≡ callback me key (is_answered key.end key.id key.request (map (event_of me) later))
  job_noted promises job key later note silent became =
      noted promises job key (response_in key later) note became
      ∙ ap (λ o. callback me key (is_some o)) (same_response me key later silent)
      ∙ ap (callback me key) (same_fate key later)

  module _ (promises : C → Answered → ℕ → Type 0) (wire : Wire) where
    steps_noted : (steps : List (Step C)) (notes : List desk.Note) → AllEndSilent (map (event_of me) steps) → AllNumbered wire (map (event_of me) steps)
        → GivesJobs wire steps → AreNotes promises steps notes → map (shown me) notes ≡ callbacks_in (map (event_of me) steps)
    steps_noted [] notes silent numbers gives are = ap (map (shown me)) are
    steps_noted (step ∷ steps) notes silent numbers gives are =
        by step.asked step.told step.job silent.0 numbers.0 gives.0 (λ ns a. steps_noted steps ns silent.1 numbers.1 gives.1 a) are
      where
        by : (asked : Asked) (told : Told) (job : Option C) → ((x : EndId) (id : ℕ) → sends told asked x id ≡ true → EndsSilent x id (map (event_of me) steps))
            → IsNumbered wire told asked → GivesJob wire asked job
            → ((ns : List desk.Note) → AreNotes promises steps ns → map (shown me) ns ≡ callbacks_in (map (event_of me) steps))
            → FirstNote promises (given_by asked told job) (λ key. response_in key steps) (AreNotes promises steps) notes
            → map (shown me) notes ≡ callback_of me told asked (map (event_of me) steps) ++ callbacks_in (map (event_of me) steps)
        by (Call x id outgoing) (Sent request bytes) (Some job) ends number gives more a =
            let key : Key = record { end = x; id = id; request = request } in
            let one : text.Note = callback me key (is_answered x id request (map (event_of me) steps)) in
            let asks : (request == 0) ≡ false = number ∙ ap not (sym gives) in
            let sent : sends (Sent request bytes) (Call x id outgoing) x id
            ≡ true = and_from (same_end x x) (id == id) (same_end-refl x) (eq-eqb id id refl) in
            ap (map (shown me)) a.2
            ∙ ap (λ n. n ∷ map (shown me) a.1) (job_noted promises job key steps a.0 (ends x id sent) a.3)
            ∙ ap (λ ns. one ∷ ns) (more a.1 a.4)
            ∙ sym (ap (λ b. (if b then [] else one ∷ []) ++ callbacks_in (map (event_of me) steps)) asks)
        by (Call x id outgoing) (Sent request bytes) None ends number gives more a =
            let one : text.Note = callback me (record { end = x; id = id; request = request }) (is_answered x id request (map (event_of me) steps)) in
            let unasked : (request == 0) ≡ true = number ∙ ap not (sym gives) in
            more notes a ∙ sym (ap (λ b. (if b then [] else one ∷ []) ++ callbacks_in (map (event_of me) steps)) unasked)
        by asked (Sent request bytes) job ends number gives more a = more notes a
        by asked told job ends number gives more a = more notes a

pub callbacks_are : {C : Type 0} (promises : C → Answered → ℕ → Type 0) (schema : Schema) (seqs : ℕ) (me : SeqId) (history : List Event)
    (steps : List (Step C)) (notes : List desk.Note) → Legal (wire_of schema) seqs history → length history ≤ MAX_EVENTS
    → own_of me history ≡ map (event_of me) steps → GivesJobs (wire_of schema) steps → AreNotes promises steps notes
    → map (shown me) notes ≡ callbacks_in (own_of me history)
callbacks_are promises schema seqs me history steps notes h few own gives are =
    steps_noted me promises (wire_of schema) steps notes
    (all_end_silent (wire_of schema) seqs history h few (map (event_of me) steps) (subst (λ events. IsAmong events history) own (own_among me history)))
    (subst (AllNumbered (wire_of schema)) own (own_numbered (wire_of schema) seqs me history h)) gives are
    ∙ ap callbacks_in (sym own)
