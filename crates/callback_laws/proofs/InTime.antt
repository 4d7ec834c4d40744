-- Jobs run exactly on the responses to their requests, since none comes once an end was shown.
use Rattle.bind_model.specs.declared.told.Noted.TheVariants as noted
use Rattle.std.proofs.Common.{◌≡◌, ◌==◌, ℕ, Bool, true, false, List, [], ◌∷◌, refl, sym, ap, ◌∙◌, subst}
use Rattle.std.specs.Prelude.{Option, Some, None, if◌then◌else◌, map, ◌&&◌, ◌||◌}
use Rattle.std.proofs.lemmas.Bool.{true≢false, and_parts, and_from, eqb-true, eq-eqb}
use Rattle.mj_base.specs.declared.ids.EndId.{EndId}
use Rattle.mj_base.specs.declared.ids.SeqId.{SeqId}
use Rattle.handle_table.specs.Things.{same_end}
use Rattle.handle_table.proofs.ThingsLemmas.{same_end-true, same_end-refl}
use Rattle.bind_model.specs.Replies.{is_response}
use Rattle.bind_model.specs.declared.asked.Asked.{Asked}
use Rattle.bind_model.specs.declared.asked.Asked.TheVariants.{Call, Take, Close}
use Rattle.bind_model.specs.declared.asked.Closing.TheVariants.{Endpoint, Pending}
use Rattle.bind_model.specs.declared.event.Event.{Event}
use Rattle.bind_model.specs.WireOf.{wire_of}
use Rattle.mj_schema.specs.declared.schema.Schema.{Schema}
use Rattle.bind_model.specs.declared.told.Told.{Told}
use Rattle.bind_model.specs.declared.told.Told.TheVariants.{Sent, Taken, Control, Bad, Closed, No}
use Rattle.bind_model.specs.declared.told.Why.TheVariants.{PeerClosed}
use Rattle.ending_laws.specs.Callers.{IsSilent, EndsSilent, AllEndSilent, sends, hears}
use Rattle.ending_laws.specs.Endings.{shows_over}
use Rattle.ending_laws.proofs.Silent.{all_end_silent}
use Rattle.response_map.specs.Keys.{is_of_end, is_of_endpoint}
use Rattle.response_map.specs.declared.key.Key.{Key}
use Rattle.remote_receiver.specs.declared.job.Answered.{Answered}
use Rattle.remote_receiver.specs.declared.note.Note.{Note}
use Rattle.remote_receiver.specs.Notes.{first_told, response_in, AreNotes, Became, FirstNote}
use Rattle.callback_laws.specs.Ran.{event_of, response_to, AreEvents, RanOnResponses}
use Rattle.remote_receiver.specs.Stepped.{Step, given, given_by, answered, key_of, same_key, response_by, shows_end}
use Rattle.remote_receiver.proofs.Requests.{same_keys}

no_some : {X : Type 0} (x : X) → ◌≡◌ {A = Option X} None (Some x) → ⊥
no_some x e = cc

swapped : (a b : ℕ) → (a == b) ≡ true → (b == a) ≡ true
swapped a b e = eq-eqb b a (sym (eqb-true a b e))

of_end : (end : EndId) (key : Key) → is_of_end end key ≡ true → same_end end key.end ≡ true
of_end end key h = subst (λ e. same_end e key.end ≡ true) (same_end-true key.end end h) (same_end-refl key.end)

of_endpoint : (end : EndId) (id : ℕ) (key : Key) → is_of_endpoint end id key ≡ true → (same_end end key.end ≡ true) × ((id == key.id) ≡ true)
of_endpoint end id key h = let both = and_parts (is_of_end end key) (key.id == id) h in (of_end end key both.0, swapped key.id id both.1)

closes : (end : EndId) (id : ℕ) (key : Key) (b : Bool) → (if b then is_of_end end key else is_of_endpoint end id key) ≡ true
    → (same_end end key.end && (b || (id == key.id))) ≡ true
closes end id key true h = and_from (same_end end key.end) true (of_end end key h) refl
closes end id key false h = let both = of_endpoint end id key h in and_from (same_end end key.end) (id == key.id) both.0 both.1

-- what ends the jobs of an endpoint shows that it is over
ends_over : (key : Key) (asked : Asked) (told : Told) → shows_end key asked told ≡ true → shows_over told asked key.end key.id ≡ true
ends_over key (Close (Endpoint end id)) (Closed gone) h = closes end id key (id == 0) h
ends_over key (Close (Pending p)) (Closed gone) h =
    let both = of_endpoint p.end p.id key h in
    and_from (same_end p.end key.end) (p.id == key.id) both.0 both.1
ends_over key (Take end) (Bad why gone) h = of_end end key h
ends_over key (Take end) (No PeerClosed) h = of_end end key h
ends_over key (Take end) (Control (noted.Closed id)) h =
    let both = of_endpoint end id key h in
    and_from (same_end end key.end) (id == key.id) both.0 both.1
ends_over key asked told h = absurd (true≢false (sym h))

-- where no response is heard at an endpoint, none is to a request of it
unheard : (key : Key) (asked : Asked) (told : Told) → hears told asked key.end key.id ≡ false → response_by key asked told ≡ None
unheard key (Take end) (Taken g) h = by (is_response g.target.side) refl (same_key (key_of (answered end g)) key) refl
  where
    by : (r : Bool) → is_response g.target.side ≡ r → (s : Bool) → same_key (key_of (answered end g)) key ≡ s
        → (if r && s then Some (answered end g) else None) ≡ None
    by true e true f =
        let is : key_of (answered end g) ≡ key = same_keys (key_of (answered end g)) key f in
        let here : same_end end key.end ≡ true = subst (λ (k : Key). same_end end k.end ≡ true) is (same_end-refl end) in
        let point : (g.id == key.id) ≡ true = eq-eqb g.id key.id (ap (λ (k : Key). k.id) is) in
        let heard = and_from (same_end end key.end && (g.id == key.id)) (is_response g.target.side)
        (and_from (same_end end key.end) (g.id == key.id) here point) e in
        absurd (true≢false (sym heard ∙ h))
    by true e false f = refl
    by false e s f = refl
unheard key asked told h = refl

module _ {C : Type 0} where
  silent_none : (me : SeqId) (key : Key) (later : List (Step C)) → IsSilent key.end key.id (map (event_of me) later) → response_to key later ≡ None
  silent_none me key [] h = refl
  silent_none me key (step ∷ later) h =
      ap (λ o. first_told o false (response_to key later)) (unheard key step.asked step.told h.0) ∙ silent_none me key later h.1

  -- the first response is that before a shown end
  pub same_response : (me : SeqId) (key : Key) (later : List (Step C)) → EndsSilent key.end key.id (map (event_of me) later)
      → response_in key later ≡ response_to key later
  same_response me key [] h = refl
  same_response me key (step ∷ later) h =
      by (response_by key step.asked step.told) (shows_end key step.asked step.told) refl (same_response me key later h.1)
    where
      by : (o : Option Answered) (b : Bool) → shows_end key step.asked step.told ≡ b → response_in key later ≡ response_to key later
          → first_told o b (response_in key later) ≡ first_told o false (response_to key later)
      by (Some got) b e same = refl
      by None true e same = sym (silent_none me key later (h.0 (ends_over key step.asked step.told e)))
      by None false e same = same

  sends_by : (asked : Asked) (told : Told) (job : Option C) (one : Key × C) → given_by asked told job ≡ Some one
      → sends told asked one.0.end one.0.id ≡ true
  sends_by (Call end id outgoing) (Sent request bytes) (Some job) one e =
      let same : ◌≡◌ {A = Key × C} (record { end = end; id = id; request = request }, job) one = cc in
      subst (λ (p : Key × C). sends (Sent request bytes) (Call end id outgoing) p.0.end p.0.id ≡ true) same
      (and_from (same_end end end) (id == id) (same_end-refl end) (eq-eqb id id refl))
  sends_by asked told job one e = absurd (no_some one e)

  -- where no response comes once an end was shown, a job ran exactly where there is a response to its request
  pub ran_on : (promises : C → Answered → ℕ → Type 0) (me : SeqId) (steps : List (Step C)) (notes : List Note) → AllEndSilent (map (event_of me) steps)
      → AreNotes promises steps notes → RanOnResponses promises steps notes
  ran_on promises me [] notes h are = are
  ran_on promises me (step ∷ steps) notes h are = by (given step) refl (λ ns a. ran_on promises me steps ns h.1 a) are
    where
      by : (o : Option (Key × C)) → given step ≡ o → ((ns : List Note) → AreNotes promises steps ns → RanOnResponses promises steps ns)
          → FirstNote promises o (λ k. response_in k steps) (AreNotes promises steps) notes
          → FirstNote promises o (λ k. response_to k steps) (RanOnResponses promises steps) notes
      by None e more a = more notes a
      by (Some one) e more a = (
        a.0,
        a.1,
        a.2,
        subst (λ o. Became promises one.1 one.0 o a.0)
            (same_response me one.0 steps (h.0 one.0.end one.0.id (sends_by step.asked step.told step.job one e))) a.3,
        more a.1 a.4,
      )

  pub ran_on_responses : (promises : C → Answered → ℕ → Type 0) (schema : Schema) (seqs : ℕ) (me : SeqId) (history : List Event) (steps : List (Step C))
      (notes : List Note) → AreEvents schema seqs me history steps → AreNotes promises steps notes → RanOnResponses promises steps notes
  ran_on_responses promises schema seqs me history steps notes are noted =
      ran_on promises me steps notes (all_end_silent (wire_of schema) seqs history are.legal are.room (map (event_of me) steps) are.among) noted
