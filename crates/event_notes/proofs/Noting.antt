-- Callbacks of a sequence's calls, the last call first.
use Rattle.std.proofs.Common.{◌≡◌, ◌+◌, ℕ, zero, suc, Bool, true, false, List, [], ◌∷◌, ◌++◌, drop, refl, sym, ap, ◌∙◌, append_assoc, arith}
use Rattle.std.specs.Prelude.{◌==◌, ◌||◌, cond, Some, None, reverse, slice_get, if◌then◌else◌}
use Rattle.std.specs.List.{flat_map}
use Rattle.std.proofs.lemmas.List.{append-nil, reverse-append}
use Rattle.mj_base.specs.declared.ids.EndId.{EndId}
use Rattle.mj_base.specs.declared.ids.SeqId.{SeqId}
use Rattle.bind_model.specs.Laws.{up_from}
use Rattle.bind_model.specs.Names.{request_name, same_request}
use Rattle.bind_model.specs.Seen.{own_of}
use Rattle.bind_model.specs.declared.asked.Asked.{Asked}
use Rattle.bind_model.specs.declared.asked.Asked.TheVariants.{Call}
use Rattle.bind_model.specs.declared.event.Event.{Event}
use Rattle.bind_model.specs.declared.names.RequestName.{RequestName}
use Rattle.bind_model.specs.declared.told.Told.{Told}
use Rattle.bind_model.specs.declared.told.Told.TheVariants.{Sent}
use Rattle.callback_laws.specs.Callbacks.{callback_of, callbacks, callbacks_in, fate_of, is_answered}
use Rattle.history_text.specs.declared.notes.Note.{Note}
use Rattle.event_notes.specs.steps.Got.{Knows, called, has_request, noted, response_of}
use Rattle.event_notes.proofs.Answering.{got_is, is_it}

-- ## One event

-- the callback of a request that was sent
noted_is : (names : List RequestName) (later : List Event) (seq : SeqId) (x : EndId) (id request : ℕ) → Knows names later
    → noted seq x id request (has_request names (request_name x id request)) ≡ noted seq x id request (is_answered x id request later)
noted_is names later seq x id request knows = ap (noted seq x id request) (knows (request_name x id request))

pub called_is : (names : List RequestName) (later : List Event) (seq : SeqId) (told : Told) (asked : Asked) → Knows names later
    → called names seq told asked ≡ callback_of seq told asked later
called_is names later seq (Sent request bytes) (Call x id outgoing) knows = noted_is names later seq x id request knows
called_is names later seq told asked knows = refl

-- no more is known where no response was got
pub knows_same : (names : List RequestName) (event : Event) (later : List Event) → response_of event.told event.asked ≡ None → Knows names later
    → Knows names (event ∷ later)
knows_same names event later none knows q =
    knows q
    ∙ sym (ap (λ (b : Bool). b || is_answered q.endpoint.end q.endpoint.id q.request later) (got_is q event.told event.asked ∙ ap (is_it q) none))

-- and one request more where one was
pub knows_more : (old new : List RequestName) (event : Event) (later : List Event) (name : RequestName) → response_of event.told event.asked ≡ Some name
    → ((q : RequestName) → has_request new q ≡ (has_request old q || same_request name q))
    → ((a b : RequestName) → same_request a b ≡ same_request b a) → Knows old later → Knows new (event ∷ later)
knows_more old new event later name is added turned knows q =
    added q
    ∙ (ap (λ (b : Bool). b || same_request name q) (knows q)
    ∙ (swap (is_answered q.endpoint.end q.endpoint.id q.request later) (same_request name q)
    ∙ ap (λ (b : Bool). b || is_answered q.endpoint.end q.endpoint.id q.request later)
    (turned name q ∙ sym (got_is q event.told event.asked ∙ ap (is_it q) is))))
  where
    swap : (b c : Bool) → (b || c) ≡ (c || b)
    swap true true = refl
    swap true false = refl
    swap false true = refl
    swap false false = refl

-- ## The list so far

-- a list of one is the same turned round
turned_one : (seq : SeqId) (told : Told) (asked : Asked) (later : List Event) → reverse (callback_of seq told asked later) ≡ callback_of seq told asked later
turned_one seq (Sent request bytes) (Call x id outgoing) later =
    go (record { seq = seq; end = x; id = id; request = request; fate = fate_of (is_answered x id request later) }) (request == 0)
  where
    go : (note : Note) (b : Bool) → reverse (if b then [] else note ∷ []) ≡ (if b then [] else note ∷ [])
    go note true = refl
    go note false = refl
turned_one seq told asked later = refl

module _ (seq : SeqId) (event : Event) (later : List Event) where
  pub own_here : (event.seq.0 == seq.0) ≡ true → own_of seq (event ∷ later) ≡ event ∷ own_of seq later
  own_here e = ap (λ (b : Bool). cond b (event ∷ own_of seq later) (own_of seq later)) e

  pub own_other : (event.seq.0 == seq.0) ≡ false → own_of seq (event ∷ later) ≡ own_of seq later
  own_other e = ap (λ (b : Bool). cond b (event ∷ own_of seq later) (own_of seq later)) e

  module _ (before notes : List Note) (back : notes ≡ before ++ reverse (callbacks_in (own_of seq later))) where
    -- behind an event of another sequence
    pub back_other : (event.seq.0 == seq.0) ≡ false → notes ≡ before ++ reverse (callbacks_in (own_of seq (event ∷ later)))
    back_other e = back ∙ ap (λ (es : List Event). before ++ reverse (callbacks_in es)) (sym (own_other e))

    -- behind one of its own
    pub back_own : (event.seq.0 == seq.0) ≡ true → (new : List Note)
        → new ≡ notes ++ callback_of event.seq event.told event.asked (own_of seq later)
        → new ≡ before ++ reverse (callbacks_in (own_of seq (event ∷ later)))
    back_own e new is =
        let rest = callbacks_in (own_of seq later) in
        let one = callback_of event.seq event.told event.asked (own_of seq later) in
        is
        ∙ (ap (λ (ns : List Note). ns ++ one) back
        ∙ (append_assoc before (reverse rest) one
        ∙ ap (λ (ns : List Note). before ++ ns)
        (ap (λ (ns : List Note). reverse rest ++ ns) (sym (turned_one event.seq event.told event.asked (own_of seq later)))
        ∙ (sym (reverse-append one rest) ∙ ap (λ (es : List Event). reverse (callbacks_in es)) (sym (own_here e))))))

-- what stands at a number, and then the rest
pub drop_at : (events : List Event) (k : ℕ) (event : Event) → slice_get events k ≡ Some event → drop k events ≡ event ∷ drop (k + 1) events
drop_at [] k event e = absurd cc
drop_at (x ∷ events) zero event e = let same : x ≡ event = cc in rw same refl
drop_at (x ∷ events) (suc k) event e = let next : suc k + 1 ≡ suc (k + 1) = omega arith in rw next (drop_at events k event e)

-- ## All sequences

up_from-more : (first n : ℕ) → up_from first (n + 1) ≡ up_from first n ++ (first + n) ∷ []
up_from-more first zero = let e : first + 0 ≡ first = omega arith in rw e refl
up_from-more first (suc n) =
    let e : suc n + 1 ≡ suc (n + 1) = omega arith in
    let f : suc first + n ≡ first + suc n = omega arith in
    rw e (ap (λ ns. first ∷ ns) (up_from-more (suc first) n ∙ ap (λ m. up_from (suc first) n ++ m ∷ []) f))

flat-more : (f : ℕ → List Note) (ns : List ℕ) (n : ℕ) → flat_map f (ns ++ n ∷ []) ≡ flat_map f ns ++ f n
flat-more f [] n = append-nil (f n)
flat-more f (m ∷ ns) n = ap (λ xs. f m ++ xs) (flat-more f ns n) ∙ sym (append_assoc (f m) (flat_map f ns) (f n))

-- the callbacks of one sequence more
pub callbacks_more : (events : List Event) (n : ℕ) (notes new : List Note) → notes ≡ callbacks n events
    → new ≡ notes ++ callbacks_in (own_of (record { 0 = n }) events) → new ≡ callbacks (n + 1) events
callbacks_more events n notes new is more =
    let of : ℕ → List Note = λ (k : ℕ). callbacks_in (own_of (record { 0 = k }) events) in
    let zero_add : 0 + n ≡ n = omega arith in
    more
    ∙ (ap (λ (ns : List Note). ns ++ of n) is
    ∙ sym (ap (flat_map of) (up_from-more 0 n ∙ ap (λ (k : ℕ). up_from 0 n ++ k ∷ []) zero_add) ∙ flat-more of (up_from 0 n) n))
