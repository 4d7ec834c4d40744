-- What the desks of a run keep, from their first sight of it to their notes.
use Rattle.std.proofs.Common.{◌≡◌, ◌<◌, ◌≤◌, ◌+◌, ◌++◌, ℕ, zero, suc, Bool, true, false, List, [], ◌∷◌, length, refl, sym, ap, ◌∙◌}
use Rattle.std.proofs.Common.{arith, length-set, subst}
use Rattle.std.specs.Prelude.{◌==◌, Some, Result, Ok, Err, cond, is_err, is_ok, map, set, slice_get, if◌then◌else◌}
use Rattle.std.specs.List.{AllByRecursion, flat_map}
use Rattle.std.specs.Option.{option_map}
use Rattle.std.proofs.lemmas.Bool.{eqb-true, eq-eqb, ne_eqb, true≢false}
use Rattle.std.proofs.lemmas.Grind.{flat_map-append}
use Rattle.std.proofs.lemmas.List.{append-nil}
use Rattle.mj_base.specs.declared.ids.SeqId.{SeqId}
use Rattle.mj_base.specs.declared.limits.TheConstants.{MAX_EVENTS}
use Rattle.mj_schema.specs.declared.schema.Schema.{Schema}
use Rattle.handle_table.proofs.NumberedLemmas.{get-push, get-set}
use Rattle.bind_core.specs.Play.{Play}
use Rattle.bind_model.specs.Laws.{up_from}
use Rattle.bind_model.specs.Replies.{Legal}
use Rattle.bind_model.specs.Seen.{own_of}
use Rattle.bind_model.specs.Wire.{Wire}
use Rattle.bind_model.specs.WireOf.{wire_of}
use Rattle.bind_model.specs.declared.asked.Asked.{Asked}
use Rattle.bind_model.specs.declared.asked.Asked.TheVariants.{Call}
use Rattle.bind_model.specs.declared.event.Event.{Event}
use Rattle.history_text.specs.declared.notes.Note as text
use Rattle.remote_receiver.specs.Held.{kept_of}
use Rattle.remote_receiver.specs.Notes.{HasKept, Kept}
use Rattle.remote_receiver.specs.declared.rest.Rest.{Rest}
use Rattle.callback_laws.specs.Callbacks.{callbacks_in}
use Rattle.callback_laws.specs.Ran.{event_of}
use Rattle.callback_laws.specs.Shown.{GivesJob, GivesJobs, shown}
use Rattle.callback_laws.proofs.Shown.{callbacks_are}
use Rattle.script_run.specs.declared.plain.Plain.{Plain}
use Rattle.script_run.specs.AtDesk.{AnswersZero, job_of, step_by, steps_of}
use Rattle.script_run.specs.steps.Ending.{HasCalled, HasEnded, RestFrom, RestsAt}
use Rattle.script_run.specs.Draining.{HaveRested}
use Rattle.script_run.specs.steps.Going.{IsWoken}
use Rattle.script_run.proofs.Serving.{has_job}
use Rattle.script_names.proofs.TableLemmas.{there}
use Rattle.script_run.proofs.Waking.{numbered}

-- ## Desks without callbacks

-- each of these has kept nothing
abbrev pub AreFresh : List (Rest Plain) → Type 0
AreFresh rests = (n : ℕ) (rest : Rest Plain) → slice_get rests n ≡ Some rest → HasKept AnswersZero [] (kept_of rest.jobs)

-- with one more
pub more_fresh : (rests : List (Rest Plain)) (last : Rest Plain) → HasKept AnswersZero [] (kept_of last.jobs) → AreFresh rests
    → AreFresh (rests ++ last ∷ [])
more_fresh rests last kept are n rest at = by (length rests == n) (sym (get-push last rests n) ∙ at)
  where
    by : (b : Bool) → (if b then Some last else slice_get rests n) ≡ Some rest → HasKept AnswersZero [] (kept_of rest.jobs)
    by true e = let same : last ≡ rest = cc in subst (λ (r : Rest Plain). HasKept AnswersZero [] (kept_of r.jobs)) same kept
    by false e = are n rest e

-- so they have rested where there are no events
pub have_rested : (schema : Schema) (seqs : ℕ) (rests : List (Rest Plain)) → length rests ≡ seqs → AreFresh rests
    → HaveRested (record { schema = schema; seqs = seqs; events = [] }) rests
have_rested schema seqs rests count are = record {
  count = count;
  each = λ s rest at.
      let kept = are s.0 rest at in
      record { kept = kept; drawn = λ key w there. absurd (kept.wait key w there) };
}

-- a list after a call that added to it
pub added : {X T E : Type 0} (result : Result T E) (old more new : List X) → new ≡ (if is_ok result then more else old) → is_err result ≡ false
    → new ≡ more
added (Ok x) old more new h e = h
added (Err x) old more new h e = absurd (true≢false e)

-- ## Waking

-- the others stay
pub others_stay : (s : SeqId) (rests : List (Rest Plain)) (rest : Rest Plain) (t : ℕ) → (t == s.0) ≡ false
    → slice_get (set rests s.0 rest) t ≡ slice_get rests t
others_stay s rests rest t other = get-set rest rests s.0 t ∙ by (s.0 == t) refl
  where
    by : (b : Bool) → (s.0 == t) ≡ b
        → (if b then option_map (λ (before : Rest Plain). rest) (slice_get rests t) else slice_get rests t) ≡ slice_get rests t
    by true e = let same : (t == s.0) ≡ true = eq-eqb t s.0 (sym (eqb-true s.0 t e)) in absurd cc
    by false e = refl

-- a desk of the list wakes, and another stands in its place
pub is_woken : (s : SeqId) (core : Play) (old new : List (Rest Plain)) (rest fresh : Rest Plain) (at : Play) (of : SeqId) (kept : Kept Plain)
    → slice_get old s.0 ≡ Some rest → new ≡ set old s.0 fresh → at ≡ core → of ≡ s → kept ≡ kept_of rest.jobs → IsWoken s core old new at of kept
is_woken s core old new rest fresh at of kept here set_there same_core same_seq same_kept = record {
  core = same_core;
  seq = same_seq;
  kept = λ r there_too. let same : rest ≡ r = cc in subst (λ (x : Rest Plain). kept ≡ kept_of x.jobs) same same_kept;
  count = ap length set_there ∙ length-set old s.0 fresh;
  others = λ t other. ap (λ (rs : List (Rest Plain)). slice_get rs t) set_there ∙ others_stay s old fresh t other;
}

-- where all have rested, the core has seen their calls
pub have_called : (core : Play) (s : SeqId) (rests : List (Rest Plain)) → HaveRested core rests → HasCalled core s rests
have_called core s rests rested rest at = (rested.each s rest at).drawn

-- ## The notes

own_are : (s : SeqId) (events : List Event) → AllByRecursion (λ (event : Event). (event.seq.0 == s.0) ≡ true) (own_of s events)
own_are s [] = tt
own_are s (event ∷ events) = by (event.seq.0 == s.0) refl (own_are s events)
  where
    by : (b : Bool) → (event.seq.0 == s.0) ≡ b → AllByRecursion (λ (e : Event). (e.seq.0 == s.0) ≡ true) (own_of s events)
        → AllByRecursion (λ (e : Event). (e.seq.0 == s.0) ≡ true) (cond b (event ∷ own_of s events) (own_of s events))
    by true e rest = (e, rest)
    by false e rest = rest

-- an event as one of this sequence
abbrev of_seq : SeqId → Event → Event
of_seq seq event = record { seq = seq; asked = event.asked; told = event.told }

-- the steps of a desk are its events
events_are : (wire : Wire) (s : SeqId) (events : List Event) → AllByRecursion (λ (event : Event). (event.seq.0 == s.0) ≡ true) events
    → events ≡ map (event_of s) (map (step_by wire) events)
events_are wire s [] are = refl
events_are wire s (event ∷ events) are =
    let same : event.seq ≡ s = ap numbered (eqb-true event.seq.0 s.0 are.0) in
    ap (λ (q : SeqId). of_seq q event ∷ events) same
    ∙ ap (λ (es : List Event). of_seq s event ∷ es) (events_are wire s events are.1)

gives_job : (wire : Wire) (asked : Asked) → GivesJob wire asked (job_of wire asked)
gives_job wire (Call end id outgoing) = has_job wire outgoing.target
gives_job wire asked = tt

-- each call with a response comes with a callback
gives_jobs : (wire : Wire) (events : List Event) → GivesJobs wire (map (step_by wire) events)
gives_jobs wire [] = tt
gives_jobs wire (event ∷ events) = (gives_job wire event.asked, gives_jobs wire events)

-- what the desk of a sequence noted
pub seq_noted : (core : Play) (s : SeqId) (kept : Kept Plain) → Legal (wire_of core.schema) core.seqs core.events → length core.events ≤ MAX_EVENTS
    → HasKept AnswersZero (steps_of core.schema s core.events) kept → map (shown s) kept.notes ≡ callbacks_in (own_of s core.events)
seq_noted core s kept legal few has =
    callbacks_are AnswersZero core.schema core.seqs s core.events (steps_of core.schema s core.events) kept.notes legal few
    (events_are (wire_of core.schema) s (own_of s core.events) (own_are s core.events)) (gives_jobs (wire_of core.schema) (own_of s core.events)) has.notes

-- by what it was when it woke
pub woken_noted : (core : Play) (s : SeqId) (old new : List (Rest Plain)) (at : Play) (of : SeqId) (kept : Kept Plain)
    → Legal (wire_of core.schema) core.seqs core.events → length core.events ≤ MAX_EVENTS → s.0 < length old → RestsAt core s old
    → IsWoken s core old new at of kept → map (shown s) kept.notes ≡ callbacks_in (own_of s core.events)
woken_noted core s old new at of kept legal few within rested is =
    let here = there old s.0 within in
    seq_noted core s kept legal few
    (subst (HasKept AnswersZero (steps_of core.schema s core.events)) (sym (is.kept here.0 here.1)) (rested here.0 here.1).kept)

-- ## One desk after the other

pub rest_all : (core : Play) (rests : List (Rest Plain)) → HaveRested core rests → RestFrom 0 core rests
rest_all core rests rested = record { count = rested.count; each = λ s from. rested.each s }

pub rest_next : (n : ℕ) (core : Play) (old new : List (Rest Plain)) → RestFrom n core old → HasEnded (numbered n) old new → RestFrom (n + 1) core new
rest_next n core old new from ended = record {
  count = ended.count ∙ from.count;
  each = λ s above rest at.
      let other : (s.0 == n) ≡ false = ne_eqb s.0 n (λ e. omega (arith, e, above)) in
      from.each s (omega (arith, above)) rest (sym (ended.others s.0 other) ∙ at);
}

-- the callbacks of the sequences below a number
abbrev pub noted_below : Play → ℕ → List text.Note
noted_below core n = flat_map (λ (k : ℕ). callbacks_in (own_of (record { 0 = k }) core.events)) (up_from 0 n)

up_from-more : (first n : ℕ) → up_from first (n + 1) ≡ up_from first n ++ (first + n) ∷ []
up_from-more first zero = let e : first + 0 ≡ first = omega arith in rw e refl
up_from-more first (suc n) =
    let e : suc n + 1 ≡ suc (n + 1) = omega arith in
    let f : suc first + n ≡ first + suc n = omega arith in
    rw e (ap (λ ns. first ∷ ns) (up_from-more (suc first) n ∙ ap (λ m. up_from (suc first) n ++ m ∷ []) f))

pub noted_more : (core : Play) (n : ℕ) → noted_below core (n + 1) ≡ noted_below core n ++ callbacks_in (own_of (numbered n) core.events)
noted_more core n =
    let notes_of : ℕ → List text.Note = λ (k : ℕ). callbacks_in (own_of (record { 0 = k }) core.events) in
    let last : 0 + n ≡ n = omega arith in
    ap (flat_map notes_of) (up_from-more 0 n ∙ ap (λ (k : ℕ). up_from 0 n ++ k ∷ []) last)
    ∙ (flat_map-append notes_of (up_from 0 n) (n ∷ [])
    ∙ ap (λ (ns : List text.Note). noted_below core n ++ ns) (append-nil (notes_of n)))

-- the callbacks of one sequence more
pub noted_next : (core : Play) (n : ℕ) (before after : List text.Note) → before ≡ noted_below core n
    → after ≡ before ++ callbacks_in (own_of (numbered n) core.events) → after ≡ noted_below core (n + 1)
noted_next core n before after so next =
    next ∙ (ap (λ (ns : List text.Note). ns ++ callbacks_in (own_of (numbered n) core.events)) so ∙ sym (noted_more core n))
