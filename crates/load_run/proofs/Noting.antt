-- What the desk of a sequence noted, as its events say it: how many of its callbacks ran.
use Rattle.std.proofs.Common.{◌≡◌, ◌≤◌, ◌+◌, Bool, true, false, List, [], ◌∷◌, length, refl, sym, ap, ◌∙◌, arith, eqb-true}
use Rattle.std.specs.Prelude.{◌==◌, cond, map}
use Rattle.std.specs.List.{AllByRecursion, count_by}
use Rattle.std.proofs.lemmas.List.Recursion.{is_count_by}
use Rattle.std.proofs.lemmas.List.Sums.{sum_by-cons}
use Rattle.mj_base.specs.declared.ids.SeqId.{SeqId}
use Rattle.mj_base.specs.declared.limits.TheConstants.{MAX_EVENTS}
use Rattle.bind_core.specs.Play.{Play}
use Rattle.bind_model.specs.Replies.{Legal}
use Rattle.bind_model.specs.Seen.{own_of}
use Rattle.bind_model.specs.Wire.{Wire}
use Rattle.bind_model.specs.WireOf.{wire_of}
use Rattle.bind_model.specs.declared.asked.Asked.{Asked}
use Rattle.bind_model.specs.declared.asked.Asked.TheVariants.{Call}
use Rattle.bind_model.specs.declared.event.Event.{Event}
use Rattle.history_text.specs.declared.notes.Note as text
use Rattle.remote_receiver.specs.Notes.{HasKept, Kept}
use Rattle.remote_receiver.specs.declared.note.Note as desk
use Rattle.callback_laws.specs.Callbacks.{callbacks_in, fate_of}
use Rattle.callback_laws.specs.Ran.{event_of}
use Rattle.callback_laws.specs.Shown.{GivesJob, GivesJobs, shown}
use Rattle.callback_laws.proofs.Shown.{callbacks_are}
use Rattle.script_run.specs.AtDesk.{AnswersZero, job_of, step_by, steps_of}
use Rattle.script_run.specs.declared.plain.Plain.{Plain}
use Rattle.script_run.proofs.Serving.{has_job}
use Rattle.load_run.specs.Commands.{numbered}
use Rattle.load_run.specs.Counts.{has_run, ran_of}

-- ## The notes

own_are : (s : SeqId) (events : List Event) → AllByRecursion (λ (event : Event). (event.seq.0 == s.0) ≡ true) (own_of s events)
own_are s [] = tt
own_are s (event ∷ events) = by (event.seq.0 == s.0) refl (own_are s events)
  where
    by : (b : Bool) → (event.seq.0 == s.0) ≡ b → AllByRecursion (λ (e : Event). (e.seq.0 == s.0) ≡ true) (own_of s events)
        → AllByRecursion (λ (e : Event). (e.seq.0 == s.0) ≡ true) (cond b (event ∷ own_of s events) (own_of s events))
    by true e rest = (e, rest)
    by false e rest = rest

-- an event as one of this sequence
abbrev of_seq : SeqId → Event → Event
of_seq seq event = record { seq = seq; asked = event.asked; told = event.told }

-- the steps of a desk are its events
events_are : (wire : Wire) (s : SeqId) (events : List Event) → AllByRecursion (λ (event : Event). (event.seq.0 == s.0) ≡ true) events
    → events ≡ map (event_of s) (map (step_by wire) events)
events_are wire s [] are = refl
events_are wire s (event ∷ events) are =
    let same : event.seq ≡ s = ap numbered (eqb-true event.seq.0 s.0 are.0) in
    ap (λ (q : SeqId). of_seq q event ∷ events) same
    ∙ ap (λ (es : List Event). of_seq s event ∷ es) (events_are wire s events are.1)

gives_job : (wire : Wire) (asked : Asked) → GivesJob wire asked (job_of wire asked)
gives_job wire (Call end id outgoing) = has_job wire outgoing.target
gives_job wire asked = tt

-- each call with a response comes with a callback
gives_jobs : (wire : Wire) (events : List Event) → GivesJobs wire (map (step_by wire) events)
gives_jobs wire [] = tt
gives_jobs wire (event ∷ events) = (gives_job wire event.asked, gives_jobs wire events)

-- what the desk of a sequence noted
seq_noted : (core : Play) (s : SeqId) (kept : Kept Plain) → Legal (wire_of core.schema) core.seqs core.events → length core.events ≤ MAX_EVENTS
    → HasKept AnswersZero (steps_of core.schema s core.events) kept → map (shown s) kept.notes ≡ callbacks_in (own_of s core.events)
seq_noted core s kept legal few has =
    callbacks_are AnswersZero core.schema core.seqs s core.events (steps_of core.schema s core.events) kept.notes legal few
    (events_are (wire_of core.schema) s (own_of s core.events) (own_are s core.events)) (gives_jobs (wire_of core.schema) (own_of s core.events)) has.notes

-- ## Those that ran

count_cons : {X : Type 0} (q : X → Bool) (y : X) (ys : List X) → count_by q (y ∷ ys) ≡ cond (q y) (1 + count_by q ys) (count_by q ys)
count_cons {X} q y ys = sum_by-cons (λ (x : X). cond (q x) 1 0) y ys ∙ by (q y)
  where
    by : (b : Bool) → cond b 1 0 + count_by q ys ≡ cond b (1 + count_by q ys) (count_by q ys)
    by true = refl
    by false = omega arith

run_of : (b : Bool) → has_run (fate_of b) ≡ b
run_of true = refl
run_of false = refl

ran_shown : (s : SeqId) (notes : List desk.Note) → count_by (λ (note : desk.Note). note.ran) notes ≡ ran_of (map (shown s) notes)
ran_shown s notes =
    sym (is_count_by (λ (ns : List desk.Note). ran_of (map (shown s) ns)) (λ (note : desk.Note). note.ran) refl step notes)
  where
    step : (x : desk.Note) (xs : List desk.Note)
        → ran_of (map (shown s) (x ∷ xs)) ≡ cond x.ran (1 + ran_of (map (shown s) xs)) (ran_of (map (shown s) xs))
    step x xs =
        count_cons (λ (note : text.Note). has_run note.fate) (shown s x) (map (shown s) xs)
        ∙ ap (λ (b : Bool). cond b (1 + ran_of (map (shown s) xs)) (ran_of (map (shown s) xs))) (run_of x.ran)

-- how many callbacks of a sequence ran, by the notes of its desk
pub seq_ran : (core : Play) (s : SeqId) (kept : Kept Plain) → Legal (wire_of core.schema) core.seqs core.events → length core.events ≤ MAX_EVENTS
    → HasKept AnswersZero (steps_of core.schema s core.events) kept
    → count_by (λ (note : desk.Note). note.ran) kept.notes ≡ ran_of (callbacks_in (own_of s core.events))
seq_ran core s kept legal few has = ran_shown s kept.notes ∙ ap ran_of (seq_noted core s kept legal few has)
