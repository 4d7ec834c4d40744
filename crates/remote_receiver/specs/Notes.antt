-- What became of each job that a desk was given, by its steps, the oldest first.
use Rattle.std.specs.Prelude.{ℕ, zero, suc, Bool, true, false, ◌≡◌, ◌++◌, List, [], ◌∷◌, Option, Some, None}
use Rattle.std.specs.FinMap.{FinMap, get}
use Rattle.response_map.specs.Keys.{key_cmp}
use Rattle.response_map.specs.declared.key.Key.{Key}
use Rattle.remote_receiver.specs.declared.job.Answered.{Answered}
use Rattle.remote_receiver.specs.declared.jobs.Waiting.{Waiting}
use Rattle.remote_receiver.specs.declared.note.Note.{Note}
use Rattle.remote_receiver.specs.Stepped.{Step, given, response_by, shows_end}

-- the note of a job that didn't run
abbrev pub unrun : Key → Note
unrun key = record { key = key; ran = false; note = 0 }

-- the response that a step is, none where it shows the end, else that of the steps behind it
abbrev pub first_told : Option Answered → Bool → Option Answered → Option Answered
first_told (Some got) over later = Some got
first_told None true later = None
first_told None false later = later

module _ {C : Type 0} where
  -- the response to a request among the steps behind its call, unless its end was shown before
  abbrev pub response_in : Key → List (Step C) → Option Answered
  response_in key [] = None
  response_in key (step ∷ later) = first_told (response_by key step.asked step.told) (shows_end key step.asked step.told) (response_in key later)

  -- no step was a response to a request, and none showed its end
  abbrev pub IsOpen : Key → List (Step C) → Type 0
  IsOpen key [] = Unit {0}
  IsOpen key (step ∷ later) = (response_by key step.asked step.told ≡ None) × (shows_end key step.asked step.told ≡ false) × IsOpen key later

module _ {C : Type 0} (promises : C → Answered → ℕ → Type 0) where
  -- a job ran on the response to its request, and its note is what it answered; without a response it didn't run
  abbrev pub Became : C → Key → Option Answered → Note → Type 0
  Became job key None note = note ≡ unrun key
  Became job key (Some got) note = (note.key ≡ key) × (note.ran ≡ true) × promises job got note.note

  -- the notes of a step that gave this job or none, and of the later ones
  abbrev pub FirstNote : Option (Key × C) → (Key → Option Answered) → (List Note → Type 0) → List Note → Type 0
  FirstNote None response later notes = later notes
  FirstNote (Some one) response later notes =
      (note : Note) × (rest : List Note) × (notes ≡ note ∷ rest) × Became one.1 one.0 (response one.0) note × later rest

  -- one note for each job that was given with a call that was sent, in order
  abbrev pub AreNotes : List (Step C) → List Note → Type 0
  AreNotes [] notes = notes ≡ []
  AreNotes (step ∷ later) notes = FirstNote (given step) (λ key. response_in key later) (AreNotes later) notes

module _ {C : Type 0} where
  -- the job of this number, among one that a step gave or none and the later ones
  abbrev pub NumberedJob : Option (Key × C) → (Key → Type 0) → (Key → C → ℕ → Type 0) → Key → C → ℕ → Type 0
  NumberedJob None waits later key job at = later key job at
  NumberedJob (Some one) waits later key job zero = (one ≡ (key, job)) × waits key
  NumberedJob (Some one) waits later key job (suc at) = later key job at

  -- this job waits under this request, and its note is the one of this number
  abbrev pub IsWaiting : List (Step C) → Key → C → ℕ → Type 0
  IsWaiting [] key job at = ⊥
  IsWaiting (step ∷ later) key job at = NumberedJob (given step) (λ k. IsOpen k later) (IsWaiting later) key job at

-- what a desk keeps: the jobs that wait, each with the number of its note, and the notes
pub record Kept (C : Type 0) : Type 0 where
  pub waiting : FinMap key_cmp (Waiting C)
  pub notes : List Note

-- it has kept the notes of its steps, and just the jobs that wait
pub record HasKept {C : Type 0} (promises : C → Answered → ℕ → Type 0) (steps : List (Step C)) (kept : Kept C) : Type 0 where
  pub notes : AreNotes promises steps kept.notes
  pub wait : (key : Key) (w : Waiting C) → get kept.waiting key ≡ Some w → IsWaiting steps key w.job w.at
  pub all : (key : Key) (job : C) (at : ℕ) → IsWaiting steps key job at → get kept.waiting key ≡ Some (record { job = job; at = at })

-- with one step more it keeps what becomes of the jobs by it
abbrev pub Follows : {C : Type 0} → (C → Answered → ℕ → Type 0) → Kept C → Step C → Kept C → Type 0
Follows {C} promises old step new = (steps : List (Step C)) → HasKept promises steps old → HasKept promises (steps ++ step ∷ []) new
