-- Which jobs ran, by the responses alone: whatever showed the end of an endpoint before.
use Rattle.std.specs.Prelude.{ℕ, false, ◌≡◌, ◌≤◌, List, [], ◌∷◌, length, map, Option, None}
use Rattle.mj_base.specs.declared.ids.SeqId.{SeqId}
use Rattle.mj_base.specs.declared.limits.TheConstants.{MAX_EVENTS}
use Rattle.mj_schema.specs.declared.schema.Schema.{Schema}
use Rattle.bind_model.specs.declared.event.Event.{Event}
use Rattle.bind_model.specs.Replies.{Legal}
use Rattle.bind_model.specs.WireOf.{wire_of}
use Rattle.ending_laws.specs.Callers.{IsAmong}
use Rattle.response_map.specs.declared.key.Key.{Key}
use Rattle.remote_receiver.specs.declared.job.Answered.{Answered}
use Rattle.remote_receiver.specs.declared.note.Note.{Note}
use Rattle.remote_receiver.specs.Notes.{FirstNote, first_told}
use Rattle.remote_receiver.specs.Stepped.{Step, given, response_by}

module _ {C : Type 0} where
  -- the event that a step of a sequence is
  abbrev pub event_of : SeqId → Step C → Event
  event_of me step = record { seq = me; asked = step.asked; told = step.told }

  -- the first response to a request among the steps behind its call
  abbrev pub response_to : Key → List (Step C) → Option Answered
  response_to key [] = None
  response_to key (step ∷ later) = first_told (response_by key step.asked step.told) false (response_to key later)

-- the steps are events of a sequence, in their order, in a legal history that is no longer than a core's
pub record AreEvents {C : Type 0} (schema : Schema) (seqs : ℕ) (me : SeqId) (history : List Event) (steps : List (Step C)) : Type 0 where
  pub legal : Legal (wire_of schema) seqs history
  pub room : length history ≤ MAX_EVENTS
  pub among : IsAmong (map (event_of me) steps) history

module _ {C : Type 0} (promises : C → Answered → ℕ → Type 0) where
  -- one note for each job that was given with a call that was sent, in order: it ran exactly where there is a response to its request
  abbrev pub RanOnResponses : List (Step C) → List Note → Type 0
  RanOnResponses [] notes = notes ≡ []
  RanOnResponses (step ∷ later) notes = FirstNote promises (given step) (λ key. response_to key later) (RanOnResponses later) notes
