-- The desks of a run that ends, one after the other.
use Rattle.std.specs.Prelude.{ℕ, false, ◌≡◌, ◌≤◌, ◌==◌, List, length, Some, slice_get}
use Rattle.mj_base.specs.declared.ids.SeqId.{SeqId}
use Rattle.bind_core.specs.Play.{Play}
use Rattle.remote_receiver.specs.Waits.{AreDrawn}
use Rattle.remote_receiver.specs.declared.rest.Rest.{Rest}
use Rattle.script_run.specs.declared.plain.Plain.{Plain}
use Rattle.script_run.specs.Draining.{HasRested}

-- the core has seen the calls that the callbacks of a sequence's desk came with
abbrev pub HasCalled : Play → SeqId → List (Rest Plain) → Type 0
HasCalled core s rests = (rest : Rest Plain) → slice_get rests s.0 ≡ Some rest → AreDrawn core.events rest.jobs.waiting.callbacks

-- the desk of a sequence is at rest
abbrev pub RestsAt : Play → SeqId → List (Rest Plain) → Type 0
RestsAt core s rests = (rest : Rest Plain) → slice_get rests s.0 ≡ Some rest → HasRested core s rest

-- so are those of the sequences from this number on
pub record RestFrom (first : ℕ) (core : Play) (rests : List (Rest Plain)) : Type 0 where
  pub count : length rests ≡ core.seqs
  pub each : (s : SeqId) → first ≤ s.0 → RestsAt core s rests

-- the desk of a sequence has ended, and no other
pub record HasEnded (s : SeqId) (old new : List (Rest Plain)) : Type 0 where
  pub count : length new ≡ length old
  pub others : (t : ℕ) → (t == s.0) ≡ false → slice_get new t ≡ slice_get old t
