-- What a reply does to what a desk keeps.
use Rattle.bind_model.specs.declared.told.Noted.TheVariants as noted
use Rattle.std.specs.Prelude.{ℕ, Bool, true, false, ◌≡◌, ◌==◌, ◌++◌, not, List, [], ◌∷◌, length, slice_set, Option, Some, None, if◌then◌else◌}
use Rattle.std.specs.FinMap.{get, insert, remove, retain_keys}
use Rattle.mj_base.specs.declared.ids.EndId.{EndId}
use Rattle.bind_model.specs.declared.commands.Command.{Command}
use Rattle.bind_model.specs.declared.commands.Command.TheVariants.{Close}
use Rattle.bind_model.specs.declared.commands.ToClose.TheVariants.{Endpoint, Pending}
use Rattle.bind_model.specs.Replies.{is_response}
use Rattle.bind_model.specs.declared.told.Told.{Told}
use Rattle.bind_model.specs.declared.told.Told.TheVariants.{Taken, Control, Bad, Closed, No}
use Rattle.bind_model.specs.declared.told.Why.TheVariants.{PeerClosed}
use Rattle.response_map.specs.Keys.{is_of_end, is_of_endpoint}
use Rattle.response_map.specs.declared.key.Key.{Key}
use Rattle.remote_receiver.specs.declared.job.Answered.{Answered}
use Rattle.remote_receiver.specs.declared.jobs.Waiting.{Waiting}
use Rattle.remote_receiver.specs.declared.note.Note.{Note}
use Rattle.remote_receiver.specs.declared.told.Ends.{Ends}
use Rattle.remote_receiver.specs.declared.told.Ends.TheVariants.{All, One}
use Rattle.remote_receiver.specs.Notes.{Kept, unrun}
use Rattle.remote_receiver.specs.Stepped.{answered, key_of}

-- what closing the endpoint of this id would end
abbrev pub ends_with : EndId → ℕ → Ends
ends_with end id = if id == 0 then All end else One end id

-- what a command would end: the endpoint that it closes, or whose other half it does
abbrev pub ended_by : Command → Option Ends
ended_by (Close (Endpoint end id)) = Some (ends_with end id)
ended_by (Close (Pending pending)) = Some (One pending.name.end pending.name.id)
ended_by command = None

module _ {C : Type 0} where
  -- the jobs under these requests are dropped, and no note changes
  abbrev pub Dropped : (Key → Bool) → Kept C → Kept C → Type 0
  Dropped over old new = (new.waiting ≡ retain_keys old.waiting (λ key. not (over key))) × (new.notes ≡ old.notes)

  -- a job that came with a call waits, and its note is the last
  abbrev pub Keeps : Key → Option C → Kept C → Kept C → Type 0
  Keeps key None old new = new ≡ old
  Keeps key (Some job) old new =
      (new.waiting ≡ insert old.waiting key (record { job = job; at = length old.notes })) × (new.notes ≡ old.notes ++ unrun key ∷ [])

  -- the jobs of what ends are dropped
  abbrev pub AfterEnds : Ends → Kept C → Kept C → Type 0
  AfterEnds (All end) old new = Dropped (is_of_end end) old new
  AfterEnds (One end id) old new = Dropped (is_of_endpoint end id) old new

  -- the jobs of what was closed are dropped, where it was; else nothing changes
  abbrev pub AfterClose : Option Ends → Told → Kept C → Kept C → Type 0
  AfterClose (Some ends) (Closed gone) old new = AfterEnds ends old new
  AfterClose ends told old new = new ≡ old

  -- a take that shows the end of an endpoint, or of all of an end
  abbrev pub AfterEnd : EndId → Told → Kept C → Kept C → Type 0
  AfterEnd end (Control (noted.Closed id)) old new = Dropped (is_of_endpoint end id) old new
  AfterEnd end (Bad why gone) old new = Dropped (is_of_end end) old new
  AfterEnd end (No PeerClosed) old new = Dropped (is_of_end end) old new
  AfterEnd end told old new = new ≡ old

module _ {C : Type 0} (promises : C → Answered → ℕ → Type 0) where
  -- a job that waits runs, and its note says so
  abbrev pub Noted : Answered → Option (Waiting C) → List Note → List Note → Type 0
  Noted got None old new = new ≡ old
  Noted got (Some w) old new = (note : ℕ) × promises w.job got note × (new ≡ slice_set old w.at (record { key = key_of got; ran = true; note = note }))

  -- the job that waits for a response waits no more, and runs
  abbrev pub Heard : Answered → Kept C → Kept C → Type 0
  Heard got old new = (new.waiting ≡ remove old.waiting (key_of got)) × Noted got (get old.waiting (key_of got)) old.notes new.notes

  -- only a response is heard
  abbrev pub HeardIf : Bool → Answered → Kept C → Kept C → Type 0
  HeardIf true got old new = Heard got old new
  HeardIf false got old new = new ≡ old

  -- what a take got is heard, where it is a response
  abbrev pub AfterGot : EndId → Told → Kept C → Kept C → Type 0
  AfterGot end (Taken g) old new = HeardIf (is_response g.target.side) (answered end g) old new
  AfterGot end told old new = new ≡ old

  -- after a take: a response was heard, or an end was seen
  abbrev pub AfterTake : EndId → Told → Kept C → Kept C → Type 0
  AfterTake end (Taken g) old new = AfterGot end (Taken g) old new
  AfterTake end told old new = AfterEnd end told old new
