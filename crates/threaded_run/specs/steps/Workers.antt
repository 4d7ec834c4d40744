-- Workers: what they begin with, and what they leave.
use Rattle.std.specs.Prelude.{ℕ, false, ◌≡◌, ◌+◌, ◌<◌, ◌≤◌, List, length, Option, Some, IfNone, IfSome, slice_get}
use Rattle.mj_base.specs.declared.limits.TheConstants.{MAX_EVENTS}
use Rattle.mj_schema.specs.declared.schema.Schema.{Schema}
use Rattle.call_script.specs.declared.script.Script.{Script}
use Rattle.remote_receiver.specs.Held.{kept_of}
use Rattle.remote_receiver.specs.Notes.{Kept}
use Rattle.remote_receiver.specs.Waits.{AreDrawn}
use Rattle.remote_receiver.specs.declared.rest.Rest.{Rest}
use Rattle.script_names.specs.Held.{HaveNames}
use Rattle.script_names.specs.declared.rooms.Rooms.{Rooms}
use Rattle.script_run.specs.AtDesk.{IsLater, Seen}
use Rattle.script_run.specs.Working.{CutWork, Works}
use Rattle.script_run.specs.declared.cut.Cut.{Cut}
use Rattle.script_run.specs.declared.cut.Cut.TheVariants as cuts
use Rattle.script_run.specs.declared.plain.Plain.{Plain}
use Rattle.bind_hub.specs.Passes.{seq_at}
use Rattle.threaded_run.specs.steps.Passes.{HubPass}

-- a sequence can do its lines: its desk is of this schema and of the script's sequences, and it has the script's names
pub record IsReady (script : Script) (schema : Schema) (at : Seen) (room : Rooms) : Type 0 where
  pub within : at.me.0 < at.seqs
  pub schema_is : at.schema ≡ schema
  pub seqs : at.seqs ≡ script.seqs
  pub names : HaveNames script.names room

-- it did all of its lines, or as much as it says where it was cut off; it is cut off as spent only where it has seen all events that there may be
abbrev pub WorkerDid : Script → Seen → Seen → Kept Plain → Kept Plain → Rooms → Rooms → Option Cut → Type 0
WorkerDid script before after old new held rooms cut =
    IsLater before after × IfSome cut (λ c. CutWork script before after held) × IfNone cut (Works script before after old new held rooms)
    × (cut ≡ Some cuts.Spent → MAX_EVENTS ≤ length after.events)

-- what the seat of a pass sees
abbrev pub seen_at : Schema → ℕ → HubPass → Seen
seen_at schema seqs p = record { schema = schema; seqs = seqs; alone = false; me = seq_at p.number; events = p.place.me.0.seen }

-- the worker at this place, counted from the last, has this pass, what its desk kept, and its room
pub record IsSeated (passes : List HubPass) (rests : List (Rest Plain)) (rooms : List Rooms) (j : ℕ) (pass : HubPass) (kept : Kept Plain) (room : Rooms)
    : Type 0 where
  pub at : ℕ
  pub rest : Rest Plain
  pub number : at + (j + 1) ≡ length passes
  pub pass_is : slice_get passes at ≡ Some pass
  pub rest_is : slice_get rests at ≡ Some rest
  pub kept_is : kept ≡ kept_of rest.jobs
  pub room_is : slice_get rooms at ≡ Some room

-- the sequence of this number worked: with which pass, desk and room it began, and what it did
pub record HasReturned (script : Script) (schema : Schema) (seqs : ℕ) (passes : List HubPass) (rests : List (Rest Plain)) (rooms : List Rooms) (k : ℕ)
    (q : HubPass) (rest : Rest Plain) : Type 0 where
  pub pass : HubPass
  pub was : Rest Plain
  pub room : Rooms
  pub room' : Rooms
  pub cut : Option Cut
  pub pass_is : slice_get passes k ≡ Some pass
  pub rest_is : slice_get rests k ≡ Some was
  pub room_is : slice_get rooms k ≡ Some room
  pub number : q.number ≡ pass.number
  pub did : WorkerDid script (seen_at schema seqs pass) (seen_at schema seqs q) (kept_of was.jobs) (kept_of rest.jobs) room room' cut
  pub drawn : AreDrawn q.place.me.0.seen rest.jobs.waiting.callbacks
