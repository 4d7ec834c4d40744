-- What the desk of a sequence stands on, and what becomes of the callbacks of its calls.
use Rattle.std.specs.Prelude.{ℕ, Bool, true, ◌≡◌, ◌≤◌, ◌++◌, List, length, map, Option, Some, None, Result, IfOk, IfErr, OnErr, if◌then◌else◌}
use Rattle.mj_base.specs.declared.ids.SeqId.{SeqId}
use Rattle.mj_base.specs.declared.limits.TheConstants.{MAX_EVENTS}
use Rattle.mj_schema.specs.declared.schema.Schema.{Schema}
use Rattle.wire_model.specs.declared.target.Target.{Target}
use Rattle.bind_model.specs.declared.asked.Asked.{Asked}
use Rattle.bind_model.specs.declared.asked.Asked.TheVariants.{Call}
use Rattle.bind_model.specs.declared.commands.Command.{Command}
use Rattle.bind_model.specs.declared.commands.Refused.{Refused}
use Rattle.bind_model.specs.declared.commands.Refused.TheVariants as refusals
use Rattle.bind_model.specs.declared.commands.Reply.{Reply}
use Rattle.bind_model.specs.declared.event.Event.{Event}
use Rattle.bind_model.specs.Plain.{asked_of, command_of, told_of}
use Rattle.bind_model.specs.Seen.{KeepsLegal, Saw, own_of}
use Rattle.bind_model.specs.Wire.{Wire}
use Rattle.bind_model.specs.WireOf.{wire_of}
use Rattle.remote_receiver.specs.Calls.{Stays}
use Rattle.remote_receiver.specs.Notes.{Follows, Kept}
use Rattle.remote_receiver.specs.Stepped.{Step}
use Rattle.remote_receiver.specs.declared.job.Answered.{Answered}
use Rattle.script_run.specs.declared.plain.Plain.{Plain}

-- ## Callbacks

-- the callback of a script's call, which keeps nothing
abbrev pub plain : Plain
plain = record {}

-- what such a callback promises: its note is 0
abbrev pub AnswersZero : Plain → Answered → ℕ → Type 0
AnswersZero job got note = note ≡ 0

-- the callback that comes with a call of a method: one with a response has one
abbrev pub job_of_method : Wire → Target → Option Plain
job_of_method wire target = if wire.responds target.interface target.method then Some plain else None

-- the one that comes with what is asked
abbrev pub job_of : Wire → Asked → Option Plain
job_of wire (Call end id outgoing) = job_of_method wire outgoing.target
job_of wire asked = None

-- the step of a desk that an event of its sequence is
abbrev pub step_by : Wire → Event → Step Plain
step_by wire event = record { asked = event.asked; told = event.told; job = job_of wire event.asked }

-- the steps of a sequence among all events
abbrev pub steps_of : Schema → SeqId → List Event → List (Step Plain)
steps_of schema s events = map (step_by (wire_of schema)) (own_of s events)

-- ## What a desk's stepper is

-- its schema, how many sequences there are, whether nobody else steps meanwhile, whose desk it is, and the events that were seen there
pub record Seen : Type 0 where
  pub schema : Schema
  pub seqs : ℕ
  pub alone : Bool
  pub me : SeqId
  pub events : List Event

-- all of this of a stepper, by what tells each part of it
abbrev pub seen_by : {P : Type 0} → (P → Schema) → (P → ℕ) → (P → Bool) → (P → SeqId) → (P → List Event) → P → Seen
seen_by schema seqs alone me events p = record { schema = schema p; seqs = seqs p; alone = alone p; me = me p; events = events p }

-- it is the same but for the events
pub record SameDesk (before after : Seen) : Type 0 where
  pub schema : after.schema ≡ before.schema
  pub seqs : after.seqs ≡ before.seqs
  pub alone : after.alone ≡ before.alone
  pub me : after.me ≡ before.me

-- a list begins with another
abbrev pub Begins : {A : Type 0} → List A → List A → Type 0
Begins {A} first now = (more : List A) × (now ≡ first ++ more)

-- it is the same but for the events, which begin with those before and are legal where those are
pub record IsLater (before after : Seen) : Type 0 where
  pub same : SameDesk before after
  pub begins : Begins before.events after.events
  pub legal : KeepsLegal before.schema before.seqs before.events after.events

-- these events of the sequence came, and where nobody else steps meanwhile no others
pub record Adds (before after : Seen) (events : List Event) : Type 0 where
  pub own : own_of before.me after.events ≡ own_of before.me before.events ++ events
  pub sole : before.alone ≡ true → after.events ≡ before.events ++ events

-- ## One command

-- a desk saw this command and its reply between these two
abbrev pub SawAt : Seen → Seen → Command → Reply → Type 0
SawAt before after command reply =
    Saw before.schema before.seqs before.alone before.me before.events after.events command reply

-- a command comes back as spent only where there are 16,777,216 events
abbrev pub IsSpentOnly : ℕ → Refused → Type 0
IsSpentOnly events (refusals.Memory command) = Unit {0}
IsSpentOnly events (refusals.Spent command) = MAX_EVENTS ≤ events

-- there is no event of the sequence, and the command comes back
abbrev pub NotServed : Seen → Seen → Command → Refused → Type 0
NotServed before after command refused =
    Stays before.schema before.seqs before.alone before.me before.events after.events
    × (command_of refused ≡ command) × IsSpentOnly (length after.events) refused

-- what a desk did with a command, and what its callbacks are then
pub record Served (before after : Seen) (command : Command) (old new : Kept Plain) (result : Result Reply Refused) : Type 0 where
  pub same : SameDesk before after
  pub event : IfOk result (SawAt before after command)
  pub kept : IfOk result (λ reply. Follows AnswersZero old
      (step_by (wire_of before.schema) (record { seq = before.me; asked = asked_of command; told = told_of reply })) new)
  pub refused : IfErr result (NotServed before after command)
  pub unmoved : OnErr result (new ≡ old)
