-- A core as a turn sees it, and what one command does to it.
use Rattle.std.specs.Prelude.{ℕ, ◌≡◌, ◌<◌, ◌≤◌, ◌++◌, List, [], ◌∷◌, length, reverse, Result, Ok, Err}
use Rattle.mj_base.specs.declared.ids.SeqId.{SeqId}
use Rattle.mj_base.specs.declared.limits.TheConstants.{MAX_EVENTS}
use Rattle.mj_schema.specs.declared.schema.Schema.{Schema}
use Rattle.bind_model.specs.declared.event.Event.{Event}
use Rattle.bind_model.specs.declared.commands.Command.{Command}
use Rattle.bind_model.specs.declared.commands.Reply.{Reply}
use Rattle.bind_model.specs.declared.commands.Refused.{Refused}
use Rattle.bind_model.specs.Replies.{Legal}
use Rattle.bind_model.specs.WireOf.{wire_of}
use Rattle.bind_model.specs.Plain.{asked_of, told_of, HandsBack, HandsPendings, HandsResponders, command_of, IsSpentAt}
use Rattle.bind_core.specs.Play.{Play, told_at}

-- the pass that an event names: that of its sequence
abbrev pub number_of : Event → ℕ
number_of event = event.seq.0

-- what of a core stays the same for ever: its schema and how many sequences it has
abbrev pub Basis : Type 0
Basis = Schema × ℕ

-- the events that a core may have: each reply is the one that the events before it give, and there are 16,777,216 at most
abbrev pub is_lawful : Basis → List Event → Type 0
is_lawful basis events = Legal (wire_of basis.0) basis.1 events × (length events ≤ MAX_EVENTS)

-- the event that a command is behind a core's events
abbrev pub event_at : Play → SeqId → Command → Event
event_at old seq command = record { seq = seq; asked = asked_of command; told = told_at old seq command }

-- a command was done: the history gains its event, and the caller gets what the event hands out
pub record Does (old : Play) (seq : SeqId) (command : Command) (reply : Reply) (new : Play) : Type 0 where
  pub event : new.events ≡ old.events ++ event_at old seq command ∷ []
  pub told : told_of reply ≡ told_at old seq command
  pub back : HandsBack command reply
  pub responders : HandsResponders (wire_of old.schema) command reply
  pub pendings : HandsPendings (wire_of old.schema) (reverse new.events) command reply
  pub room : length old.events < MAX_EVENTS

-- it wasn't, and comes back: it is spent exactly where 16,777,216 events stand
pub record Declines (old : Play) (command : Command) (refused : Refused) (new : Play) : Type 0 where
  pub back : command_of refused ≡ command
  pub events : new.events ≡ old.events
  pub spent : IsSpentAt (length old.events) refused

-- the one or the other
abbrev pub Outcome : Play → SeqId → Command → Result Reply Refused → Play → Type 0
Outcome old seq command (Ok reply) new = Does old seq command reply new
Outcome old seq command (Err refused) new = Declines old command refused new

-- one command of a core: its schema and its sequences stay
pub record CoreSteps (old : Play) (seq : SeqId) (command : Command) (result : Result Reply Refused) (new : Play) : Type 0 where
  pub schema : new.schema ≡ old.schema
  pub seqs : new.seqs ≡ old.seqs
  pub outcome : Outcome old seq command result new
