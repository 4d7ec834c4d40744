-- What a desk does for its sequence.
use Rattle.script_run.specs.AtDesk.{Adds, AnswersZero, SameDesk, Seen, step_by}
use Rattle.std.specs.Prelude.{true, ◌≡◌, ◌≤◌, ◌⊎◌, ◌++◌, List, [], ◌∷◌, length}
use Rattle.std.specs.Prelude.{Option, Some, None, Result, Ok, Err}
use Rattle.std.specs.Option.{option_map}
use Rattle.mj_base.specs.declared.ids.EndId.{EndId}
use Rattle.mj_base.specs.declared.ids.SeqId.{SeqId}
use Rattle.mj_base.specs.declared.limits.TheConstants.{MAX_EVENTS}
use Rattle.mj_schema.specs.declared.schema.Schema.{Schema}
use Rattle.bind_model.specs.declared.asked.Asked.{Asked}
use Rattle.bind_model.specs.declared.asked.Asked.TheVariants.{Take}
use Rattle.bind_model.specs.declared.endpoint.ResponderId.{ResponderId}
use Rattle.bind_model.specs.declared.told.Told.{Told}
use Rattle.bind_model.specs.Replies.{responders_handed}
use Rattle.bind_model.specs.Seen.{own_of}
use Rattle.bind_model.specs.WireOf.{wire_of}
use Rattle.bind_model.specs.declared.commands.Refused.{Refused}
use Rattle.bind_model.specs.declared.commands.Refused.TheVariants as refusals
use Rattle.bind_model.specs.declared.commands.Reply.{Reply}
use Rattle.bind_model.specs.declared.commands.Reply.TheVariants as replies
use Rattle.call_script.specs.declared.script.AutoReply.{AutoReply}
use Rattle.call_script.specs.declared.script.Line.{Line}
use Rattle.remote_receiver.specs.Calls.{Stays}
use Rattle.remote_receiver.specs.Notes.{Follows, Kept}
use Rattle.remote_receiver.specs.declared.call.CallRefused.{CallRefused}
use Rattle.remote_receiver.specs.declared.call.CallRefused.TheVariants.{No, Memory, Spent}
use Rattle.remote_receiver.specs.declared.call.Sent.{Sent}
use Rattle.script_names.specs.Autos.{Due, due_for}
use Rattle.script_names.specs.Names.{Named, named_after}
use Rattle.script_run.specs.OfScript.{replied}
use Rattle.script_names.specs.Asking.{asked_by}
use Rattle.script_names.specs.Settling.{EndsWith}
use Rattle.script_run.specs.declared.cut.Cut.{Cut}
use Rattle.script_run.specs.declared.cut.Cut.TheVariants as cuts
use Rattle.script_run.specs.declared.plain.Plain.{Plain}

-- ## One command

-- what a call answers, as a reply; a callback that comes back is let go
abbrev pub answered_as : Result Sent (CallRefused Plain) → Result Reply Refused
answered_as (Ok sent) = Ok (replies.Sent sent.request sent.bytes)
answered_as (Err (No why command job)) = Ok (replies.No why command)
answered_as (Err (Memory command job)) = Err (refusals.Memory command)
answered_as (Err (Spent command job)) = Err (refusals.Spent command)

-- ## One event

-- one event of the sequence more, behind those of others, with its reply; and its callbacks follow it
pub record Went (before after : Seen) (old new : Kept Plain) (asked : Asked) (told : Told) : Type 0 where
  pub same : SameDesk before after
  pub own : own_of before.me after.events ≡ own_of before.me before.events ++ record { seq = before.me; asked = asked; told = told } ∷ []
  pub sole : before.alone ≡ true → after.events ≡ before.events ++ record { seq = before.me; asked = asked; told = told } ∷ []
  pub few : length after.events ≤ MAX_EVENTS
  pub kept : Follows AnswersZero old (step_by (wire_of before.schema) (record { seq = before.me; asked = asked; told = told })) new

-- the automatic reply that is due
abbrev pub reply_of : Option Due → Option AutoReply
reply_of found = option_map (λ (d : Due). d.1) found

-- what is due behind an event of a sequence
abbrev pub due_by : Schema → List AutoReply → SeqId → Asked → Told → Option Due
due_by schema autos me asked told = due_for autos me (responders_handed (wire_of schema) told asked)

-- the automatic reply that is due is sent, where one is
abbrev pub Replied : Option Due → Seen → Seen → Kept Plain → Kept Plain → Type 0
Replied None before after old new = (after ≡ before) × (new ≡ old)
Replied (Some d) before after old new = (told : Told) × Went before after old new (replied d) told

-- a sequence did this line: it asked what the line asks, names changed by what it was told, and the automatic reply that is due then was sent
pub record DidLine (autos : List AutoReply) (line : Line) (before after : Seen) (old new : Kept Plain) (names names' : Named) : Type 0 where
  pub between : Seen
  pub kept : Kept Plain
  pub told : Told
  pub went : Went before between old kept (asked_by names line) told
  pub named : names' ≡ named_after (wire_of before.schema) (Some line) (due_by before.schema autos before.me (asked_by names line) told)
      (record { seq = before.me; asked = asked_by names line; told = told }) names
  pub replied : Replied (due_by before.schema autos before.me (asked_by names line) told) between after kept new

-- a sequence asked what its line asks, and names changed by what it was told; a responder that is to be answered by itself is the last of
-- those without a name
pub record DidCommand (autos : List AutoReply) (line : Line) (reply : Option AutoReply) (before after : Seen) (old new : Kept Plain)
    (names names' : Named) (others : List ResponderId) : Type 0 where
  pub told : Told
  pub went : Went before after old new (asked_by names line) told
  pub named : names' ≡ named_after (wire_of before.schema) (Some line) (due_by before.schema autos before.me (asked_by names line) told)
      (record { seq = before.me; asked = asked_by names line; told = told }) names
  pub found : reply ≡ reply_of (due_by before.schema autos before.me (asked_by names line) told)
  pub last : (d : Due) → due_by before.schema autos before.me (asked_by names line) told ≡ Some d → EndsWith d.0 others

-- ## The drain

-- a sequence took at an end
pub record DidTake (autos : List AutoReply) (end : EndId) (reply : Option AutoReply) (before after : Seen) (old new : Kept Plain)
    (others : List ResponderId) : Type 0 where
  pub told : Told
  pub went : Went before after old new (Take end) told
  pub found : reply ≡ reply_of (due_by before.schema autos before.me (Take end) told)
  pub last : (d : Due) → due_by before.schema autos before.me (Take end) told ≡ Some d → EndsWith d.0 others

-- and the automatic reply that is due then was sent
pub record TookAt (autos : List AutoReply) (end : EndId) (before after : Seen) (old new : Kept Plain) : Type 0 where
  pub between : Seen
  pub kept : Kept Plain
  pub told : Told
  pub went : Went before between old kept (Take end) told
  pub replied : Replied (due_by before.schema autos before.me (Take end) told) between after kept new

-- ## Cut off

-- this was asked at most
abbrev pub AtMost : Asked → Seen → Seen → Type 0
AtMost asked before after =
    Adds before after [] ⊎ ((told : Told) × Adds before after (record { seq = before.me; asked = asked; told = told } ∷ []))

-- how far a sequence came that was to ask this, and to answer what is due behind it
pub data CameTo (autos : List AutoReply) (asked : Asked) (before after : Seen) : Type 0 where
  stood : Adds before after [] → CameTo autos asked before after
  asked_it : (told : Told) → Adds before after (record { seq = before.me; asked = asked; told = told } ∷ []) → CameTo autos asked before after
  answered_it : (told : Told) (d : Due) (answer : Told) → due_by before.schema autos before.me asked told ≡ Some d
      → Adds before after (record { seq = before.me; asked = asked; told = told } ∷ record { seq = before.me; asked = replied d; told = answer } ∷ [])
      → CameTo autos asked before after

-- this, where the history is full
abbrev pub IfSpent : Cut → Type 0 → Type 0
IfSpent cuts.Memory full = Unit {0}
IfSpent cuts.Spent full = full

-- no event of the sequence came, and 16,777,216 events stand there
pub record IsFull (before after : Seen) : Type 0 where
  pub same : SameDesk before after
  pub stays : Stays before.schema before.seqs before.alone before.me before.events after.events
  pub full : MAX_EVENTS ≤ length after.events

-- this was asked, and then the history was full before the automatic reply that is due
pub record IsFullBehind (autos : List AutoReply) (asked : Asked) (before after : Seen) (old : Kept Plain) : Type 0 where
  pub between : Seen
  pub kept : Kept Plain
  pub told : Told
  pub went : Went before between old kept asked told
  pub reply : Due
  pub due : due_by before.schema autos before.me asked told ≡ Some reply
  pub full : IsFull between after

-- the history was full before this was asked, or before the automatic reply that is due behind it
abbrev pub CutIn : List AutoReply → Asked → Seen → Seen → Kept Plain → Type 0
CutIn autos asked before after old = IsFull before after ⊎ IsFullBehind autos asked before after old
