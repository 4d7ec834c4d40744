-- What contracts say of the passes of a hub.
use Rattle.std.specs.Prelude.{ℕ, ◌≡◌, ◌<◌, ◌≤◌, ◌++◌, false, List, [], ◌∷◌, length, Some}
use Rattle.atomic_table.specs.Seated.{TableId}
use Rattle.mj_base.specs.declared.ids.SeqId.{SeqId}
use Rattle.mj_base.specs.declared.limits.TheConstants.{MAX_EVENTS}
use Rattle.mj_schema.specs.declared.schema.Schema.{Schema}
use Rattle.bind_model.specs.declared.event.Event.{Event}
use Rattle.bind_model.specs.declared.commands.Command.{Command}
use Rattle.bind_model.specs.declared.commands.Reply.{Reply}
use Rattle.bind_model.specs.declared.commands.Refused.{Refused}
use Rattle.bind_model.specs.Plain.{asked_of}
use Rattle.bind_model.specs.Replies.{Legal}
use Rattle.bind_model.specs.WireOf.{wire_of}
use Rattle.bind_model.specs.Seen.{own_of, told_behind, Saw, Waited}
use Rattle.turn_lock.specs.Lists.{Begins}
use Rattle.turn_lock.specs.Passing.{mine_of}
use Rattle.turn_lock.specs.declared.view.View.{View}
use Rattle.bind_hub.specs.Kept.{Basis}

-- the sequence of a pass
abbrev pub seq_at : ℕ → SeqId
seq_at number = record { 0 = number }

-- a pass of the hub at this table, of this schema and so many sequences. Its own events in what it has seen are just those that it made
pub record IsPassOf (table : TableId) (schema : Schema) (seqs : ℕ) (number : ℕ) (at : TableId) (v : View Event Basis) : Type 0 where
  pub of_table : at ≡ table
  pub basis : v.basis ≡ Some (schema, seqs)
  pub within : number < seqs
  pub own : own_of (seq_at number) v.seen ≡ mine_of v.parts

-- the pass of this number as it is handed out: it has seen nothing and made nothing
pub record IsFirst (table : TableId) (schema : Schema) (seqs k : ℕ) (number : ℕ) (at : TableId) (v : View Event Basis) : Type 0 where
  pub numbered : number ≡ k
  pub pass : IsPassOf table schema seqs number at v
  pub seen : v.seen ≡ []
  pub mine : mine_of v.parts ≡ []

-- what was seen then is a legal history that begins with what was seen before and ends with this event, which the events before it
-- answer; the own events grow by just this one, and are all that the history has of this sequence
pub record Steps (schema : Schema) (seqs number : ℕ) (v w : View Event Basis) (command : Command) (reply : Reply) : Type 0 where
  pub saw : Saw schema seqs false (seq_at number) v.seen w.seen command reply
  pub legal : Legal (wire_of schema) seqs w.seen
  pub mine : mine_of w.parts ≡ mine_of v.parts
      ++ record { seq = seq_at number; asked = asked_of command; told = told_behind schema seqs (seq_at number) saw.before command } ∷ []

-- no event of one's own, though others may have been seen. A history has 16,777,216 events at most, so a command is spent at just so many
pub record Rests (schema : Schema) (seqs number : ℕ) (v w : View Event Basis) (command : Command) (refused : Refused) : Type 0 where
  pub waited : Waited schema seqs false (seq_at number) v.seen w.seen command refused
  pub legal : Legal (wire_of schema) seqs w.seen
  pub few : length w.seen ≤ MAX_EVENTS
  pub mine : mine_of w.parts ≡ mine_of v.parts

-- two passes met: this one has seen then what both had
pub record Met (schema : Schema) (seqs : ℕ) (v other w : View Event Basis) : Type 0 where
  pub legal : Legal (wire_of schema) seqs w.seen
  pub later : Begins v.seen w.seen
  pub also : Begins other.seen w.seen
  pub mine : mine_of w.parts ≡ mine_of v.parts

-- the whole history begins with all that the pass has seen, and has of its sequence just what it made
pub record IsIn (number : ℕ) (v : View Event Basis) (events : List Event) : Type 0 where
  pub seen : Begins v.seen events
  pub own : own_of (seq_at number) events ≡ mine_of v.parts
