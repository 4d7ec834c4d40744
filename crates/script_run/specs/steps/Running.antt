-- What holds of a run between its turns, and what its turns do.
use Rattle.std.specs.Prelude.{ℕ, true, ◌≡◌, ◌++◌, List, [], length, set, Some, None, slice_get}
use Rattle.std.specs.List.{AllByRecursion}
use Rattle.mj_base.specs.declared.ids.EndId.{EndId}
use Rattle.mj_base.specs.declared.ids.SeqId.{SeqId}
use Rattle.mj_schema.specs.declared.schema.Schema.{Schema}
use Rattle.bind_core.specs.Play.{Play}
use Rattle.bind_model.specs.declared.event.Event.{Event}
use Rattle.bind_model.specs.WireOf.{wire_of}
use Rattle.call_script.specs.declared.script.Line.{Line}
use Rattle.call_script.specs.declared.script.Script.{Script}
use Rattle.call_script.specs.Sound.{IsLine}
use Rattle.remote_receiver.specs.Notes.{Kept}
use Rattle.remote_receiver.specs.declared.rest.Rest.{Rest}
use Rattle.script_names.specs.Autos.{due}
use Rattle.script_run.specs.OfScript.{DoesLines, IsPart, next_join}
use Rattle.script_run.specs.Order.{InTurns, turn}
use Rattle.script_run.specs.declared.plain.Plain.{Plain}
use Rattle.script_names.specs.declared.rooms.Rooms.{Rooms}
use Rattle.script_run.specs.AtDesk.{Seen}
use Rattle.script_run.specs.steps.Desks.{DidLine, TookAt}
use Rattle.script_run.specs.Draining.{HaveRested, IsCoreOf, past_in}
use Rattle.script_names.specs.Held.{HaveNames, names_in}

-- ## Between turns

-- these are lines of a script
abbrev pub AreLines : Schema → Script → List Line → Type 0
AreLines schema script lines = AllByRecursion (IsLine schema script.seqs script.names) lines

-- the desks have rested, each sequence has a room with the names of the script, and no automatic reply is due
pub record IsRunning (schema : Schema) (script : Script) (play : Play) (desks : List (Rest Plain)) (held : List Rooms) : Type 0 where
  pub core : IsCoreOf schema script play
  pub rests : HaveRested play desks
  pub count : length held ≡ script.seqs
  pub names : (s : SeqId) (room : Rooms) → slice_get held s.0 ≡ Some room → HaveNames script.names room
  pub none : due (wire_of schema) script.autos (past_in play) ≡ None

-- ## One turn

-- what the desk of a sequence sees of a core that nobody else steps
abbrev pub seat_of : Play → SeqId → Seen
seat_of core s = record { schema = core.schema; seqs = core.seqs; alone = true; me = s; events = core.events }

-- a sequence did a line, and the desks have rested again: no other's room changed
pub record DidTurn (schema : Schema) (script : Script) (line : Line) (before after : Play) (desks : List (Rest Plain)) (old new : List Rooms)
    : Type 0 where
  pub core : IsCoreOf schema script after
  pub rests : HaveRested after desks
  pub room : Rooms
  pub later : Rooms
  pub here : slice_get old line.seq.0 ≡ Some room
  pub rooms : new ≡ set old line.seq.0 later
  pub names : HaveNames script.names later
  pub kept : Kept Plain
  pub kept' : Kept Plain
  pub did : DidLine script.autos line (seat_of before line.seq) (seat_of after line.seq) kept kept' (names_in room) (names_in later)

-- a sequence took at an end, and the desks have rested again
pub record TookTurn (schema : Schema) (script : Script) (seq : SeqId) (end : EndId) (before after : Play) (desks : List (Rest Plain)) : Type 0 where
  pub core : IsCoreOf schema script after
  pub rests : HaveRested after desks
  pub kept : Kept Plain
  pub kept' : Kept Plain
  pub took : TookAt script.autos end (seat_of before seq) (seat_of after seq) kept kept'

-- ## All lines

-- the events of a core are those of the joins, and behind them those of the lines, all done in turns by this order
pub record AreDone (schema : Schema) (script : Script) (order : ℕ) (play : Play) : Type 0 where
  pub after_joins : List Event
  pub middle : List Event
  pub whole : past_in play ≡ middle ++ after_joins
  pub joins : IsPart (next_join script) [] after_joins
  pub lines : DoesLines (wire_of schema) script after_joins middle
  pub turns : InTurns (turn (wire_of schema) script order) middle
