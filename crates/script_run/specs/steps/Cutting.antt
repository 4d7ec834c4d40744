-- Turns that are cut off by the number of events.
use Rattle.std.specs.Prelude.{◌≡◌, List, Some, slice_get}
use Rattle.mj_base.specs.declared.ids.EndId.{EndId}
use Rattle.mj_base.specs.declared.ids.SeqId.{SeqId}
use Rattle.bind_core.specs.Play.{Play}
use Rattle.bind_model.specs.Replies.{Legal}
use Rattle.bind_model.specs.WireOf.{wire_of}
use Rattle.bind_model.specs.declared.asked.Asked.TheVariants as asks
use Rattle.call_script.specs.declared.script.Line.{Line}
use Rattle.call_script.specs.declared.script.Script.{Script}
use Rattle.remote_receiver.specs.Notes.{Kept}
use Rattle.script_names.specs.Asking.{asked_by}
use Rattle.script_run.specs.declared.plain.Plain.{Plain}
use Rattle.script_names.specs.declared.rooms.Rooms.{Rooms}
use Rattle.script_run.specs.AtDesk.{IsLater, Seen}
use Rattle.script_run.specs.steps.Desks.{CameTo, CutIn, IsFull}
use Rattle.script_names.specs.Held.{names_in}
use Rattle.script_run.specs.steps.Running.{seat_of}

-- a join for which the history was full
pub record CutJoin (seq : SeqId) (before after : Play) : Type 0 where
  pub legal : Legal (wire_of after.schema) after.seqs after.events
  pub cut : IsFull (seat_of before seq) (seat_of after seq)

-- the turn of a line in which it was full
pub record CutLine (script : Script) (line : Line) (before after : Play) (held : List Rooms) : Type 0 where
  pub legal : Legal (wire_of after.schema) after.seqs after.events
  pub room : Rooms
  pub here : slice_get held line.seq.0 ≡ Some room
  pub kept : Kept Plain
  pub cut : CutIn script.autos (asked_by (names_in room) line) (seat_of before line.seq) (seat_of after line.seq) kept

-- the turn of a take
pub record CutTake (script : Script) (seq : SeqId) (end : EndId) (before after : Play) : Type 0 where
  pub legal : Legal (wire_of after.schema) after.seqs after.events
  pub kept : Kept Plain
  pub cut : CutIn script.autos (asks.Take end) (seat_of before seq) (seat_of after seq) kept

-- how far the turn of a take came, at the desk
abbrev pub CameTaking : Script → EndId → Seen → Seen → Type 0
CameTaking script end before after = IsLater before after × CameTo script.autos (asks.Take end) before after

-- how far it came between these two, in a history that is legal
pub record PartTake (script : Script) (seq : SeqId) (end : EndId) (before after : Play) : Type 0 where
  pub legal : Legal (wire_of after.schema) after.seqs after.events
  pub came : CameTaking script end (seat_of before seq) (seat_of after seq)
