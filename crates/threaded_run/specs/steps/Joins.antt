-- The joins, each through the pass of its sequence.
use Rattle.std.specs.Prelude.{ℕ, ◌≡◌, ◌++◌, ◌<◌, ◌≤◌, List, [], ◌∷◌, length, reverse, Some, slice_get}
use Rattle.atomic_table.specs.Seated.{TableId}
use Rattle.mj_base.specs.declared.limits.TheConstants.{MAX_EVENTS}
use Rattle.mj_schema.specs.declared.schema.Schema.{Schema}
use Rattle.handle_table.specs.declared.thing.Thing.{Thing}
use Rattle.bind_core.specs.Play.{Play}
use Rattle.bind_model.specs.Replies.{Legal}
use Rattle.bind_model.specs.WireOf.{wire_of}
use Rattle.bind_model.specs.declared.commands.Refused.{Refused}
use Rattle.bind_model.specs.declared.commands.Refused.TheVariants as refusals
use Rattle.bind_model.specs.declared.event.Event.{Event}
use Rattle.call_script.specs.declared.script.Script.{Script}
use Rattle.script_run.specs.OfScript.{GoesOn, next_join}
use Rattle.script_run.specs.declared.cut.Cut.{Cut}
use Rattle.script_run.specs.declared.cut.Cut.TheVariants as cuts
use Rattle.script_run.specs.declared.joins.Joint.{Joint}
use Rattle.script_run.specs.steps.Joints.{joint_event}
use Rattle.threaded_run.specs.steps.Passes.{HaveAll, HubPass}

-- a core with these events
abbrev pub core_of : Schema → ℕ → List Event → Play
core_of schema seqs events = record { schema = schema; seqs = seqs; events = events }

-- the join that made these ends may come behind these events
pub record MayCome (joint : Joint) (schema : Schema) (seqs : ℕ) (joins : List Event) (x y : Thing) : Type 0 where
  pub legal : Legal (wire_of schema) seqs (joins ++ joint_event joint x y ∷ [])
  pub few : length joins < MAX_EVENTS

-- it came, and all passes have seen it behind these events
pub record HaveJoined (table : TableId) (schema : Schema) (seqs : ℕ) (joint : Joint) (joins : List Event) (passes : List HubPass) (x y : Thing)
    : Type 0 where
  pub may : MayCome joint schema seqs joins x y
  pub have : HaveAll table schema seqs (joins ++ joint_event joint x y ∷ []) passes

-- they have seen some joins of a script, each of which was next, and each of its own just those
pub record HavePart (table : TableId) (schema : Schema) (seqs : ℕ) (script : Script) (passes : List HubPass) : Type 0 where
  pub joins : List Event
  pub goes : GoesOn (next_join script) (reverse joins)
  pub have : HaveAll table schema seqs joins passes

-- a command that came back cuts a sequence off for the same cause
abbrev pub IsCutBy : Refused → Cut → Type 0
IsCutBy (refusals.Memory command) cut = cut ≡ cuts.Memory
IsCutBy (refusals.Spent command) cut = cut ≡ cuts.Spent

-- one of the passes has seen as many events as there may be
abbrev pub IsFull : List HubPass → Type 0
IsFull passes = (k : ℕ) × (q : HubPass) × (slice_get passes k ≡ Some q) × (MAX_EVENTS ≤ length q.place.me.0.seen)
