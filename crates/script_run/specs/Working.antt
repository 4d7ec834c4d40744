-- A sequence that did its lines, as its stepper sees it.
use Rattle.std.specs.Prelude.{ℕ, ◌≡◌, ◌<◌, ◌++◌, List, [], ◌∷◌, map, reverse}
use Rattle.mj_base.specs.declared.ids.SeqId.{SeqId}
use Rattle.mj_schema.specs.declared.schema.Schema.{Schema}
use Rattle.bind_model.specs.Seen.{own_of}
use Rattle.bind_model.specs.WireOf.{wire_of}
use Rattle.bind_model.specs.declared.event.Event.{Event}
use Rattle.call_script.specs.declared.script.Script.{Script}
use Rattle.remote_receiver.specs.Notes.{HasKept, Kept}
use Rattle.remote_receiver.specs.Stepped.{Step}
use Rattle.step_gate.specs.Calls.{calls_round}
use Rattle.step_gate.specs.declared.GateCall.{GateCall}
use Rattle.step_gate.specs.declared.GateCall.TheVariants.{Before}
use Rattle.script_names.specs.Names.{Named, joined}
use Rattle.script_run.specs.OfScript.{AsksAll, AsksNext, names_of, next_of}
use Rattle.script_run.specs.Order.{joins_of}
use Rattle.script_run.specs.declared.plain.Plain.{Plain}
use Rattle.script_names.specs.declared.rooms.Rooms.{Rooms}
use Rattle.script_run.specs.AtDesk.{AnswersZero, SameDesk, Seen, step_by}
use Rattle.script_names.specs.Held.{HaveNames, names_in}

-- of a script's sequence, by what it saw first and by now, and what it kept
module _ (script : Script) (after_joins : List Event) (schema : Schema) (me : SeqId) (first now : List Event) (old new : Kept Plain) (names : Named) where
  -- it did all that is next behind the joins
  pub record DidAll : Type 0 where
    pub own : List Event
    pub whole : own_of me now ≡ own_of me first ++ reverse own
    pub asks : AsksAll (next_of (wire_of schema) script after_joins me) own
    pub named : names ≡ names_of (wire_of schema) script after_joins me own
    pub kept : (steps : List (Step Plain)) → HasKept AnswersZero steps old
        → HasKept AnswersZero (steps ++ map (step_by (wire_of schema)) (reverse own)) new

-- of a script's sequence that was cut off, by what it saw first and by now: it asked what is next behind the joins, as far as it came
pub record DidSome (script : Script) (after_joins : List Event) (schema : Schema) (me : SeqId) (first now : List Event) : Type 0 where
  pub own : List Event
  pub whole : own_of me now ≡ own_of me first ++ reverse own
  pub asks : AsksNext (next_of (wire_of schema) script after_joins me) own

-- so did one that has the names that the joins gave it
abbrev pub CutWork : Script → Seen → Seen → Rooms → Type 0
CutWork script before after held = (after_joins : List Event) → names_in held ≡ joined before.me (joins_of script) after_joins
    → DidSome script after_joins before.schema before.me before.events after.events

-- a sequence that has the names that the joins gave it did all of its lines
pub record Works (script : Script) (before after : Seen) (old new : Kept Plain) (held rooms : Rooms) : Type 0 where
  pub same : SameDesk before after
  pub have : HaveNames script.names rooms
  pub did : (after_joins : List Event) → names_in held ≡ joined before.me (joins_of script) after_joins
      → DidAll script after_joins before.schema before.me before.events after.events old new (names_in rooms)

-- ## The calls of its gate

-- one before and one after each of so many steps, in order
abbrev pub CallsAll : SeqId → ℕ → List GateCall → List GateCall → Type 0
CallsAll me steps before after = after ≡ before ++ calls_round me steps

-- where one of the steps was cut off: those round the steps before it, and the one before it
pub record CallsSome (me : SeqId) (steps : ℕ) (before after : List GateCall) : Type 0 where
  pub done : ℕ
  pub fewer : done < steps
  pub calls : after ≡ before ++ (calls_round me done ++ Before me done ∷ [])
