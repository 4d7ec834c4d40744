-- A sequence that does its lines, as its stepper sees it.
use Rattle.std.specs.Prelude.{ℕ, Bool, true, false, ◌≡◌, ◌++◌, List, [], ◌∷◌, length, filter, map, reverse, None}
use Rattle.mj_base.specs.declared.ids.SeqId.{SeqId}
use Rattle.mj_schema.specs.declared.schema.Schema.{Schema}
use Rattle.bind_model.specs.Seen.{own_of}
use Rattle.bind_model.specs.WireOf.{wire_of}
use Rattle.bind_model.specs.declared.event.Event.{Event}
use Rattle.call_script.specs.declared.script.AutoReply.{AutoReply}
use Rattle.call_script.specs.declared.script.Line.{Line}
use Rattle.call_script.specs.declared.script.Script.{Script}
use Rattle.remote_receiver.specs.Notes.{HasKept, Kept}
use Rattle.remote_receiver.specs.Stepped.{Step}
use Rattle.step_gate.specs.declared.GateCall.{GateCall}
use Rattle.step_gate.specs.declared.GateCall.TheVariants.{Before, After}
use Rattle.script_names.specs.Autos.{due, lines_done}
use Rattle.script_names.specs.Names.{Named}
use Rattle.script_run.specs.OfScript.{AsksNext, names_of, next_of}
use Rattle.script_run.specs.Order.{is_own}
use Rattle.script_run.specs.declared.plain.Plain.{Plain}
use Rattle.script_run.specs.AtDesk.{AnswersZero, Seen, step_by}
use Rattle.script_run.specs.steps.Desks.{DidLine}

-- a line was done where it is the sequence's own, and else nothing was
abbrev pub DidOwn : Bool → List AutoReply → Line → Seen → Seen → Kept Plain → Kept Plain → Named → Named → Type 0
DidOwn true autos line before after old new names names' = DidLine autos line before after old new names names'
DidOwn false autos line before after old new names names' = (after ≡ before) × (new ≡ old) × (names' ≡ names)

-- how many lines of its own that is
abbrev pub steps_by : Bool → ℕ
steps_by true = 1
steps_by false = 0

-- the calls of its gate round it, behind so many lines of its own
abbrev pub calls_by : Bool → SeqId → ℕ → List GateCall
calls_by true me n = Before me n ∷ After me n ∷ []
calls_by false me n = []

-- of a script's sequence, by what it saw first and by now, and what it kept
module _ (script : Script) (after_joins : List Event) (schema : Schema) (me : SeqId) (first now : List Event) (old new : Kept Plain) (names : Named) where
  -- after the lines of all that are its own, each with its automatic reply
  pub record HasWorked (lines : List Line) : Type 0 where
    pub own : List Event
    pub whole : own_of me now ≡ own_of me first ++ reverse own
    pub asks : AsksNext (next_of (wire_of schema) script after_joins me) own
    pub none : due (wire_of schema) script.autos own ≡ None
    pub done : lines_done (wire_of schema) script.autos own ≡ length (filter (is_own me) lines)
    pub named : names ≡ names_of (wire_of schema) script after_joins me own
    pub kept : (steps : List (Step Plain)) → HasKept AnswersZero steps old
        → HasKept AnswersZero (steps ++ map (step_by (wire_of schema)) (reverse own)) new
