-- What an audit answers: whether bytes are the text of a run of a script, in whatever order its sequences did their lines; and else where
-- they stop to be one.
use Rattle.std.specs.Prelude.{ℕ, ◌≡◌, ◌<◌, ◌==◌, ◌+◌, ◌++◌, List, [], ◌∷◌, length, reverse, map, take, Result, Ok, Err, if◌then◌else◌}
use Rattle.mj_schema.specs.declared.schema.Schema.{Schema}
use Rattle.bind_model.specs.Left.{left}
use Rattle.bind_model.specs.Replies.{Legal}
use Rattle.bind_model.specs.WireOf.{wire_of}
use Rattle.bind_model.specs.declared.event.Event.{Event}
use Rattle.byte_rules.specs.Judged.{Spells, IsBad}
use Rattle.call_script.specs.declared.script.Script.{Script}
use Rattle.callback_laws.specs.Callbacks.{callbacks}
use Rattle.history_reader.specs.Printable.{IsPrintable}
use Rattle.history_reader.specs.Said.{said, said_event}
use Rattle.history_reader.specs.Whole.{history as history_rule}
use Rattle.history_reader.specs.declared.printed.Printed.{Printed}
use Rattle.printed_histories.specs.Runs.{run_text}
use Rattle.script_run.specs.OfScript.{InSomeOrder}
use Rattle.history_audit.specs.declared.auditing.AuditFinding.{AuditFinding}
use Rattle.history_audit.specs.declared.auditing.AuditFinding.TheVariants.{Sound, Wrong, Short, Tail}
use Rattle.history_audit.specs.declared.auditing.AuditError.{AuditError}
use Rattle.history_audit.specs.declared.auditing.AuditError.TheVariants.{BadText, Memory}

-- ## Runs

-- a whole run: it is legal for the schema, and of the script's events, in whatever order its sequences did their lines
pub record IsRun (schema : Schema) (script : Script) (history : List Event) : Type 0 where
  pub legal : Legal (wire_of schema) script.seqs history
  pub events : InSomeOrder schema script history

-- what these events say, all but the interfaces of responders' endpoints, is what a run's events say
abbrev pub SayRun : Schema → Script → List Event → List Event → Type 0
SayRun schema script events history = IsRun schema script history × (map said_event history ≡ events)

-- and here what a run's first events say
pub record BeginRun (schema : Schema) (script : Script) (events : List Event) : Type 0 where
  pub history : List Event
  pub more : List Event
  pub run : IsRun schema script (history ++ more)
  pub said : map said_event history ≡ events

-- the number, from 1, of the first line that differs: 1 and the line feeds in the longest front that two texts have in common
abbrev pub first_differing : ℕ → List ℕ → List ℕ → ℕ
first_differing line (b ∷ bytes) (c ∷ others) = if b == c then first_differing (if b == 10 then line + 1 else line) bytes others else line
first_differing line bytes others = line

-- all that a run of the script says can be printed
abbrev pub ArePrintable : Schema → Script → Type 0
ArePrintable schema script = (history : List Event) → IsRun schema script history
    → IsPrintable schema (said history (callbacks script.seqs history) (left script.seqs (reverse history)))

-- ## Answers

module _ (schema : Schema) (script : Script) (bytes : List ℕ) where
  -- the bytes are the whole text of a run
  pub record IsSound (events : ℕ) : Type 0 where
    pub history : List Event
    pub run : IsRun schema script history
    pub text : bytes ≡ run_text schema script.seqs history
    pub count : events ≡ length history

  -- they say events, of which so many begin a run and one more don't
  pub record IsWrong (event : ℕ) : Type 0 where
    pub printed : Printed
    pub says : Spells (history_rule schema) printed bytes
    pub there : event < length printed.events
    pub begin : BeginRun schema script (take event printed.events)
    pub no_more : BeginRun schema script (take (event + 1) printed.events) → ⊥

  -- all of them begin a run and aren't a whole one
  pub record IsShort (events : ℕ) : Type 0 where
    pub printed : Printed
    pub says : Spells (history_rule schema) printed bytes
    pub count : events ≡ length printed.events
    pub begin : BeginRun schema script printed.events
    pub not_whole : (history : List Event) → SayRun schema script printed.events history → ⊥

  -- they are a whole one, and this line is the first that differs from its text
  pub record HasTail (line : ℕ) : Type 0 where
    pub printed : Printed
    pub says : Spells (history_rule schema) printed bytes
    pub history : List Event
    pub whole : SayRun schema script printed.events history
    pub differs : bytes ≡ run_text schema script.seqs history → ⊥
    pub at : line ≡ first_differing 1 bytes (run_text schema script.seqs history)

  -- what each answer says; want of memory says nothing
  abbrev pub Audits : Result AuditFinding AuditError → Type 0
  Audits (Ok (Sound events)) = IsSound events
  Audits (Ok (Wrong event)) = IsWrong event
  Audits (Ok (Short events)) = IsShort events
  Audits (Ok (Tail line)) = HasTail line
  Audits (Err (BadText at)) = IsBad (history_rule schema) bytes at
  Audits (Err Memory) = Unit {0}
