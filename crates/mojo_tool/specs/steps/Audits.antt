-- Histories that are audited: what was found out of them and of their scripts.
use Rattle.std.specs.Prelude.{ℕ, ◌≡◌, ◌⊎◌, List, [], ◌∷◌, ◌++◌, Option, Some, None}
use Rattle.mj_io.specs.Outside.{Named, find_file}
use Rattle.mj_schema.specs.declared.schema.Schema.{Schema}
use Rattle.call_script.specs.declared.script.Script.{Script}
use Rattle.call_script.specs.Script.{IsScriptOf}
use Rattle.history_audit.specs.Audited.{IsSound}
use Rattle.mojo_tool.specs.Work.{Work, Sounds, Auditing, AskedFor}
use Rattle.mojo_tool.specs.Answers.{HasRefusedLine}
use Rattle.mojo_tool.specs.Lines.{sound_line}

-- over files that say what they hold, the bytes of that name are a script
pub record IsSource (files : List Named) (name : List ℕ) (schema : Schema) : Type 0 where
  pub source : List ℕ
  pub found : find_file files name ≡ Some source
  pub script : Script
  pub is : IsScriptOf schema source script

-- so it is where files say what they hold; where none do, nothing is said
abbrev pub HasSource : Option (List Named) → List ℕ → Schema → Type 0
HasSource None name schema = Unit {0}
HasSource (Some files) name schema = IsSource files name schema

-- the name is that of the script, or that of the history, where there is a script
abbrev pub IsEither : List ℕ → List ℕ → Option (List Named) → Schema → List ℕ → Type 0
IsEither script history held schema name = (name ≡ script) ⊎ ((name ≡ history) × HasSource held script schema)

-- a script and a history of these names came
pub record BothCame (script history : List ℕ) (before now : List Named) (schema : Schema) (source bytes : List ℕ) (read : Script) : Type 0 where
  pub came : now ≡ before ++ record { name = script; bytes = source } ∷ record { name = history; bytes = bytes } ∷ []
  pub is : IsScriptOf schema source read

-- the text says how many events a history has that is sound by a script
pub record IsLateSound (script history : List ℕ) (schema : Schema) (before now : List Named) (held : Option (List Named))
    (ask : List Named → Work → Type 0) (text : List ℕ) : Type 0 where
  pub source : List ℕ
  pub bytes : List ℕ
  pub read : Script
  pub events : ℕ
  pub asked : AskedFor held ask (Sounds events)
  pub both : BothCame script history before now schema source bytes read
  pub sound : IsSound schema read bytes events
  pub text_of : text ≡ sound_line events

-- a script and a history that came are refused so
pub record BothAsk (script history : List ℕ) (schema : Schema) (before now : List Named) (work : Work) : Type 0 where
  pub source : List ℕ
  pub bytes : List ℕ
  pub read : Script
  pub both : BothCame script history before now schema source bytes read
  pub made : Auditing schema read bytes work

-- a line of a script that came is refused, or what came behind it is
abbrev pub LateAsks : List ℕ → List ℕ → Schema → List Named → List Named → Work → Type 0
LateAsks script history schema before now work =
    ((source : List ℕ) × (now ≡ before ++ record { name = script; bytes = source } ∷ []) × HasRefusedLine schema source work)
    ⊎ BothAsk script history schema before now work
