-- Why there is no text.
use Rattle.std.specs.Prelude.{ℕ, ◌≡◌, ◌<◌, ◌⊎◌, List, length, Option, Some, None, IfSome}
use Rattle.mj_base.specs.declared.limits.TheConstants.{MAX_FILE_BYTES}
use Rattle.mj_io.specs.Outside.{Named, find_file, FilesState, Rose}
use Rattle.mojom_compile.specs.declared.error.FileRefusal.{FileRefusal}
use Rattle.mj_schema.specs.declared.schema.Schema.{Schema}
use Rattle.call_script.specs.declared.script_error.LineRefusal.{LineRefusal}
use Rattle.call_script.specs.Script.{IsFirstRefusal}
use Rattle.mojo_tool.specs.Work.{Work, AskedFor, TooLong, Refuses, RefusesLine}
use Rattle.mojo_tool.specs.Answers.{ReadFailed, refused_work, refused_name}
use Rattle.mojo_tool.specs.declared.decide.Stop.{Stop}
use Rattle.mojo_tool.specs.declared.decide.Stop.TheVariants.{Refused, ReadFault, NoMemory}

-- these are the bytes of that name, over files that say what they hold
abbrev pub HasBytes : Option (List Named) → List ℕ → List ℕ → Type 0
HasBytes None name bytes = Unit {0}
HasBytes (Some files) name bytes = find_file files name ≡ Some bytes

-- the name has more bytes than a file may have, over files that say what they hold
abbrev pub IsLonger : Option (List Named) → List ℕ → Type 0
IsLonger None name = Unit {0}
IsLonger (Some files) name = (bytes : List ℕ) × (find_file files name ≡ Some bytes) × (MAX_FILE_BYTES < length bytes)

-- the name isn't there, or a fault on a name that is there was counted, over files that say what they hold
abbrev pub IsLost : Option (List Named) → List ℕ → ℕ → ℕ → Type 0
IsLost None name before now = Unit {0}
IsLost (Some files) name before now = (find_file files name ≡ None) ⊎ Rose before now

-- why a file was not fetched
abbrev pub NotFetched : FilesState → FilesState → List ℕ → Stop → Type 0
NotFetched before now name (Refused refusal) = IsLonger before.held name × (refused_work refusal ≡ TooLong name)
NotFetched before now name (ReadFault other) =
    (other.now ≡ name) × Rose before.faults now.faults × IsLost before.held name before.faults_on_present now.faults_on_present
NotFetched before now name NoMemory = Unit {0}

-- a fault of the files was counted, and the name isn't there, or a fault on a name that is there was counted
pub record FaultOfFiles (before now : FilesState) (ask : List Named → Work → Type 0) (name : List ℕ) : Type 0 where
  pub rose : Rose before.faults now.faults
  pub failed : ReadFailed before.held ask name before.faults_on_present now.faults_on_present

-- no text, though this is asked for
abbrev pub Stops : FilesState → FilesState → (List Named → Work → Type 0) → Stop → Type 0
Stops before now ask (Refused refusal) = AskedFor before.held ask (refused_work refusal)
Stops before now ask (ReadFault name) = FaultOfFiles before now ask name.now
Stops before now ask NoMemory = Unit {0}

-- the bytes are refused so, or there was no memory to tell
abbrev pub NotCompiled : (FileRefusal → Type 0) → List ℕ → Stop → Type 0
NotCompiled Such name (Refused refusal) = (why : FileRefusal) × Such why × (refused_work refusal ≡ Refuses name why)
NotCompiled Such name (ReadFault other) = ⊥
NotCompiled Such name NoMemory = Unit {0}

-- a line of the bytes is refused, or there was no memory to tell
abbrev pub NoScript : Schema → List ℕ → Stop → Type 0
NoScript schema bytes (Refused refusal) =
    (line : ℕ) × (why : LineRefusal) × IsFirstRefusal schema bytes line why × (refused_work refusal ≡ RefusesLine line why)
NoScript schema bytes (ReadFault other) = ⊥
NoScript schema bytes NoMemory = Unit {0}

-- no text, though bytes that were fetched ask for this
abbrev pub StopsAt : (Work → Type 0) → Stop → Type 0
StopsAt ask (Refused refusal) = ask (refused_work refusal)
StopsAt ask (ReadFault name) = ⊥
StopsAt ask NoMemory = Unit {0}

-- the file that is named, where one is, is such a one
abbrev pub IsOf : (List ℕ → Type 0) → Stop → Type 0
IsOf Such (Refused refusal) = IfSome (refused_name refusal) Such
IsOf Such (ReadFault name) = Such name.now
IsOf Such NoMemory = Unit {0}
