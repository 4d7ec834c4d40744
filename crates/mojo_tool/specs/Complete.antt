-- Which status comes where nothing failed: want of memory is the only other one.
use Rattle.std.specs.Prelude.{ℕ, ◌≡◌, List, [], ◌∷◌, Option, Some, None, ◌⊎◌}
use Rattle.mj_io.specs.Outside.{Named, Rose}
use Rattle.command_line.specs.Asked.{Command, Run, Print, Check, Encode, Decode, Load, Audit, Compat}
use Rattle.mojo_tool.specs.Answers.{Seen, asked_by, refused_work, WroteOrFailed}
use Rattle.mojo_tool.specs.Lines.{refusal_text, error_line, read_text}
use Rattle.mojom_compile.specs.declared.error.FileRefusal.{FileRefusal}
use Rattle.mojom_compile.specs.declared.source.Source.{Source}
use Rattle.mojom_compile.specs.Schemas.{HasTooManyRows}
use Rattle.mojom_files.specs.Causes.{Cause}
use Rattle.load_command.specs.LoadFile.{load_sources}
use Rattle.call_script.specs.declared.script_error.LineRefusal.{LineRefusal}
use Rattle.wire_encoder.specs.declared.refusal.PrepareError.{PrepareError}
use Rattle.mj_base.specs.declared.fault.Fault.{Fault}
use Rattle.history_audit.specs.declared.auditing.AuditFinding.{AuditFinding as Said}
use Rattle.compat_model.specs.declared.reason.Reason.{Reason}
use Rattle.mojo_tool.specs.Work.{Work, WrongWords, Missing, TooLong, Refuses, Rejects, RefusesLine, UnknownName, BadText, Unfit, BadHex, Faulty, Breaks}
use Rattle.mojo_tool.specs.Work.{Runs, Prints, Checks, Encodes, Decodes, Loads, Sounds, Unsounds, Reads, AreFetched}
use Rattle.mojo_tool.specs.declared.refusal.ToolRefusal.{ToolRefusal}
use Rattle.mojo_tool.specs.declared.status.Status.{Status}
use Rattle.mojo_tool.specs.declared.status.Status.TheVariants.{Done, Refused, ReadFault, NoMemory}

-- the words are a command, the files say that each name to be fetched is there and that nothing in them is refused,
-- and neither the files that are there nor standard output failed
pub record CanBeDone (s : Seen) : Type 0 where
  pub files : List Named
  pub held : s.files_before.held ≡ Some files
  pub words : ¬ asked_by s files WrongWords
  pub present : (name : List ℕ) → ¬ asked_by s files (Missing name)
  pub short : (name : List ℕ) → ¬ asked_by s files (TooLong name)
  pub compiled : (name : List ℕ) (refusal : FileRefusal) → ¬ asked_by s files (Refuses name refusal)
  pub checked : (name : List ℕ) (at : ℕ) (cause : Cause) → ¬ asked_by s files (Rejects name at cause)
  pub readable : (line : ℕ) (why : LineRefusal) → ¬ asked_by s files (RefusesLine line why)
  pub known : (name : List ℕ) → ¬ asked_by s files (UnknownName name)
  pub spelled : (at : ℕ) → ¬ asked_by s files (BadText at)
  pub fit : (why : PrepareError) → ¬ asked_by s files (Unfit why)
  pub hexadecimal : ¬ asked_by s files BadHex
  pub sound : (fault : Fault) → ¬ asked_by s files (Faulty fault)
  pub whole : (answer : Said) → ¬ asked_by s files (Unsounds answer)
  pub compatible : (reason : Reason) → ¬ asked_by s files (Breaks reason)
  pub steady : ¬ Rose s.files_before.faults_on_present s.files.faults_on_present
  pub written : ¬ Rose s.out_before.faults s.out.faults

-- a run, a text, tables, a message or its value, a load, a history that is sound, or files that are compatible
abbrev pub IsDoable : Work → Type 0
IsDoable (Runs schema script order) = Unit {0}
IsDoable (Prints tree) = Unit {0}
IsDoable (Checks schema) = Unit {0}
IsDoable (Encodes message) = Unit {0}
IsDoable (Decodes interface method request value) = Unit {0}
IsDoable (Loads schema seed messages) = Unit {0}
IsDoable (Sounds events) = Unit {0}
IsDoable (Reads stable) = Unit {0}
IsDoable _ = ⊥

-- the words ask for this work over files that say what they hold, and no file that is there failed
pub record IsAsked (s : Seen) (work : Work) : Type 0 where
  pub files : List Named
  pub held : s.files_before.held ≡ Some files
  pub asked : asked_by s files work
  pub steady : ¬ Rose s.files_before.faults_on_present s.files.faults_on_present

-- a run of a script, the text of a tree, the tables of a schema, a message or its value, a load, the word that a history is sound or that files
-- are compatible are asked for, and neither the files that are there nor standard output failed
pub record CanBeServed (s : Seen) : Type 0 where
  pub work : Work
  pub doable : IsDoable work
  pub asked : IsAsked s work
  pub written : ¬ Rose s.out_before.faults s.out.faults

-- all was done
abbrev pub IsDoneOrShort : Status → Type 0
IsDoneOrShort status = (status ≡ Done) ⊎ (status ≡ NoMemory)

-- the status is this one, and the line went to standard error, or a front of it where that failed
pub record EndsWith (s : Seen) (status wanted : Status) (text : List ℕ) : Type 0 where
  pub ended : status ≡ wanted
  pub wrote : WroteOrFailed s.err_before s.err (error_line text)

-- this very refusal was answered
abbrev pub IsRefusedOrShort : Seen → Status → ToolRefusal → Type 0
IsRefusedOrShort s status refusal = EndsWith s status Refused (refusal_text refusal) ⊎ (status ≡ NoMemory)

-- this very name was answered as one that could not be read
abbrev pub IsUnreadOrShort : Seen → Status → List ℕ → Type 0
IsUnreadOrShort s status name = EndsWith s status ReadFault (read_text name) ⊎ (status ≡ NoMemory)

-- what can be done is done, what is refused is refused so, and a name that isn't there is answered so, but for want of memory
pub record IsComplete (s : Seen) (status : Status) : Type 0 where
  pub done : CanBeDone s → IsDoneOrShort status
  pub served : CanBeServed s → IsDoneOrShort status
  pub refused : (refusal : ToolRefusal) → IsAsked s (refused_work refusal) → IsRefusedOrShort s status refusal
  pub missing : (name : List ℕ) → IsAsked s (Missing name) → IsUnreadOrShort s status name

-- the Mojom files of these names are there, none too long, and have more rows than a schema can have
abbrev pub AreTooMany : List Named → List (List ℕ) → Type 0
AreTooMany files names = (sources : List Source) × AreFetched files names sources × HasTooManyRows sources

-- so it is with those that a command names, of which `compat` takes each by itself; a load has its own file
abbrev pub HaveTooManyRows : List Named → Option Command → Type 0
HaveTooManyRows files None = ⊥
HaveTooManyRows files (Some (Run words)) = AreTooMany files words.files
HaveTooManyRows files (Some (Print file)) = ⊥
HaveTooManyRows files (Some (Check names)) = AreTooMany files names
HaveTooManyRows files (Some (Encode words)) = AreTooMany files words.files
HaveTooManyRows files (Some (Decode words)) = AreTooMany files words.files
HaveTooManyRows files (Some (Load words)) = HasTooManyRows load_sources
HaveTooManyRows files (Some (Audit words)) = AreTooMany files words.files
HaveTooManyRows files (Some (Compat old new)) = AreTooMany files (old ∷ []) ⊎ AreTooMany files (new ∷ [])
