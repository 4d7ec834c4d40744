-- What each status says of the words, the files and the sinks, before the call and after it.
use Rattle.std.specs.Prelude.{ℕ, ◌≡◌, List, [], ◌∷◌, ◌++◌, map, reverse, Option, Some, None, Ok, IfSome, ◌⊎◌}
use Rattle.mj_io.specs.Outside.{Named, FilesState, SinkState, Rose, Wrote, WroteSome}
use Rattle.command_line.specs.Asked.{Command, RunWords, EncodeWords, DecodeWords, LoadWords, AuditWords, Run, Print, Check, Encode, Decode, Load, Audit}
use Rattle.command_line.specs.Asked.{Compat, command_of}
use Rattle.mj_schema.specs.Lookups.{interface_named}
use Rattle.mj_schema.specs.declared.schema.Schema.{Schema}
use Rattle.bind_model.specs.declared.event.Event.{Event}
use Rattle.bind_model.specs.WireOf.{wire_of}
use Rattle.bind_model.specs.Replies.{Legal}
use Rattle.bind_model.specs.Flushes.{AllBehind, FlushesNumbered}
use Rattle.bind_model.specs.Laws.{DataInOrder, InOrder, AllOfAskers, AllStand, AllUnpaused, OwnResponses, OnePlace}
use Rattle.bind_model.specs.Origins.{HaveWriters}
use Rattle.group_laws.specs.Apart.{GroupsApart}
use Rattle.history_laws.specs.Owners.{OneOwner}
use Rattle.reply_laws.specs.Once.{AllFirst}
use Rattle.reply_laws.specs.Own.{AllOwn}
use Rattle.mojom_ast.specs.declared.file.File.{File}
use Rattle.mojom_compile.specs.Compiled.{IsParsed}
use Rattle.mojom_compile.specs.Schemas.{IsSchemaOfFiles, IsRefusalOf}
use Rattle.mojom_compile.specs.declared.schema_error.SchemaError.{SchemaError}
use Rattle.mojom_compile.specs.declared.source.Source.{Source}
use Rattle.wire_model.specs.declared.target.Target.{Target}
use Rattle.mojom_print.specs.FileText.{file_text}
use Rattle.schema_text.specs.Listing.{listing}
use Rattle.call_script.specs.declared.script.Script.{Script}
use Rattle.call_script.specs.Script.{IsScriptOf}
use Rattle.call_script.specs.Targets.{message_named}
use Rattle.call_script.specs.Script.{IsFirstRefusal}
use Rattle.call_script.specs.declared.script_error.LineRefusal.{LineRefusal}
use Rattle.script_run.specs.OfScript.{OfScript}
use Rattle.history_audit.specs.Audited.{IsSound}
use Rattle.history_reader.specs.Texts.{Tells}
use Rattle.history_reader.specs.Whole as texts
use Rattle.printed_histories.specs.Runs.{run_said, run_text}
use Rattle.printed_runs.specs.Fitting.{AllFit}
use Rattle.load_run.specs.Counts.{AreLoadCounts}
use Rattle.load_command.specs.LoadFile.{load_sources}
use Rattle.load_command.specs.LoadLine.{counts_line}
use Rattle.load_run.specs.declared.counts.Counts.{Counts}
use Rattle.mojo_tool.specs.Work.{Work, Missing, TooLong, Refuses, Rejects, RefusesLine, UnknownName, BadText, Unfit, BadHex, Faulty, Breaks}
use Rattle.mojo_tool.specs.Work.{Runs, Prints, Checks, Encodes, Decodes, Loads, Sounds, Unsounds, Reads, Auditing, ComesTo, Parsing, Reading, Writing, Showing}
use Rattle.mojo_tool.specs.Work.{Pairing, IsWork, AskedFor, unchecked}
use Rattle.mojo_tool.specs.Targets.{side_of, expected_of}
use Rattle.mojo_tool.specs.Fetched.{AllFetched, FetchedUpTo, PartFetched}
use Rattle.mojo_tool.specs.Lines.{refusal_text, error_line, read_text, hex_line, shown_line, sound_line, compatible_line}
use Rattle.mojo_tool.specs.declared.refusal.ToolRefusal.{ToolRefusal}
use Rattle.mojo_tool.specs.declared.refusal.ToolRefusal.TheVariants as refusals
use Rattle.mojo_tool.specs.declared.status.Status.{Status}
use Rattle.mojo_tool.specs.declared.status.Status.TheVariants.{Done, Refused, WrongUse, ReadFault, WriteFault, NoMemory}

-- the exit status of the program
abbrev pub code_of : Status → ℕ
code_of Done = 0
code_of Refused = 1
code_of WrongUse = 2
code_of ReadFault = 3
code_of WriteFault = 4
code_of NoMemory = 5

-- what was seen of the outside
pub record Seen : Type 0 where
  pub words : List (List ℕ)
  pub files_before : FilesState
  pub files : FilesState
  pub out_before : SinkState
  pub out : SinkState
  pub err_before : SinkState
  pub err : SinkState

-- what the words ask for, where these are the files
abbrev pub asked_by : Seen → List Named → Work → Type 0
asked_by s files work = IsWork (command_of s.words) files work

-- what a history of so many sequences keeps, said of its events, the newest first
pub record KeepsLaws (schema : Schema) (seqs : ℕ) (past : List Event) : Type 0 where
  -- at each end the messages are consumed in the order in which they were written, each once
  pub in_order : InOrder (wire_of schema) past
  -- each is the one that its writer says: the tight bytes of a call or an answer, the bytes of a raw write, or a control
  pub writers : HaveWriters (wire_of schema) past
  -- what is got is what its message stands for
  pub stands : AllStand (wire_of schema) past
  -- requests are numbered, and each is answered once at most
  pub responses : OwnResponses past
  -- and a response is got by the sequence that asked for it
  pub askers : AllOfAskers past
  -- it is what the peer sent: a response what the responder of its own request answered, and that is the only answer to it
  pub own : AllOwn schema past
  pub first : AllFirst past
  -- what each call and each answer is to send fits its method, as `own` asks before it says that the value is the one sent
  pub fits : AllFit schema past
  -- the flushes of an end have the numbers 1, 2, 3 and so on, and one is consumed where all that was written before it is
  pub flushes : FlushesNumbered past
  pub behind : AllBehind (wire_of schema) past
  -- nothing is consumed, or found bad, at an end that waits for a flush, before that is consumed or its end is gone
  pub unpaused : AllUnpaused past
  -- what comes out of a data pipe is the beginning of what went in, and it holds the rest, which is never more than its capacity
  pub flows : DataInOrder past
  -- each thing that was made has one place: with a caller, in an unread message, bound, or gone
  pub one_place : OnePlace (wire_of schema) past
  -- each is left at the end or has gone, once, and nothing is made twice
  pub one_owner : OneOwner seqs past
  -- where no command links a group of sequences with others, its events alone are a legal history
  pub groups : GroupsApart (wire_of schema) seqs past

-- the text is that of one history, which is legal for the schema, is of the script's events in turns by this order, or in whatever turns where
-- there is none, and keeps the laws, of what became of each callback, and of what is left
pub record IsTextOf (schema : Schema) (script : Script) (order : Option ℕ) (text : List ℕ) : Type 0 where
  pub history : List Event
  pub legal : Legal (wire_of schema) script.seqs history
  pub events : OfScript schema script order history
  pub laws : KeepsLaws schema script.seqs (reverse history)
  pub whole : text ≡ run_text schema script.seqs history
  -- it says this history, what became of its callbacks and what is left, and nothing else
  pub one : Tells (texts.history schema) text (Ok (run_said script.seqs history))

-- a file by its name and bytes
abbrev pub read_as : Source → Named
read_as source = record { name = source.name; bytes = source.bytes }

-- the schema is that of files of these names, with the bytes that came, and no other file came
pub record IsSchemaRead (names : List (List ℕ)) (before now : List Named) (schema : Schema) : Type 0 where
  pub sources : List Source
  pub named : map (λ (source : Source). source.name) sources ≡ names
  pub came : now ≡ before ++ map read_as sources
  pub schema_of : IsSchemaOfFiles sources schema

-- and so are these bytes, of a file of this name behind them
pub record IsReadBehind (names : List (List ℕ)) (last : List ℕ) (before now : List Named) (schema : Schema) (bytes : List ℕ) : Type 0 where
  pub mid : List Named
  pub first : IsSchemaRead names before mid schema
  pub came : now ≡ mid ++ record { name = last; bytes = bytes } ∷ []

-- the text is that of a run that is asked for, of the script that the bytes are, over the schema of the Mojom files; all came from the files
-- that the words name
pub record IsRunText (words : RunWords) (before now : List Named) (held : Option (List Named)) (ask : List Named → Work → Type 0)
    (text : List ℕ) : Type 0 where
  pub schema : Schema
  pub bytes : List ℕ
  pub script : Script
  pub asked : AskedFor held ask (Runs schema bytes words.order)
  pub from : IsReadBehind words.files words.script before now schema bytes
  pub read : IsScriptOf schema bytes script
  pub text_of : IsTextOf schema script words.order text

-- the text is the canonical one of a tree that is asked for, of the bytes that came
pub record IsPrintText (name : List ℕ) (before now : List Named) (held : Option (List Named)) (ask : List Named → Work → Type 0)
    (text : List ℕ) : Type 0 where
  pub tree : File
  pub bytes : List ℕ
  pub asked : AskedFor held ask (Prints tree)
  pub came : now ≡ before ++ record { name = name; bytes = bytes } ∷ []
  pub parsed : IsParsed bytes tree
  pub text_of : text ≡ file_text tree

-- the text is that of the tables of a schema that is asked for, of the files that came
pub record IsCheckText (names : List (List ℕ)) (before now : List Named) (held : Option (List Named)) (ask : List Named → Work → Type 0)
    (text : List ℕ) : Type 0 where
  pub schema : Schema
  pub asked : AskedFor held ask (Checks schema)
  pub from : IsSchemaRead names before now schema
  pub text_of : text ≡ listing schema

-- the text is that of a message or of its value, or says how many events a history has that is sound
abbrev pub IsTextFor : Work → List ℕ → Type 0
IsTextFor (Encodes message) text = text ≡ hex_line message
IsTextFor (Decodes interface method request value) text = text ≡ shown_line interface method request value
IsTextFor (Sounds events) text = text ≡ sound_line events
IsTextFor _ text = ⊥

-- what the bytes of a value ask for, by the schema
abbrev pub EncodesFrom : EncodeWords → Schema → List ℕ → Work → Type 0
EncodesFrom words schema bytes work =
    (found : Target × ℕ) × (message_named schema (side_of words.side) words.method ≡ Some found) × Writing schema found bytes work

-- what the bytes of a message ask for, by the schema
abbrev pub DecodesFrom : DecodeWords → Schema → List ℕ → Work → Type 0
DecodesFrom words schema bytes work =
    (interface : ℕ) × (interface_named schema.interfaces words.interface ≡ Some interface)
    × Showing schema (expected_of interface (side_of words.side)) words.interface words.handles bytes work

-- the text is that of a message, or of the value of one, that is asked for, and that the bytes ask for that came
pub record IsMessageText (names : List (List ℕ)) (last : List ℕ) (From : Schema → List ℕ → Work → Type 0) (before now : List Named)
    (held : Option (List Named)) (ask : List Named → Work → Type 0) (text : List ℕ) : Type 0 where
  pub schema : Schema
  pub bytes : List ℕ
  pub work : Work
  pub asked : AskedFor held ask work
  pub from : IsReadBehind names last before now schema bytes
  pub made : From schema bytes work
  pub text_of : IsTextFor work text

-- the text has the numbers of a load that is asked for, over the schema of its own file; no file came
pub record IsLoadText (words : LoadWords) (before now : List Named) (held : Option (List Named)) (ask : List Named → Work → Type 0)
    (text : List ℕ) : Type 0 where
  pub schema : Schema
  pub counts : Counts
  pub asked : AskedFor held ask (Loads schema words.seed words.messages)
  pub none : now ≡ before
  pub schema_of : IsSchemaOfFiles load_sources schema
  pub counted : AreLoadCounts schema words.seed words.messages counts
  pub text_of : text ≡ counts_line counts

-- the script and the history came, of files of these names, behind Mojom files that have this schema
pub record AreReadBehind (words : AuditWords) (before now : List Named) (schema : Schema) (source bytes : List ℕ) : Type 0 where
  pub mid : List Named
  pub first : IsSchemaRead words.files before mid schema
  pub came : now ≡ mid ++ record { name = words.script; bytes = source } ∷ record { name = words.history; bytes = bytes } ∷ []

-- the text says how many events a history has, whose text is sound by the script that the bytes before it are, over the schema of the
-- Mojom files; all came from the files that the words name
pub record IsSoundText (words : AuditWords) (before now : List Named) (held : Option (List Named)) (ask : List Named → Work → Type 0)
    (text : List ℕ) : Type 0 where
  pub schema : Schema
  pub source : List ℕ
  pub script : Script
  pub bytes : List ℕ
  pub events : ℕ
  pub asked : AskedFor held ask (Sounds events)
  pub from : AreReadBehind words before now schema source bytes
  pub read : IsScriptOf schema source script
  pub sound : IsSound schema script bytes events
  pub text_of : text ≡ sound_line events

-- two files of these names came, one behind the other, and no other, which ask for this
pub record AreCompared (names : List (List ℕ)) (before now : List Named) (work : Work) : Type 0 where
  pub sources : List Source
  pub named : map (λ (source : Source). source.name) sources ≡ names
  pub came : now ≡ before ++ map read_as sources
  pub made : Pairing sources work

-- the text is that of files that are compatible, as is asked for, and the files that came are so
pub record IsCompatText (names : List (List ℕ)) (before now : List Named) (held : Option (List Named)) (ask : List Named → Work → Type 0)
    (text : List ℕ) : Type 0 where
  pub stable : ℕ
  pub asked : AskedFor held ask (Reads stable)
  pub from : AreCompared names before now (Reads stable)
  pub text_of : text ≡ compatible_line stable

-- the text is one that the words and the files ask for, and so do the files that came, whole, between these two moments
abbrev pub IsRightText : Option Command → List Named → List Named → Option (List Named) → (List Named → Work → Type 0) → List ℕ → Type 0
IsRightText None before now held ask text = ⊥
IsRightText (Some (Run words)) before now held ask text = IsRunText words before now held ask text
IsRightText (Some (Print file)) before now held ask text = IsPrintText file before now held ask text
IsRightText (Some (Check names)) before now held ask text = IsCheckText names before now held ask text
IsRightText (Some (Encode words)) before now held ask text = IsMessageText words.files words.value (EncodesFrom words) before now held ask text
IsRightText (Some (Decode words)) before now held ask text = IsMessageText words.files words.message (DecodesFrom words) before now held ask text
IsRightText (Some (Load words)) before now held ask text = IsLoadText words before now held ask text
IsRightText (Some (Audit words)) before now held ask text = IsSoundText words before now held ask text
IsRightText (Some (Compat old new)) before now held ask text = IsCompatText (old ∷ new ∷ []) before now held ask text

-- Mojom files of these names came, and no other, and are refused
pub record AreRefused (names : List (List ℕ)) (before now : List Named) (work : Work) : Type 0 where
  pub sources : List Source
  pub error : SchemaError
  pub named : map (λ (source : Source). source.name) sources ≡ names
  pub came : now ≡ before ++ map read_as sources
  pub refused : IsRefusalOf sources error
  pub whole : work ≡ unchecked sources error

-- they have a schema that lacks what a word names
pub record IsUnknown (names : List (List ℕ)) (word : List ℕ) (Lacks : Schema → Type 0) (before now : List Named) (work : Work) : Type 0 where
  pub schema : Schema
  pub from : IsSchemaRead names before now schema
  pub lacks : Lacks schema
  pub whole : work ≡ UnknownName word

-- a file of this name came, whose bytes ask for this
abbrev pub FileAsks : List ℕ → (List ℕ → Work → Type 0) → List Named → List Named → Work → Type 0
FileAsks name next before now work = (bytes : List ℕ) × (now ≡ before ++ record { name = name; bytes = bytes } ∷ []) × next bytes work

-- they have a schema, and a file of this name came behind them, whose bytes ask for this
pub record LastAsks (names : List (List ℕ)) (last : List ℕ) (From : Schema → List ℕ → Work → Type 0) (before now : List Named) (work : Work) : Type 0 where
  pub schema : Schema
  pub bytes : List ℕ
  pub from : IsReadBehind names last before now schema bytes
  pub made : From schema bytes work

-- no file came, and that of a load is refused so
pub record IsLoadRefused (before now : List Named) (work : Work) : Type 0 where
  pub none : now ≡ before
  pub error : SchemaError
  pub refused : IsRefusalOf load_sources error
  pub whole : work ≡ unchecked load_sources error

-- a line of a script is the first that is refused
abbrev pub HasRefusedLine : Schema → List ℕ → Work → Type 0
HasRefusedLine schema bytes work = (line : ℕ) × (why : LineRefusal) × IsFirstRefusal schema bytes line why × (work ≡ RefusesLine line why)

-- they have a schema, a script came behind them and a history behind that, of which an audit says this
pub record HistoryAsks (words : AuditWords) (before now : List Named) (work : Work) : Type 0 where
  pub schema : Schema
  pub source : List ℕ
  pub script : Script
  pub bytes : List ℕ
  pub from : AreReadBehind words before now schema source bytes
  pub read : IsScriptOf schema source script
  pub made : Auditing schema script bytes work

-- the files that came between these two moments are refused so
abbrev pub RefusedFrom : Option Command → List Named → List Named → Work → Type 0
RefusedFrom None before now work = ⊥
RefusedFrom (Some (Run words)) before now work =
    AreRefused words.files before now work ⊎ LastAsks words.files words.script (λ (schema : Schema). Reading schema words.order) before now work
RefusedFrom (Some (Print file)) before now work = FileAsks file (Parsing file) before now work
RefusedFrom (Some (Check names)) before now work = AreRefused names before now work
RefusedFrom (Some (Encode words)) before now work =
    AreRefused words.files before now work
    ⊎ (IsUnknown words.files words.method (λ (schema : Schema). message_named schema (side_of words.side) words.method ≡ None) before now work
    ⊎ LastAsks words.files words.value (EncodesFrom words) before now work)
RefusedFrom (Some (Decode words)) before now work =
    AreRefused words.files before now work
    ⊎ (IsUnknown words.files words.interface (λ (schema : Schema). interface_named schema.interfaces words.interface ≡ None) before now work
    ⊎ LastAsks words.files words.message (DecodesFrom words) before now work)
RefusedFrom (Some (Load words)) before now work = IsLoadRefused before now work
RefusedFrom (Some (Audit words)) before now work =
    AreRefused words.files before now work
    ⊎ (LastAsks words.files words.script HasRefusedLine before now work ⊎ HistoryAsks words before now work)
RefusedFrom (Some (Compat old new)) before now work = AreCompared (old ∷ new ∷ []) before now work

-- the work is that of a file that is too long
abbrev pub IsTooLong : Work → Type 0
IsTooLong work = (name : List ℕ) × (work ≡ TooLong name)

-- the work that a refusal is the answer to
abbrev pub refused_work : ToolRefusal → Work
refused_work (refusals.RefusedLine line why) = RefusesLine line why
refused_work (refusals.FileTooLong name) = TooLong name.now
refused_work (refusals.Refused name refusal) = Refuses name.now refusal
refused_work (refusals.Rejected name at cause) = Rejects name.now at cause
refused_work (refusals.UnknownName name) = UnknownName name.now
refused_work (refusals.BadText at) = BadText at
refused_work (refusals.Unfit why) = Unfit why
refused_work refusals.BadHex = BadHex
refused_work (refusals.Faulty fault) = Faulty fault
refused_work (refusals.Unsound answer) = Unsounds answer
refused_work (refusals.Incompatible reason) = Breaks reason

-- the file that its line names, where it names one
abbrev pub refused_name : ToolRefusal → Option (List ℕ)
refused_name (refusals.RefusedLine line why) = None
refused_name (refusals.FileTooLong name) = Some name.now
refused_name (refusals.Refused name refusal) = Some name.now
refused_name (refusals.Rejected name at cause) = Some name.now
refused_name (refusals.UnknownName name) = None
refused_name (refusals.BadText at) = None
refused_name (refusals.Unfit why) = None
refused_name refusals.BadHex = None
refused_name (refusals.Faulty fault) = None
refused_name (refusals.Unsound answer) = None
refused_name (refusals.Incompatible reason) = None

-- the whole text was taken, or a front of it where a fault was counted
abbrev pub WroteOrFailed : SinkState → SinkState → List ℕ → Type 0
WroteOrFailed before now text = Wrote before now text ⊎ (WroteSome before now text × Rose before.faults now.faults)

-- the name isn't there, or a fault on a name that is there was counted
abbrev pub ReadFailed : Option (List Named) → (List Named → Work → Type 0) → List ℕ → ℕ → ℕ → Type 0
ReadFailed None ask name before now = Unit {0}
ReadFailed (Some files) ask name before now = ask files (Missing name) ⊎ Rose before now

-- all was done, and the whole text written; nothing is said on standard error; all files that the words name were fetched
pub record IsDone (s : Seen) : Type 0 where
  pub text : List ℕ
  pub fetched : AllFetched (command_of s.words) s.files_before.fetches s.files.fetches
  pub wrote : Wrote s.out_before s.out text
  pub right : IsRightText (command_of s.words) s.files_before.read s.files.read s.files_before.held (asked_by s) text
  pub silent : s.err ≡ s.err_before

-- the first refusal that the files give, with its line; a file that the line names is one that a call comes to; no file was fetched behind
-- those that give it, and those that came whole are what gives it, unless it is that one is too long
pub record IsRefused (s : Seen) : Type 0 where
  pub refusal : ToolRefusal
  pub fetched : FetchedUpTo (command_of s.words) (refused_work refusal) s.files_before.fetches s.files.fetches
  pub reached : IfSome (refused_name refusal) (ComesTo (command_of s.words) s.files_before.held)
  pub quiet : s.out ≡ s.out_before
  pub asked : AskedFor s.files_before.held (asked_by s) (refused_work refusal)
  pub from : IsTooLong (refused_work refusal) ⊎ RefusedFrom (command_of s.words) s.files_before.read s.files.read (refused_work refusal)
  pub wrote : WroteOrFailed s.err_before s.err (error_line (refusal_text refusal))

-- the words are no command, or ask for help, and no file is fetched
pub record IsWrongUse (s : Seen) : Type 0 where
  pub quiet : s.out ≡ s.out_before
  pub unread : s.files ≡ s.files_before
  pub wrong : command_of s.words ≡ None

-- a file that the words name, and that a call comes to, could not be fetched: that of the last fetch, behind those of all before it
pub record IsReadFault (s : Seen) : Type 0 where
  pub name : List ℕ
  pub fetched : FetchedUpTo (command_of s.words) (Missing name) s.files_before.fetches s.files.fetches
  pub reached : ComesTo (command_of s.words) s.files_before.held name
  pub quiet : s.out ≡ s.out_before
  pub rose : Rose s.files_before.faults s.files.faults
  pub failed : ReadFailed s.files_before.held (asked_by s) name s.files_before.faults_on_present s.files.faults_on_present
  pub wrote : WroteOrFailed s.err_before s.err (error_line (read_text name))

-- a front of the text was written, and the sink failed; nothing is said on standard error; all files that the words name were fetched
pub record IsWriteFault (s : Seen) : Type 0 where
  pub text : List ℕ
  pub fetched : AllFetched (command_of s.words) s.files_before.fetches s.files.fetches
  pub part : WroteSome s.out_before s.out text
  pub rose : Rose s.out_before.faults s.out.faults
  pub right : IsRightText (command_of s.words) s.files_before.read s.files.read s.files_before.held (asked_by s) text
  pub silent : s.err ≡ s.err_before

-- want of memory is the one free answer, and nothing is written; the first of the files were fetched
pub record IsNoMemory (s : Seen) : Type 0 where
  pub fetched : PartFetched (command_of s.words) s.files_before.fetches s.files.fetches
  pub quiet : s.out ≡ s.out_before
  pub silent : s.err ≡ s.err_before

-- what is promised with each status
abbrev pub Answers : Seen → Status → Type 0
Answers s Done = IsDone s
Answers s Refused = IsRefused s
Answers s WrongUse = IsWrongUse s
Answers s ReadFault = IsReadFault s
Answers s WriteFault = IsWriteFault s
Answers s NoMemory = IsNoMemory s
