-- What the command and the files ask for, in the order in which a call finds it out: the words, the Mojom files, and then the script
-- and its run, or the method, the value and its message, or the interface, the message and its value, or the script and the history; or
-- what two files by themselves say of each other.
use Rattle.std.specs.Prelude.{ℕ, ◌≡◌, ◌≤◌, ◌<◌, ◌-◌, ◌==◌, ◌&&◌, Bool, false, List, [], ◌∷◌, ◌++◌, length, slice_get, slice_index, take}
use Rattle.std.specs.Prelude.{nat_lt, Option, Some, None, IsSome, Result, Ok, Err, ◌⊎◌, if◌then◌else◌}
use Rattle.std.specs.Option.{option_map_or}
use Rattle.mj_base.specs.declared.limits.TheConstants.{MAX_FILE_BYTES}
use Rattle.mj_io.specs.Outside.{Named, find_file}
use Rattle.command_line.specs.Asked.{Command, RunWords, EncodeWords, DecodeWords, LoadWords, AuditWords, Run, Print, Check, Encode, Decode, Load, Audit}
use Rattle.command_line.specs.Asked.{Compat}
use Rattle.mj_schema.specs.KindTrees.{KindTree, StructKind}
use Rattle.mj_schema.specs.Lookups.{interface_named}
use Rattle.mj_schema.specs.declared.rows.MethodRow.{MethodRow}
use Rattle.mj_schema.specs.declared.schema.Schema.{Schema}
use Rattle.mojom_ast.specs.declared.file.File.{File}
use Rattle.mojom_compile.specs.declared.error.FileRefusal.{FileRefusal}
use Rattle.mojom_compile.specs.declared.schema_error.SchemaError.{SchemaError}
use Rattle.mojom_compile.specs.declared.schema_error.SchemaError.TheVariants as schema
use Rattle.mojom_compile.specs.declared.source.Source.{Source}
use Rattle.mojom_compile.specs.Compiled.{IsParsed, IsUnread}
use Rattle.mojom_compile.specs.Schemas.{IsSchemaOfFiles, IsRefusalOf}
use Rattle.mojom_files.specs.Causes.{Cause}
use Rattle.load_command.specs.LoadFile.{load_name, load_sources}
use Rattle.call_script.specs.declared.script.Script.{Script}
use Rattle.history_audit.specs.Audited.{Audits}
use Rattle.history_audit.specs.declared.auditing.AuditFinding.{AuditFinding as Said}
use Rattle.history_audit.specs.declared.auditing.AuditFinding.TheVariants as said
use Rattle.history_audit.specs.declared.auditing.AuditError.TheVariants as unsaid
use Rattle.call_script.specs.declared.script_error.LineRefusal.{LineRefusal}
use Rattle.call_script.specs.Script.{IsScriptOf, IsFirstRefusal}
use Rattle.hex.specs.Hex.{decode_of}
use Rattle.hex.specs.declared.error.FromHexError.{FromHexError}
use Rattle.wire_model.specs.Expected.{Stands, message_marks, struct_of, method_named}
use Rattle.wire_model.specs.Message.{Head, is_plain, message, payload_start, request_read, written_request}
use Rattle.wire_model.specs.Stands.{up_from}
use Rattle.wire_model.specs.Tight.{MAX_PAYLOAD_BYTES, value_of}
use Rattle.wire_model.specs.Trees.{Tree}
use Rattle.mj_base.specs.declared.fault.Fault.{Fault}
use Rattle.wire_model.specs.declared.target.Expected.{Expected}
use Rattle.wire_model.specs.declared.target.Target.{Target}
use Rattle.wire_model.specs.declared.value.Value.{Value}
use Rattle.message_laws.specs.Filled.{AreBytes}
use Rattle.bounds_claims.specs.Runs.{first_fault}
use Rattle.message_validator.specs.Before.{before_payload}
use Rattle.wire_encoder.specs.FirstFailed.{Met, Refusal}
use Rattle.wire_encoder.specs.Prepared.{method_of, flags_for, payload_for, verdict}
use Rattle.wire_encoder.specs.declared.refusal.Flaw.{Flaw}
use Rattle.wire_encoder.specs.declared.refusal.Flaw.TheVariants as flaws
use Rattle.wire_encoder.specs.declared.refusal.PrepareError.{PrepareError}
use Rattle.wire_encoder.specs.declared.refusal.PrepareError.TheVariants as unfit
use Rattle.sealed_laws.specs.Sealed.{IsReadAs, expected_for}
use Rattle.byte_rules.specs.Judged.{Spells, IsBad}
use Rattle.compat_model.specs.declared.reason.Reason.{Reason}
use Rattle.compat_model.specs.declared.reason.Verdict.TheVariants.{Compatible, Broken}
use Rattle.compat_model.specs.Verdicts.{Judges}
use Rattle.compat_laws.specs.Read.{ReadsStable}
use Rattle.value_text.specs.Brackets.{MAX_BRACKETS}
use Rattle.value_text.specs.Rules.{value}
use Rattle.value_text.specs.Spelling.{spell}
use Rattle.value_text.specs.Texts.{Tells, ReadsBack}
use Rattle.value_text.specs.declared.text_error.TextError.{TextError}
use Rattle.call_script.specs.Targets.{message_named}
use Rattle.mojo_tool.specs.Targets.{side_of, expected_of}

-- the name is one of these
abbrev pub IsAmong : List (List ℕ) → List ℕ → Type 0
IsAmong [] name = ⊥
IsAmong (other ∷ others) name = (other ≡ name) ⊎ IsAmong others name

-- the files of these names have these bytes
abbrev pub AreFetched : List Named → List (List ℕ) → List Source → Type 0
AreFetched files [] [] = Unit {0}
AreFetched files [] (source ∷ sources) = ⊥
AreFetched files (name ∷ names) [] = ⊥
AreFetched files (name ∷ names) (source ∷ sources) =
    (source.name ≡ name) × (find_file files name ≡ Some source.bytes) × (length source.bytes ≤ MAX_FILE_BYTES) × AreFetched files names sources

-- the files of these names are there, none too long, and have this schema
pub record HaveSchema (files : List Named) (names : List (List ℕ)) (schema : Schema) : Type 0 where
  pub sources : List Source
  pub are : AreFetched files names sources
  pub schema_of : IsSchemaOfFiles sources schema

-- over files that say what they hold, those of these names have a schema
abbrev pub HasSchemaAt : Option (List Named) → List (List ℕ) → Type 0
HasSchemaAt None names = Unit {0}
HasSchemaAt (Some files) names = (schema : Schema) × HaveSchema files names schema

-- over files that say what they hold, those of the words have a schema with the message that is to be encoded
abbrev pub HasMessageAt : Option (List Named) → EncodeWords → Type 0
HasMessageAt None words = Unit {0}
HasMessageAt (Some files) words =
    (schema : Schema) × HaveSchema files words.files schema × IsSome (message_named schema (side_of words.side) words.method)

-- over files that say what they hold, those of the words have a schema with the interface
abbrev pub HasInterfaceAt : Option (List Named) → DecodeWords → Type 0
HasInterfaceAt None words = Unit {0}
HasInterfaceAt (Some files) words =
    (schema : Schema) × HaveSchema files words.files schema × IsSome (interface_named schema.interfaces words.interface)

-- over files that say what they hold, those of the words have a schema, and the bytes behind them are a script of it
pub record HasScript (files : List Named) (words : AuditWords) : Type 0 where
  pub schema : Schema
  pub have : HaveSchema files words.files schema
  pub source : List ℕ
  pub found : find_file files words.script ≡ Some source
  pub script : Script
  pub is : IsScriptOf schema source script

-- so it is where files say what they hold; where none do, nothing is said
abbrev pub HasScriptAt : Option (List Named) → AuditWords → Type 0
HasScriptAt None words = Unit {0}
HasScriptAt (Some files) words = HasScript files words

-- the words name this file, and a call comes to it: to a script only where the Mojom files have a schema, to a value only where they have
-- one with the method, to a message only where they have one with the interface, and to a history only where there is a script. A load comes to
-- the file that it has of itself
abbrev pub ComesTo : Option Command → Option (List Named) → List ℕ → Type 0
ComesTo None held name = ⊥
ComesTo (Some (Run words)) held name = IsAmong words.files name ⊎ ((name ≡ words.script) × HasSchemaAt held words.files)
ComesTo (Some (Print file)) held name = name ≡ file
ComesTo (Some (Check files)) held name = IsAmong files name
ComesTo (Some (Encode words)) held name = IsAmong words.files name ⊎ ((name ≡ words.value) × HasMessageAt held words)
ComesTo (Some (Decode words)) held name = IsAmong words.files name ⊎ ((name ≡ words.message) × HasInterfaceAt held words)
ComesTo (Some (Load words)) held name = name ≡ load_name
ComesTo (Some (Audit words)) held name =
    IsAmong words.files name
    ⊎ (((name ≡ words.script) × HasSchemaAt held words.files) ⊎ ((name ≡ words.history) × HasScriptAt held words))
ComesTo (Some (Compat old new)) held name = IsAmong (old ∷ new ∷ []) name

-- what is asked for
pub data Work : Type 0 where
  -- nothing: the words are no command, or ask for help
  WrongWords : Work
  -- a file to be fetched isn't there
  Missing : (name : List ℕ) → Work
  -- a file to be fetched has more than MAX_FILE_BYTES bytes
  TooLong : (name : List ℕ) → Work
  -- a Mojom file is refused at a place: it has no tree
  Refuses : (name : List ℕ) → (refusal : FileRefusal) → Work
  -- a name, a constant or a kind of a Mojom file is refused at a place
  Rejects : (name : List ℕ) → (at : ℕ) → (cause : Cause) → Work
  -- a line of a script is the first that is refused
  RefusesLine : (line : ℕ) → (why : LineRefusal) → Work
  -- the files have no interface of this name, or no method or response that it names
  UnknownName : (name : List ℕ) → Work
  -- a text is no value, at a place
  BadText : (at : ℕ) → Work
  -- a value isn't written as a message
  Unfit : (why : PrepareError) → Work
  -- a file isn't hexadecimal
  BadHex : Work
  -- a message stands for nothing: its first fault
  Faulty : Fault → Work
  -- a newer file doesn't read what the stable definitions of an older one write, for this reason first
  Breaks : Reason → Work
  -- the tables of this schema
  Checks : (schema : Schema) → Work
  -- the text of this tree
  Prints : (tree : File) → Work
  -- a run of the script that these bytes are, whose sequences do their lines in turns by this order, or each in a thread of its own
  Runs : (schema : Schema) → (script : List ℕ) → (order : Option ℕ) → Work
  -- the bytes of this message
  Encodes : (message : List ℕ) → Work
  -- the method, the request id and the text of the value of a message
  Decodes : (interface method : List ℕ) (request : ℕ) (value : List ℕ) → Work
  -- a load of so many messages, by numbers that are drawn behind the seed
  Loads : (schema : Schema) → (seed messages : ℕ) → Work
  -- a history's text is that of a run, with so many events
  Sounds : (events : ℕ) → Work
  -- it isn't: what an audit says of it
  Unsounds : (answer : Said) → Work
  -- a newer file reads what so many stable definitions of an older one write
  Reads : (stable : ℕ) → Work

-- the file is not there, or too long, or its bytes lead on
abbrev pub Leads : List ℕ → (List ℕ → Work → Type 0) → Option (List ℕ) → Work → Type 0
Leads name next None work = work ≡ Missing name
Leads name next (Some bytes) work = ((MAX_FILE_BYTES < length bytes) × (work ≡ TooLong name)) ⊎ ((length bytes ≤ MAX_FILE_BYTES) × next bytes work)

-- what a fetch of this name leads on to
abbrev pub Fetching : List Named → List ℕ → (List ℕ → Work → Type 0) → Work → Type 0
Fetching files name next work = Leads name next (find_file files name) work

-- the bytes have a tree, which is printed, or are refused
abbrev pub Parsing : List ℕ → List ℕ → Work → Type 0
Parsing name bytes work =
    ((tree : File) × IsParsed bytes tree × (work ≡ Prints tree))
    ⊎ ((refusal : FileRefusal) × IsUnread bytes refusal × (work ≡ Refuses name refusal))

-- the bytes are a script, which is run in these turns, or have a first line that is refused
abbrev pub Reading : Schema → Option ℕ → List ℕ → Work → Type 0
Reading schema order bytes work =
    ((script : Script) × IsScriptOf schema bytes script × (work ≡ Runs schema bytes order))
    ⊎ ((line : ℕ) × (why : LineRefusal) × IsFirstRefusal schema bytes line why × (work ≡ RefusesLine line why))

-- the script's file comes after the Mojom files
abbrev pub Scripting : List Named → List ℕ → Option ℕ → Schema → Work → Type 0
Scripting files name order schema work = Fetching files name (Reading schema order) work

-- the Mojom file alone
abbrev pub Printing : List Named → List ℕ → Work → Type 0
Printing files name work = Fetching files name (Parsing name) work

-- the name of the file of this number
abbrev pub name_at : List Source → ℕ → List ℕ
name_at sources number = option_map_or (λ (source : Source). source.name) (slice_get sources number) []

-- what files that have no schema ask for
abbrev pub unchecked : List Source → SchemaError → Work
unchecked sources (schema.Unread file refusal) = Refuses (name_at sources file) refusal
unchecked sources (schema.Refused refusal) = Rejects (name_at sources refusal.file) refusal.at refusal.cause
unchecked sources schema.Memory = WrongWords

-- the files have a schema, which leads on, or are refused
abbrev pub Tabling : (Schema → Work → Type 0) → List Source → Work → Type 0
Tabling next sources work =
    ((schema : Schema) × IsSchemaOfFiles sources schema × next schema work)
    ⊎ ((error : SchemaError) × IsRefusalOf sources error × (work ≡ unchecked sources error))

-- what the fetches of these names, one behind another, lead on to, behind files that were fetched
abbrev pub FetchingAll : List Named → List (List ℕ) → List Source → (List Source → Work → Type 0) → Work → Type 0
FetchingAll files [] fetched next work = next fetched work
FetchingAll files (name ∷ names) fetched next work =
    Fetching files name (λ (bytes : List ℕ). FetchingAll files names (fetched ++ record { name = name; bytes = bytes } ∷ []) next) work

-- all Mojom files come first, in the order of the words, and what they mean leads on
abbrev pub Gathering : List Named → List (List ℕ) → (Schema → Work → Type 0) → Work → Type 0
Gathering files names next work = FetchingAll files names [] (λ sources w. Tabling next sources w) work

-- all Mojom files come before the script
abbrev pub Running : List Named → RunWords → Work → Type 0
Running files words work = Gathering files words.files (Scripting files words.script words.order) work

-- a schema's tables are printed
abbrev pub Listing : Schema → Work → Type 0
Listing schema work = work ≡ Checks schema

-- all Mojom files alone
abbrev pub Checking : List Named → List (List ℕ) → Work → Type 0
Checking files names work = Gathering files names Listing work

-- the byte that ends a line
abbrev pub line_feed : ℕ
line_feed = 10

-- the bytes end in a line feed
abbrev pub ends_line : List ℕ → Bool
ends_line bytes = nat_lt 0 (length bytes) && (slice_index bytes (length bytes - 1) == line_feed)

-- the bytes without the one line feed that they may end in
abbrev pub without_line_end : List ℕ → List ℕ
without_line_end bytes = if ends_line bytes then take (length bytes - 1) bytes else bytes

-- the kind of parameters: a struct, which is there
abbrev pub parameters_kind : ℕ → KindTree
parameters_kind number = StructKind number false

-- the text spells a value, which leads on, or is bad at a place
abbrev pub Valuing : Schema → ℕ → (Tree → Work → Type 0) → List ℕ → Work → Type 0
Valuing schema number next text work =
    ((tree : Tree) × Spells (value schema MAX_BRACKETS (parameters_kind number)) tree text × next tree work)
    ⊎ ((at : ℕ) × IsBad (value schema MAX_BRACKETS (parameters_kind number)) text at × (work ≡ BadText at))

-- whatever a reading of a value's text answers, it is this value, unless memory runs out
abbrev pub IsReadBack : Schema → ℕ → Tree → Type 0
IsReadBack schema number tree = (read : Result Value TextError)
    → Tells (value schema MAX_BRACKETS (parameters_kind number)) (spell schema (parameters_kind number) tree) read → ReadsBack tree read

-- a message that stands is shown: its method and the struct of its parameters are the ones that it names, and the text of its value is read back
-- as that value, where all the numbers of the message are bytes
pub record IsShown (schema : Schema) (expected : Expected) (name bytes : List ℕ) (work : Work) : Type 0 where
  pub method : MethodRow
  pub number : ℕ
  pub named : method_named schema expected bytes ≡ Some method
  pub parameters : struct_of expected.side method ≡ Some number
  pub whole : work ≡ Decodes name method.name (request_read bytes)
      (spell schema (parameters_kind number) (value_of schema bytes (payload_start bytes) number))
  pub reads : (handles : ℕ) → AreBytes bytes → Stands schema expected bytes handles
      → IsReadBack schema number (value_of schema bytes (payload_start bytes) number)

-- a message without a fault stands and is shown; else its first fault is said
abbrev pub Judged : Schema → Expected → List ℕ → ℕ → List ℕ → Option Fault → Work → Type 0
Judged schema expected name handles bytes None work = Stands schema expected bytes handles × IsShown schema expected name bytes work
Judged schema expected name handles bytes (Some fault) work = work ≡ Faulty fault

-- the tests of a message, in their order, as of one that came with so many handles
abbrev pub Judging : Schema → Expected → List ℕ → ℕ → List ℕ → Work → Type 0
Judging schema expected name handles bytes work =
    Judged schema expected name handles bytes (first_fault (before_payload bytes handles) (message_marks schema expected bytes)) work

-- why a value with this flaw isn't written
abbrev pub flaw_at : Flaw → List ℕ → PrepareError
flaw_at flaws.Misfit path = unfit.Misfit path
flaw_at flaws.TooDeep path = unfit.TooDeep path
flaw_at flaws.TooManyHandles path = unfit.TooManyHandles path

-- the head of a message that is printed: the interface id 0, the request id 1, no moment, and the ids 1, 2, 3 and so on
abbrev pub head_of : Schema → Target → Met → Head
head_of schema target met = record {
  interface = 0;
  name = target.method;
  flags = flags_for (method_of schema target) target;
  nonce = 0;
  request = 1;
  moment = None;
  ids = up_from 1 (length met.endpoints);
}

-- the message that is printed of a value
abbrev pub printed_message : Schema → Target → Tree → Met → List ℕ
printed_message schema target tree met = message (head_of schema target met) (payload_for schema target tree)

-- `decode` shows the message that is printed of a value, with as many handles as the value has, under any name: as a message of the target's method,
-- with the request id 1 where there is one, and with the text of this value
pub record IsShownAgain (schema : Schema) (target : Target) (tree : Tree) (met : Met) (name : List ℕ) : Type 0 where
  pub method : MethodRow
  pub number : ℕ
  pub named : method_of schema target ≡ Some method
  pub parameters : struct_of target.side method ≡ Some number
  pub shown : Judging schema (expected_for target) name met.handles (printed_message schema target tree met)
      (Decodes name method.name (written_request (is_plain (flags_for (Some method) target)) 1) (spell schema (parameters_kind number) tree))

-- a value that passes all checks, in few bytes, is printed as its message; that is let through and read as the value, and `decode` shows the value
pub record IsSealed (schema : Schema) (target : Target) (tree : Tree) (met : Met) (work : Work) : Type 0 where
  pub short : length (payload_for schema target tree) ≤ MAX_PAYLOAD_BYTES
  pub whole : work ≡ Encodes (printed_message schema target tree met)
  pub reads : IsReadAs schema target met.handles (head_of schema target met) tree (printed_message schema target tree met)
  pub shows : (name : List ℕ) → IsShownAgain schema target tree met name

-- a value that passes all checks is printed as a message, unless its payload is too long; else its first flaw is said
abbrev pub Sealing : Schema → Target → Tree → Result Met Refusal → Work → Type 0
Sealing schema target tree (Err wrong) work = work ≡ Unfit (flaw_at wrong.flaw wrong.path)
Sealing schema target tree (Ok met) work =
    ((MAX_PAYLOAD_BYTES < length (payload_for schema target tree)) × (work ≡ Unfit unfit.TooLong)) ⊎ IsSealed schema target tree met work

-- the value is checked for its target
abbrev pub Preparing : Schema → Target → Tree → Work → Type 0
Preparing schema target tree work = Sealing schema target tree (verdict schema target tree) work

-- the text of a value without its line's end
abbrev pub Writing : Schema → Target × ℕ → List ℕ → Work → Type 0
Writing schema (target, number) bytes work = Valuing schema number (Preparing schema target) (without_line_end bytes) work

-- what a look-up found leads on, or the word is unknown
abbrev pub Finding : {A : Type 0} → List ℕ → (A → Work → Type 0) → Option A → Work → Type 0
Finding word next None work = work ≡ UnknownName word
Finding word next (Some found) work = next found work

-- the value's file comes after the method
abbrev pub Encoding : List Named → EncodeWords → Schema → Work → Type 0
Encoding files words schema work =
    Finding words.method (λ found w. Fetching files words.value (Writing schema found) w)
    (message_named schema (side_of words.side) words.method) work

-- the bytes of hexadecimal lead on, or it is none
abbrev pub Unhexing : (List ℕ → Work → Type 0) → Result (List ℕ) FromHexError → Work → Type 0
Unhexing next (Ok bytes) work = next bytes work
Unhexing next (Err error) work = work ≡ BadHex

-- the hexadecimal of a message without its line's end
abbrev pub Showing : Schema → Expected → List ℕ → ℕ → List ℕ → Work → Type 0
Showing schema expected name handles bytes work = Unhexing (Judging schema expected name handles) (decode_of (without_line_end bytes)) work

-- the message's file comes after the interface
abbrev pub Decoding : List Named → DecodeWords → Schema → Work → Type 0
Decoding files words schema work =
    Finding words.interface
    (λ interface w. Fetching files words.message (Showing schema (expected_of interface (side_of words.side)) words.interface words.handles) w)
    (interface_named schema.interfaces words.interface) work

-- the file of a load has a schema, over which it is run
abbrev pub Loading : LoadWords → Work → Type 0
Loading words work = Tabling (λ schema w. w ≡ Loads schema words.seed words.messages) load_sources work

-- the work that an audit's answer is
abbrev pub audited : Said → Work
audited (said.Sound events) = Sounds events
audited (said.Wrong event) = Unsounds (said.Wrong event)
audited (said.Short events) = Unsounds (said.Short events)
audited (said.Tail line) = Unsounds (said.Tail line)

-- the bytes are what an audit by this script says of them, or no history's text, at a place
abbrev pub Auditing : Schema → Script → List ℕ → Work → Type 0
Auditing schema script bytes work =
    ((answer : Said) × Audits schema script bytes (Ok answer) × (work ≡ audited answer))
    ⊎ ((at : ℕ) × Audits schema script bytes (Err (unsaid.BadText at)) × (work ≡ BadText at))

-- the bytes are a script, which leads on, or have a first line that is refused
abbrev pub Scripted : Schema → (Script → Work → Type 0) → List ℕ → Work → Type 0
Scripted schema next bytes work =
    ((script : Script) × IsScriptOf schema bytes script × next script work)
    ⊎ ((line : ℕ) × (why : LineRefusal) × IsFirstRefusal schema bytes line why × (work ≡ RefusesLine line why))

-- the history's file comes after the script
abbrev pub Historying : List Named → List ℕ → Schema → Script → Work → Type 0
Historying files history schema script work = Fetching files history (Auditing schema script) work

-- the script's file comes after the Mojom files
abbrev pub AuditingAll : List Named → List ℕ → List ℕ → Schema → Work → Type 0
AuditingAll files script history schema work = Fetching files script (Scripted schema (λ read w. Historying files history schema read w)) work

-- the newer schema reads what the stable definitions of the older one write, so each message of its stable interfaces, or doesn't
abbrev pub Comparing : Schema → Schema → Work → Type 0
Comparing old new work =
    ((stable : ℕ) × Judges old new (Compatible stable) × (work ≡ Reads stable) × ReadsStable old new)
    ⊎ ((reason : Reason) × Judges old new (Broken reason) × (work ≡ Breaks reason))

-- two files have a schema each, by themselves, or are refused, the older one first
abbrev pub Pairing : List Source → Work → Type 0
Pairing (old ∷ new ∷ []) work = Tabling (λ (a : Schema) w. Tabling (Comparing a) (new ∷ []) w) (old ∷ []) work
Pairing _ work = ⊥

-- the work that a command asks for over these files
abbrev pub IsWork : Option Command → List Named → Work → Type 0
IsWork None files work = work ≡ WrongWords
IsWork (Some (Run words)) files work = Running files words work
IsWork (Some (Print file)) files work = Printing files file work
IsWork (Some (Check names)) files work = Checking files names work
IsWork (Some (Encode words)) files work = Gathering files words.files (Encoding files words) work
IsWork (Some (Decode words)) files work = Gathering files words.files (Decoding files words) work
IsWork (Some (Load words)) files work = Loading words work
IsWork (Some (Audit words)) files work = Gathering files words.files (AuditingAll files words.script words.history) work
IsWork (Some (Compat old new)) files work = FetchingAll files (old ∷ new ∷ []) [] Pairing work

-- over files that say what they hold, this is what is asked for
abbrev pub AskedFor : Option (List Named) → (List Named → Work → Type 0) → Work → Type 0
AskedFor None ask work = Unit {0}
AskedFor (Some files) ask work = ask files work
