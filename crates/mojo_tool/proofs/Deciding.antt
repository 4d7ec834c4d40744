-- What a method or an interface leads on to, behind the schema of all files.
use Rattle.std.proofs.Common.{◌≡◌, ℕ, List, Some, None, refl, subst, sym}
use Rattle.std.specs.Prelude.{Option, IsSome}
use Rattle.mj_io.specs.Outside.{Named, FilesState, FilesGoOn}
use Rattle.command_line.specs.Asked.{EncodeWords, DecodeWords}
use Rattle.mj_schema.specs.Lookups.{interface_named}
use Rattle.mj_schema.specs.declared.schema.Schema.{Schema}
use Rattle.wire_model.specs.declared.target.Expected.{Expected}
use Rattle.wire_model.specs.declared.target.Target.{Target}
use Rattle.call_script.specs.Targets.{message_named}
use Rattle.mojo_tool.specs.Targets.{side_of, expected_of}
use Rattle.mojo_tool.specs.Work.{Work, UnknownName, Fetching, Gathering, Encoding, Writing, Decoding, Showing, HasMessageAt, HasInterfaceAt}
use Rattle.mojo_tool.specs.Answers.{IsMessageText, IsSchemaRead, EncodesFrom, DecodesFrom, refused_work}
use Rattle.mojo_tool.specs.steps.Fetches.{HaveSchemaOver}
use Rattle.mojo_tool.specs.steps.Messages.{Passes, IsFileText}
use Rattle.mojo_tool.specs.steps.Stops.{Stops}
use Rattle.mojo_tool.specs.declared.refusal.ToolRefusal.{ToolRefusal}
use Rattle.mojo_tool.specs.declared.decide.Stop.{Stop}
use Rattle.mojo_tool.specs.declared.decide.Stop.TheVariants.{Refused}
use Rattle.mojo_tool.proofs.Fetching.{schema_leads}
use Rattle.mojo_tool.proofs.Messages.{later, text_later, stops_at, both_pass, found_leads, unknown_leads}

module _ (words : EncodeWords) (schema : Schema) where
  -- the file of the value is fetched, and then its message is written
  abbrev value_of : List Named → Target × ℕ → Work → Type 0
  value_of files found w = Fetching files words.value (Writing schema found) w

  -- a method that was found leads on to the value
  method_leads : (held : Option (List Named)) (found : Target × ℕ) → HaveSchemaOver held words.files schema
      → message_named schema (side_of words.side) words.method ≡ Some found
      → Passes held (λ files. value_of files found) (λ files w. Gathering files words.files (Encoding files words) w)
  method_leads held found have e =
      both_pass held (λ files. value_of files found) (λ files w. Encoding files words schema w)
      (λ files w. Gathering files words.files (Encoding files words) w)
      (found_leads held words.method value_of (message_named schema (side_of words.side) words.method) found e)
      (schema_leads held words.files schema (λ files. Encoding files words) have)

  pub encode_stops : (before mid now : FilesState) (found : Target × ℕ) (stop : Stop) → FilesGoOn before mid
      → HaveSchemaOver before.held words.files schema → message_named schema (side_of words.side) words.method ≡ Some found
      → Stops mid now (λ files w. Fetching files words.value (Writing schema found) w) stop
      → Stops before now (λ files w. Gathering files words.files (Encoding files words) w) stop
  encode_stops before mid now found stop on have e stops =
      later before mid now (λ files. value_of files found) (λ files w. Gathering files words.files (Encoding files words) w) stop on
      (method_leads before.held found have e) stops

  pub encode_text : (before mid : FilesState) (now : List Named) (found : Target × ℕ) (text : List ℕ) → FilesGoOn before mid
      → HaveSchemaOver before.held words.files schema → IsSchemaRead words.files before.read mid.read schema
      → message_named schema (side_of words.side) words.method ≡ Some found
      → IsFileText words.value (Writing schema found) mid.read now mid.held (λ files w. Fetching files words.value (Writing schema found) w) text
      → IsMessageText words.files words.value (EncodesFrom words) before.read now before.held
      (λ files w. Gathering files words.files (Encoding files words) w) text
  encode_text before mid now found text on have first e is =
      text_later before mid now (λ files. value_of files found) (λ files w. Gathering files words.files (Encoding files words) w) words.files words.value text
      (Writing schema found) (EncodesFrom words) schema on (method_leads before.held found have e) first (λ bytes work made. (found, e, made)) is

  pub encode_unknown : (before now : FilesState) (refusal : ToolRefusal) → HaveSchemaOver before.held words.files schema
      → message_named schema (side_of words.side) words.method ≡ None → refused_work refusal ≡ UnknownName words.method
      → Stops before now (λ files w. Gathering files words.files (Encoding files words) w) (Refused refusal)
  encode_unknown before now refusal have e is =
      stops_at before now (λ w. w ≡ UnknownName words.method) (λ files w. Gathering files words.files (Encoding files words) w) (Refused refusal)
      (both_pass before.held (λ files w. w ≡ UnknownName words.method) (λ files w. Encoding files words schema w)
      (λ files w. Gathering files words.files (Encoding files words) w)
      (unknown_leads before.held words.method value_of (message_named schema (side_of words.side) words.method) e)
      (schema_leads before.held words.files schema (λ files. Encoding files words) have))
      is

  pub has_message : (held : Option (List Named)) (found : Target × ℕ) → HaveSchemaOver held words.files schema
      → message_named schema (side_of words.side) words.method ≡ Some found → HasMessageAt held words
  has_message None found have e = tt
  has_message (Some files) found have e = (schema, have, subst IsSome (sym e) refl)

module _ (words : DecodeWords) (schema : Schema) where
  -- what a message is expected to be for, by its interface
  abbrev expected : ℕ → Expected
  expected interface = expected_of interface (side_of words.side)

  -- the file of the message is fetched, and then its value is shown
  abbrev message_of : List Named → ℕ → Work → Type 0
  message_of files interface w = Fetching files words.message (Showing schema (expected interface) words.interface words.handles) w

  -- an interface that was found leads on to the message
  interface_leads : (held : Option (List Named)) (interface : ℕ) → HaveSchemaOver held words.files schema
      → interface_named schema.interfaces words.interface ≡ Some interface
      → Passes held (λ files. message_of files interface) (λ files w. Gathering files words.files (Decoding files words) w)
  interface_leads held interface have e =
      both_pass held (λ files. message_of files interface) (λ files w. Decoding files words schema w)
      (λ files w. Gathering files words.files (Decoding files words) w)
      (found_leads held words.interface message_of (interface_named schema.interfaces words.interface) interface e)
      (schema_leads held words.files schema (λ files. Decoding files words) have)

  pub decode_stops : (before mid now : FilesState) (interface : ℕ) (stop : Stop) → FilesGoOn before mid
      → HaveSchemaOver before.held words.files schema → interface_named schema.interfaces words.interface ≡ Some interface
      → Stops mid now (λ files w. Fetching files words.message (Showing schema (expected_of interface (side_of words.side)) words.interface words.handles) w)
      stop → Stops before now (λ files w. Gathering files words.files (Decoding files words) w) stop
  decode_stops before mid now interface stop on have e stops =
      later before mid now (λ files. message_of files interface) (λ files w. Gathering files words.files (Decoding files words) w) stop on
      (interface_leads before.held interface have e) stops

  pub decode_text : (before mid : FilesState) (now : List Named) (interface : ℕ) (text : List ℕ) → FilesGoOn before mid
      → HaveSchemaOver before.held words.files schema → IsSchemaRead words.files before.read mid.read schema
      → interface_named schema.interfaces words.interface ≡ Some interface
      → IsFileText words.message (Showing schema (expected_of interface (side_of words.side)) words.interface words.handles) mid.read now mid.held
      (λ files w. Fetching files words.message (Showing schema (expected_of interface (side_of words.side)) words.interface words.handles) w) text
      → IsMessageText words.files words.message (DecodesFrom words) before.read now before.held
      (λ files w. Gathering files words.files (Decoding files words) w) text
  decode_text before mid now interface text on have first e is =
      text_later before mid now (λ files. message_of files interface) (λ files w. Gathering files words.files (Decoding files words) w) words.files
      words.message text (Showing schema (expected interface) words.interface words.handles) (DecodesFrom words) schema on
      (interface_leads before.held interface have e) first (λ bytes work made. (interface, e, made)) is

  pub decode_unknown : (before now : FilesState) (refusal : ToolRefusal) → HaveSchemaOver before.held words.files schema
      → interface_named schema.interfaces words.interface ≡ None → refused_work refusal ≡ UnknownName words.interface
      → Stops before now (λ files w. Gathering files words.files (Decoding files words) w) (Refused refusal)
  decode_unknown before now refusal have e is =
      stops_at before now (λ w. w ≡ UnknownName words.interface) (λ files w. Gathering files words.files (Decoding files words) w) (Refused refusal)
      (both_pass before.held (λ files w. w ≡ UnknownName words.interface) (λ files w. Decoding files words schema w)
      (λ files w. Gathering files words.files (Decoding files words) w)
      (unknown_leads before.held words.interface message_of (interface_named schema.interfaces words.interface) e)
      (schema_leads before.held words.files schema (λ files. Decoding files words) have))
      is

  pub has_interface : (held : Option (List Named)) (interface : ℕ) → HaveSchemaOver held words.files schema
      → interface_named schema.interfaces words.interface ≡ Some interface → HasInterfaceAt held words
  has_interface None interface have e = tt
  has_interface (Some files) interface have e = (schema, have, subst IsSome (sym e) refl)
