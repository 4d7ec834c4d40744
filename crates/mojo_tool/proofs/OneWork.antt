-- What words and files ask for is one work.
use Rattle.std.proofs.Common.{◌≡◌, ◌≤◌, ℕ, length, List, [], ◌∷◌, ◌++◌, Some, None, Ok, Err, sym, ap, ◌∙◌, subst, inl, inr, arith}
use Rattle.std.specs.Prelude.{Option, Result}
use Rattle.mj_base.specs.declared.limits.TheConstants.{MAX_FILE_BYTES}
use Rattle.mj_io.specs.Outside.{Named, find_file}
use Rattle.mojom_compile.proofs.Readings.{one_tree}
use Rattle.mojom_compile.specs.declared.source.Source.{Source}
use Rattle.mojom_compile.specs.Schemas.{IsSchemaOfFiles}
use Rattle.call_script.specs.Script.{IsScriptOf}
use Rattle.call_script.specs.declared.script.Script.{Script}
use Rattle.call_script.proofs.OneAnswer.{never_both, one_refusal}
use Rattle.line_parts.specs.Schemas.{IsPrintableSchema}
use Rattle.history_audit.proofs.Printed.{AnyOrder}
use Rattle.command_line.specs.Asked.{EncodeWords, DecodeWords, Command, Run, Print, Check, Encode, Decode, Load, Audit, Compat}
use Rattle.compat_model.specs.declared.reason.Verdict.{Verdict}
use Rattle.compat_model.specs.declared.reason.Verdict.TheVariants.{Compatible, Broken}
use Rattle.compat_laws.proofs.OneVerdict.{one_verdict}
use Rattle.hex.specs.Hex.{decode_of}
use Rattle.hex.specs.declared.error.FromHexError.{FromHexError}
use Rattle.mj_schema.specs.Lookups.{interface_named}
use Rattle.mj_schema.specs.declared.rows.MethodRow.{MethodRow}
use Rattle.mj_schema.specs.declared.schema.Schema.{Schema}
use Rattle.wire_model.specs.Message.{payload_start, request_read}
use Rattle.wire_model.specs.Tight.{value_of}
use Rattle.wire_model.specs.Trees.{Tree}
use Rattle.mj_base.specs.declared.fault.Fault.{Fault}
use Rattle.wire_model.specs.declared.target.Expected.{Expected}
use Rattle.wire_model.specs.declared.target.Target.{Target}
use Rattle.bounds_claims.specs.Runs.{first_fault}
use Rattle.message_validator.specs.Before.{before_payload}
use Rattle.wire_model.specs.Expected.{message_marks, struct_of}
use Rattle.wire_encoder.specs.FirstFailed.{Met, Refusal}
use Rattle.wire_encoder.specs.Prepared.{verdict}
use Rattle.value_text.specs.Spelling.{spell}
use Rattle.call_script.specs.Targets.{message_named}
use Rattle.mojo_tool.specs.Targets.{side_of, expected_of}
use Rattle.mojo_tool.specs.Work.{Work, Refuses, RefusesLine, Prints, BadText, Breaks, Decodes, Reads, Leads, Parsing, Reading, Scripting, FetchingAll, Tabling}
use Rattle.load_command.specs.LoadFile.{load_sources}
use Rattle.mojo_tool.specs.Work.{Gathering, Loads, Comparing, Pairing}
use Rattle.mojo_tool.specs.Work.{Listing, Valuing, Sealing, Preparing, Writing, Finding, Encoding, Unhexing, IsShown, Judged, Judging, Showing, Decoding}
use Rattle.mojo_tool.specs.Work.{parameters_kind, without_line_end, unchecked, audited, Auditing, Scripted, Historying, AuditingAll, IsWork}
use Rattle.history_audit.proofs.Counted as counts
use Rattle.printed_schemas.proofs.OfFiles.{printable_of_files}
use Rattle.mojo_tool.proofs.OneValue.{one_value}
use Rattle.mojom_compile.proofs.OneSchemaOfFiles.{one_schema as one_schema_of_files}

leads : (name : List ℕ) (next : List ℕ → Work → Type 0) (found : Option (List ℕ)) (w v : Work) → ((bytes : List ℕ) → next bytes w → next bytes v → w ≡ v)
    → Leads name next found w → Leads name next found v → w ≡ v
leads name next None w v one a b = a ∙ sym b
leads name next (Some bytes) w v one (inl a) (inl b) = a.1 ∙ sym b.1
leads name next (Some bytes) w v one (inl a) (inr b) = absurd (omega (arith, a.0, b.0))
leads name next (Some bytes) w v one (inr a) (inl b) = absurd (omega (arith, a.0, b.0))
leads name next (Some bytes) w v one (inr a) (inr b) = one bytes a.1 b.1

parsing : (name bytes : List ℕ) (w v : Work) → Parsing name bytes w → Parsing name bytes v → w ≡ v
parsing name bytes w v (inl a) (inl b) = a.2 ∙ ap Prints ((one_tree bytes).one_tree a.0 b.0 a.1 b.1) ∙ sym b.2
parsing name bytes w v (inl a) (inr b) = absurd ((one_tree bytes).never_both a.0 b.0 a.1 b.1)
parsing name bytes w v (inr a) (inl b) = absurd ((one_tree bytes).never_both b.0 a.0 b.1 a.1)
parsing name bytes w v (inr a) (inr b) = a.2 ∙ ap (Refuses name) ((one_tree bytes).one_refusal a.0 b.0 a.1 b.1) ∙ sym b.2

reading : (s : Schema) (order : Option ℕ) (bytes : List ℕ) (w v : Work) → Reading s order bytes w → Reading s order bytes v → w ≡ v
reading s order bytes w v (inl a) (inl b) = a.2 ∙ sym b.2
reading s order bytes w v (inl a) (inr b) = absurd (never_both s bytes a.0 b.0 b.1 a.1 b.2)
reading s order bytes w v (inr a) (inl b) = absurd (never_both s bytes b.0 a.0 a.1 b.1 a.2)
reading s order bytes w v (inr a) (inr b) =
    let one = one_refusal s bytes a.0 b.0 a.1 b.1 a.2 b.2 in
    a.3 ∙ ap (λ (line : ℕ). RefusesLine line a.1) one.0 ∙ ap (RefusesLine b.0) one.1 ∙ sym b.3

scripting : (files : List Named) (name : List ℕ) (order : Option ℕ) (s : Schema) (w v : Work) → Scripting files name order s w
    → Scripting files name order s v → w ≡ v
scripting files name order s w v = leads name (Reading s order) (find_file files name) w v (λ bytes. reading s order bytes w v)

tabling : (next : Schema → Work → Type 0) (sources : List Source) (w v : Work)
    → ((schema : Schema) → IsSchemaOfFiles sources schema → next schema w → next schema v → w ≡ v) → Tabling next sources w → Tabling next sources v → w ≡ v
tabling next sources w v one (inl a) (inl b) =
    one a.0 a.1 a.2 (subst (λ (schema : Schema). next schema v) ((one_schema_of_files sources).one_schema b.0 a.0 b.1 a.1) b.2)
tabling next sources w v one (inl a) (inr b) = absurd ((one_schema_of_files sources).never_both a.0 b.0 a.1 b.1)
tabling next sources w v one (inr a) (inl b) = absurd ((one_schema_of_files sources).never_both b.0 a.0 b.1 a.1)
tabling next sources w v one (inr a) (inr b) =
    a.2 ∙ ap (unchecked sources) ((one_schema_of_files sources).one_refusal a.0 b.0 a.1 b.1) ∙ sym b.2

fetching_all : (files : List Named) (names : List (List ℕ)) (fetched : List Source) (next : List Source → Work → Type 0) (w v : Work)
    → ((sources : List Source) → next sources w → next sources v → w ≡ v) → FetchingAll files names fetched next w
    → FetchingAll files names fetched next v → w ≡ v
fetching_all files [] fetched next w v one a b = one fetched a b
fetching_all files (name ∷ names) fetched next w v one a b =
    leads name (λ (bytes : List ℕ) u. FetchingAll files names (fetched ++ record { name = name; bytes = bytes } ∷ []) next u)
    (find_file files name) w v
    (λ bytes. fetching_all files names (fetched ++ record { name = name; bytes = bytes } ∷ []) next w v one) a b

gathering : (files : List Named) (names : List (List ℕ)) (next : Schema → Work → Type 0) (w v : Work)
    → ((sources : List Source) (schema : Schema) → IsSchemaOfFiles sources schema → next schema w → next schema v → w ≡ v)
    → Gathering files names next w → Gathering files names next v → w ≡ v
gathering files names next w v one a b =
    fetching_all files names [] (λ sources u. Tabling next sources u) w v (λ sources. tabling next sources w v (one sources)) a b

-- what a look-up found is one thing
finding : {A : Type 0} (word : List ℕ) (next : A → Work → Type 0) (found : Option A) (w v : Work) → ((x : A) → next x w → next x v → w ≡ v)
    → Finding word next found w → Finding word next found v → w ≡ v
finding word next None w v one a b = a ∙ sym b
finding word next (Some x) w v one a b = one x a b

sealing : (schema : Schema) (target : Target) (tree : Tree) (r : Result Met Refusal) (w v : Work) → Sealing schema target tree r w
    → Sealing schema target tree r v → w ≡ v
sealing schema target tree (Err wrong) w v a b = a ∙ sym b
sealing schema target tree (Ok met) w v (inl a) (inl b) = a.1 ∙ sym b.1
sealing schema target tree (Ok met) w v (inl a) (inr b) = absurd (omega (arith, a.0, b.short))
sealing schema target tree (Ok met) w v (inr a) (inl b) = absurd (omega (arith, a.short, b.0))
sealing schema target tree (Ok met) w v (inr a) (inr b) = a.whole ∙ sym b.whole

valuing : (schema : Schema) (number : ℕ) (next : Tree → Work → Type 0) (text : List ℕ) (w v : Work) → ((tree : Tree) → next tree w → next tree v → w ≡ v)
    → Valuing schema number next text w → Valuing schema number next text v → w ≡ v
valuing schema number next text w v one (inl a) (inl b) =
    one a.0 a.2 (subst (λ (tree : Tree). next tree v) ((one_value schema (parameters_kind number) text).one_tree b.0 a.0 b.1 a.1) b.2)
valuing schema number next text w v one (inl a) (inr b) = absurd (b.1.none a.0 a.1)
valuing schema number next text w v one (inr a) (inl b) = absurd (a.1.none b.0 b.1)
valuing schema number next text w v one (inr a) (inr b) =
    a.2 ∙ ap BadText ((one_value schema (parameters_kind number) text).one_place a.0 b.0 a.1 b.1) ∙ sym b.2

writing : (schema : Schema) (found : Target × ℕ) (bytes : List ℕ) (w v : Work) → Writing schema found bytes w → Writing schema found bytes v → w ≡ v
writing schema (target, number) bytes w v =
    valuing schema number (Preparing schema target) (without_line_end bytes) w v (λ tree. sealing schema target tree (verdict schema target tree) w v)

encoding : (files : List Named) (words : EncodeWords) (schema : Schema) (w v : Work) → Encoding files words schema w → Encoding files words schema v → w ≡ v
encoding files words schema w v =
    finding words.method (λ found u. Leads words.value (Writing schema found) (find_file files words.value) u)
    (message_named schema (side_of words.side) words.method) w v
    (λ found. leads words.value (Writing schema found) (find_file files words.value) w v (λ bytes. writing schema found bytes w v))

-- what is shown of a message with this method and struct
abbrev shown_as : Schema → List ℕ → List ℕ → MethodRow → ℕ → Work
shown_as schema name bytes method number =
    Decodes name method.name (request_read bytes) (spell schema (parameters_kind number) (value_of schema bytes (payload_start bytes) number))

-- a message is shown in one way
shown : (schema : Schema) (expected : Expected) (name bytes : List ℕ) (w v : Work) → IsShown schema expected name bytes w
    → IsShown schema expected name bytes v → w ≡ v
shown schema expected name bytes w v a b =
    let methods : Some a.method ≡ Some b.method = sym a.named ∙ b.named in
    let method : a.method ≡ b.method = cc in
    let numbers : Some a.number ≡ Some b.number = sym a.parameters ∙ ap (struct_of expected.side) method ∙ b.parameters in
    let number : a.number ≡ b.number = cc in
    a.whole ∙ ap (λ (m : MethodRow). shown_as schema name bytes m a.number) method ∙ ap (shown_as schema name bytes b.method) number ∙ sym b.whole

judged : (schema : Schema) (expected : Expected) (name : List ℕ) (handles : ℕ) (bytes : List ℕ) (fault : Option Fault) (w v : Work)
    → Judged schema expected name handles bytes fault w → Judged schema expected name handles bytes fault v → w ≡ v
judged schema expected name handles bytes None w v a b = shown schema expected name bytes w v a.1 b.1
judged schema expected name handles bytes (Some fault) w v a b = a ∙ sym b

unhexing : (next : List ℕ → Work → Type 0) (r : Result (List ℕ) FromHexError) (w v : Work) → ((bytes : List ℕ) → next bytes w → next bytes v → w ≡ v)
    → Unhexing next r w → Unhexing next r v → w ≡ v
unhexing next (Ok bytes) w v one a b = one bytes a b
unhexing next (Err error) w v one a b = a ∙ sym b

showing : (schema : Schema) (expected : Expected) (name : List ℕ) (handles : ℕ) (bytes : List ℕ) (w v : Work)
    → Showing schema expected name handles bytes w → Showing schema expected name handles bytes v → w ≡ v
showing schema expected name handles bytes w v =
    unhexing (Judging schema expected name handles) (decode_of (without_line_end bytes)) w v
    (λ message. judged schema expected name handles message
    (first_fault (before_payload message handles) (message_marks schema expected message)) w v)

decoding : (files : List Named) (words : DecodeWords) (schema : Schema) (w v : Work) → Decoding files words schema w → Decoding files words schema v → w ≡ v
decoding files words schema w v =
    finding words.interface
    (λ interface u. Leads words.message (Showing schema (expected_of interface (side_of words.side)) words.interface words.handles)
    (find_file files words.message) u)
    (interface_named schema.interfaces words.interface) w v
    (λ interface. leads words.message (Showing schema (expected_of interface (side_of words.side)) words.interface words.handles)
    (find_file files words.message) w v
    (λ bytes. showing schema (expected_of interface (side_of words.side)) words.interface words.handles bytes w v))

-- ## Histories

-- two fetches of one file lead on to works that are equal
both_lead : (name : List ℕ) (next other : List ℕ → Work → Type 0) (found : Option (List ℕ)) (w v : Work)
    → ((bytes : List ℕ) → length bytes ≤ MAX_FILE_BYTES → next bytes w → other bytes v → w ≡ v) → Leads name next found w → Leads name other found v → w ≡ v
both_lead name next other None w v one a b = a ∙ sym b
both_lead name next other (Some bytes) w v one (inl a) (inl b) = a.1 ∙ sym b.1
both_lead name next other (Some bytes) w v one (inl a) (inr b) = absurd (omega (arith, a.0, b.0))
both_lead name next other (Some bytes) w v one (inr a) (inl b) = absurd (omega (arith, a.0, b.0))
both_lead name next other (Some bytes) w v one (inr a) (inr b) = one bytes a.0 a.1 b.1

module _ (law : AnyOrder) (s : Schema) (words : IsPrintableSchema s) where
  auditing : (source : List ℕ) → length source ≤ MAX_FILE_BYTES → (one other : Script) → IsScriptOf s source one → IsScriptOf s source other
      → (bytes : List ℕ) (w v : Work) → Auditing s one bytes w → Auditing s other bytes v → w ≡ v
  auditing source short one other is also bytes w v (inl a) (inl b) =
      a.2 ∙ ap audited (counts.one_answer law s words source short one other bytes a.0 b.0 is also a.1 b.1) ∙ sym b.2
  auditing source short one other is also bytes w v (inl a) (inr b) =
      absurd (counts.never_both law s words source short other one bytes b.0 a.0 also is b.1 a.1)
  auditing source short one other is also bytes w v (inr a) (inl b) =
      absurd (counts.never_both law s words source short one other bytes a.0 b.0 is also a.1 b.1)
  auditing source short one other is also bytes w v (inr a) (inr b) =
      a.2 ∙ ap BadText (counts.one_place law s words source short one other bytes a.0 b.0 is also a.1 b.1) ∙ sym b.2

  scripted : (files : List Named) (history source : List ℕ) (w v : Work) → length source ≤ MAX_FILE_BYTES
      → Scripted s (λ script u. Historying files history s script u) source w → Scripted s (λ script u. Historying files history s script u) source v → w ≡ v
  scripted files history source w v short (inl a) (inl b) =
      both_lead history (Auditing s a.0) (Auditing s b.0) (find_file files history) w v
      (λ bytes fits x y. auditing source short a.0 b.0 a.1 b.1 bytes w v x y) a.2 b.2
  scripted files history source w v short (inl a) (inr b) = absurd (never_both s source a.0 b.0 b.1 a.1 b.2)
  scripted files history source w v short (inr a) (inl b) = absurd (never_both s source b.0 a.0 a.1 b.1 a.2)
  scripted files history source w v short (inr a) (inr b) =
      let one = one_refusal s source a.0 b.0 a.1 b.1 a.2 b.2 in
      a.3 ∙ ap (λ (line : ℕ). RefusesLine line a.1) one.0 ∙ ap (RefusesLine b.0) one.1 ∙ sym b.3

  auditing_all : (files : List Named) (script history : List ℕ) (w v : Work) → AuditingAll files script history s w
      → AuditingAll files script history s v → w ≡ v
  auditing_all files script history w v a b =
      both_lead script (Scripted s (λ read u. Historying files history s read u)) (Scripted s (λ read u. Historying files history s read u))
      (find_file files script) w v (λ source short x y. scripted files history source w v short x y) a b

-- ## Two files

-- the work that a verdict stands for
abbrev work_of : Verdict → Work
work_of (Compatible stable) = Reads stable
work_of (Broken reason) = Breaks reason

comparing : (old new : Schema) (w v : Work) → Comparing old new w → Comparing old new v → w ≡ v
comparing old new w v (inl a) (inl b) = a.2 ∙ ap work_of (one_verdict old new (Compatible a.0) (Compatible b.0) a.1 b.1) ∙ sym b.2
comparing old new w v (inl a) (inr b) = a.2 ∙ ap work_of (one_verdict old new (Compatible a.0) (Broken b.0) a.1 b.1) ∙ sym b.2
comparing old new w v (inr a) (inl b) = a.2 ∙ ap work_of (one_verdict old new (Broken a.0) (Compatible b.0) a.1 b.1) ∙ sym b.2
comparing old new w v (inr a) (inr b) = a.2 ∙ ap work_of (one_verdict old new (Broken a.0) (Broken b.0) a.1 b.1) ∙ sym b.2

pairing : (sources : List Source) (w v : Work) → Pairing sources w → Pairing sources v → w ≡ v
pairing [] w v a b = absurd a
pairing (old ∷ []) w v a b = absurd a
pairing (old ∷ (new ∷ [])) w v a b =
    tabling (λ (s : Schema) u. Tabling (Comparing s) (new ∷ []) u) (old ∷ []) w v
    (λ s is. tabling (Comparing s) (new ∷ []) w v (λ t too. comparing s t w v)) a b
pairing (old ∷ (new ∷ (more ∷ sources))) w v a b = absurd a

-- two works that a command asks for over the same files are equal
pub one_work : AnyOrder → (command : Option Command) (files : List Named) (w v : Work) → IsWork command files w → IsWork command files v → w ≡ v
one_work law None files w v a b = a ∙ sym b
one_work law (Some (Run words)) files w v a b =
    gathering files words.files (Scripting files words.script words.order) w v (λ sources schema is. scripting files words.script words.order schema w v)
    a b
one_work law (Some (Print file)) files w v a b = leads file (Parsing file) (find_file files file) w v (λ bytes. parsing file bytes w v) a b
one_work law (Some (Check names)) files w v a b = gathering files names Listing w v (λ sources schema is x y. x ∙ sym y) a b
one_work law (Some (Encode words)) files w v a b =
    gathering files words.files (Encoding files words) w v (λ sources schema is. encoding files words schema w v) a b
one_work law (Some (Decode words)) files w v a b =
    gathering files words.files (Decoding files words) w v (λ sources schema is. decoding files words schema w v) a b
one_work law (Some (Load words)) files w v a b =
    tabling (λ schema u. u ≡ Loads schema words.seed words.messages) load_sources w v (λ schema is x y. x ∙ sym y) a b
one_work law (Some (Audit words)) files w v a b =
    gathering files words.files (AuditingAll files words.script words.history) w v
    (λ sources schema is. auditing_all law schema (printable_of_files sources schema is) files words.script words.history w v) a b
one_work law (Some (Compat old new)) files w v a b =
    fetching_all files (old ∷ new ∷ []) [] Pairing w v (λ sources. pairing sources w v) a b
