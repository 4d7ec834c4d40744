-- There is a work that a command asks for.
use Rattle.std.proofs.Common.{◌≡◌, ◌≤◌, ◌<◌, ◌^◌, ℕ, List, [], ◌∷◌, ◌++◌, length, Some, None, Ok, Err, refl, sym, ap, subst, append_assoc, append-nil, arith, inl, inr}
use Rattle.std.specs.Prelude.{Option, Result, ◌⊎◌, is_some}
use Rattle.std.proofs.lemmas.Bool.{cases_lt}
use Rattle.hex.specs.Hex.{decode_of}
use Rattle.hex.specs.declared.error.FromHexError.{FromHexError}
use Rattle.mj_base.specs.declared.limits.TheConstants.{MAX_FILE_BYTES}
use Rattle.mj_base.specs.declared.fault.Fault.{Fault}
use Rattle.mj_io.specs.Outside.{Named, find_file}
use Rattle.mj_schema.specs.Lookups.{interface_named}
use Rattle.mj_schema.specs.declared.rows.MethodRow.{MethodRow}
use Rattle.mj_schema.specs.declared.schema.Schema.{Schema}
use Rattle.command_line.specs.Asked.{Command, LoadWords, Run, Print, Check, Encode, Decode, Load, Audit, Compat}
use Rattle.mojom_ast.specs.declared.file.File.{File}
use Rattle.mojom_compile.specs.Compiled.{IsParsed, IsUnread}
use Rattle.mojom_compile.specs.declared.error.FileRefusal.{FileRefusal}
use Rattle.mojom_compile.specs.Schemas.{IsSchemaOfFiles, IsRefusalOf, HasTooManyRows}
use Rattle.mojom_compile.specs.declared.schema_error.SchemaError.{SchemaError}
use Rattle.mojom_compile.specs.declared.source.Source.{Source}
use Rattle.mojom_compile.proofs.Readings.{one_tree}
use Rattle.mojom_compile.proofs.OneSchemaOfFiles.{one_schema}
use Rattle.bounds_claims.specs.declared.claims.Claims.{Claims}
use Rattle.bounds_claims.specs.Runs.{run}
use Rattle.message_validator.specs.Before.{before_payload}
use Rattle.message_validator.proofs.WholeMessage.{stand}
use Rattle.wire_encoder.specs.FirstFailed.{Met, Refusal}
use Rattle.wire_encoder.specs.Prepared.{HasTarget, verdict, payload_for}
use Rattle.wire_encoder.specs.declared.refusal.PrepareError.TheVariants as unfit
use Rattle.wire_model.specs.HeaderMarks.{header_marks}
use Rattle.wire_model.specs.Expected.{Stands, message_marks, method_marks, method_named, parameter_marks, struct_of}
use Rattle.wire_model.specs.Marks.{Mark, Test, Object, Handle, Id}
use Rattle.wire_model.specs.Message.{payload_start, request_read}
use Rattle.wire_model.specs.Stands.{IsFine}
use Rattle.wire_model.specs.Tight.{MAX_PAYLOAD_BYTES, value_of}
use Rattle.wire_model.specs.Trees.{Tree}
use Rattle.wire_model.specs.declared.target.Expected.{Expected}
use Rattle.wire_model.specs.declared.target.MessageSide.{MessageSide}
use Rattle.wire_model.specs.declared.target.Target.{Target}
use Rattle.sealed_laws.specs.Sealed.{FewAreMet, PassedIsRead}
use Rattle.compat_model.specs.declared.reason.Verdict.{Verdict}
use Rattle.compat_model.specs.declared.reason.Verdict.TheVariants.{Compatible, Broken}
use Rattle.compat_model.specs.Verdicts.{Judges as judges}
use Rattle.compat_check.proofs.SomeVerdict.{some_verdict}
use Rattle.compat_laws.proofs.Stable.{reads_stable}
use Rattle.byte_rules.specs.Lang.{Lang}
use Rattle.byte_rules.specs.steps.Reading.{Judges}
use Rattle.byte_rules.specs.steps.Reading as reading
use Rattle.byte_rules.proofs.Judging.{judged}
use Rattle.value_text.proofs.KindLaws.{good_kind}
use Rattle.value_text.specs.Brackets.{MAX_BRACKETS}
use Rattle.value_text.specs.Rules.{value}
use Rattle.value_text.specs.Spelling.{spell}
use Rattle.call_script.specs.Targets.{message_named}
use Rattle.call_script.specs.declared.script.Script.{Script}
use Rattle.line_parts.specs.Schemas.{IsPrintableSchema}
use Rattle.history_audit.specs.Audited.{Audits}
use Rattle.history_audit.specs.declared.auditing.AuditFinding.{AuditFinding as Said}
use Rattle.history_audit.specs.declared.auditing.AuditError.TheVariants as unsaid
use Rattle.history_audit.proofs.Printed.{AnyOrder}
use Rattle.mojo_tool.specs.Targets.{side_of, expected_of}
use Rattle.mojo_tool.specs.Work.{Work, WrongWords, Missing, TooLong, Refuses, UnknownName, BadText, Unfit, BadHex, Faulty, Checks, Prints, Runs, RefusesLine, Encodes, Decodes, Breaks, Reads}
use Rattle.mojo_tool.specs.Work.{AreFetched, HaveSchema, Leads, Parsing, Reading, Tabling, FetchingAll, Gathering, Scripting, Listing, Sealing}
use Rattle.load_command.specs.LoadFile.{load_sources}
use Rattle.mojo_tool.specs.Work.{Preparing, Writing, Loading, Loads}
use Rattle.mojo_tool.specs.Work.{Finding, Encoding, Unhexing, IsShown, Judged, Judging, Showing, Decoding, Comparing, Pairing, IsWork, unchecked, flaw_at, printed_message}
use Rattle.mojo_tool.specs.Work.{parameters_kind, without_line_end, audited, Auditing, Scripted, Historying, AuditingAll}
use Rattle.script_laws.specs.Answer.{HasAnswer}
use Rattle.mojo_tool.specs.Complete.{AreTooMany, HaveTooManyRows}
use Rattle.printed_histories.proofs.ValueSent.{has_struct}
use Rattle.printed_runs.proofs.SentWords.{named_parameters}
use Rattle.history_audit.proofs.Counted.{some_answer}
use Rattle.printed_schemas.proofs.OfFiles.{printable_of_files}
use Rattle.mojo_tool.proofs.Sealed.{is_sealed}
use Rattle.mojo_tool.proofs.Shown.{struct_by, text_read}

-- the law of script_laws that bytes have an answer
abbrev Scripts : Type 0
Scripts = (schema : Schema) (bytes : List ℕ) → length bytes < 2 ^ 63 → HasAnswer schema bytes

-- a work is asked for, or this holds
abbrev Some_or : Type 0 → (Work → Type 0) → Type 0
Some_or Else ask = ((work : Work) × ask work) ⊎ Else

also : (Else : Type 0) (P Q : Work → Type 0) → ((w : Work) → P w → Q w) → Some_or Else P → Some_or Else Q
also Else P Q goes (inl some) = inl (some.0, goes some.0 some.1)
also Else P Q goes (inr other) = inr other

-- a fetch leads on where what is behind it does
leads_some : (Else : Type 0) (name : List ℕ) (next : List ℕ → Work → Type 0) (found : Option (List ℕ))
    → ((bytes : List ℕ) → found ≡ Some bytes → length bytes ≤ MAX_FILE_BYTES → Some_or Else (next bytes)) → Some_or Else (Leads name next found)
leads_some Else name next None more = inl (Missing name, refl)
leads_some Else name next (Some bytes) more = go (cases_lt MAX_FILE_BYTES (length bytes))
  where
    go : (MAX_FILE_BYTES < length bytes) ⊎ (length bytes ≤ MAX_FILE_BYTES) → Some_or Else (Leads name next (Some bytes))
    go (inl long) = inl (TooLong name, inl (long, refl))
    go (inr short) = also Else (next bytes) (Leads name next (Some bytes)) (λ w is. inr (short, is)) (more bytes refl short)

all_some : (Else : Type 0) (files : List Named) (names : List (List ℕ)) (fetched : List Source) (next : List Source → Work → Type 0)
    → ((sources : List Source) → AreFetched files names sources → Some_or Else (next (fetched ++ sources)))
    → Some_or Else (FetchingAll files names fetched next)
all_some Else files [] fetched next more = subst (λ (ss : List Source). Some_or Else (next ss)) (append-nil fetched) (more [] tt)
all_some Else files (name ∷ names) fetched next more =
    leads_some Else name (λ (bytes : List ℕ) w. FetchingAll files names (fetched ++ record { name = name; bytes = bytes } ∷ []) next w) (find_file files name)
    (λ bytes found short. all_some Else files names (fetched ++ record { name = name; bytes = bytes } ∷ []) next
    (λ sources are. subst (λ (ss : List Source). Some_or Else (next ss))
    (sym (append_assoc fetched (record { name = name; bytes = bytes } ∷ []) sources))
    (more (record { name = name; bytes = bytes } ∷ sources) (refl, found, short, are))))

-- files have a schema that leads on, or are refused
tabling_some : (Else : Type 0) (sources : List Source) (next : Schema → Work → Type 0) → (HasTooManyRows sources → Else)
    → ((schema : Schema) → IsSchemaOfFiles sources schema → Some_or Else (next schema)) → Some_or Else (λ w. Tabling next sources w)
tabling_some Else sources next too_many more = tabled (one_schema sources).some
  where
    tabled : ((schema : Schema) × IsSchemaOfFiles sources schema) ⊎ (((error : SchemaError) × IsRefusalOf sources error) ⊎ HasTooManyRows sources)
        → Some_or Else (λ w. Tabling next sources w)
    tabled (inl some) = also Else (next some.0) (λ w. Tabling next sources w) (λ w is. inl (some.0, some.1, is)) (more some.0 some.1)
    tabled (inr (inl refused)) = inl (unchecked sources refused.0, inr (refused.0, refused.1, refl))
    tabled (inr (inr many)) = inr (too_many many)

gathering_some : (Else : Type 0) (files : List Named) (names : List (List ℕ)) (next : Schema → Work → Type 0) → (AreTooMany files names → Else)
    → ((schema : Schema) → HaveSchema files names schema → Some_or Else (next schema)) → Some_or Else (Gathering files names next)
gathering_some Else files names next too_many more =
    all_some Else files names [] (λ sources w. Tabling next sources w)
    (λ sources are. tabling_some Else sources next (λ many. too_many (sources, are, many))
    (λ schema is. more schema (record { sources = sources; are = are; schema_of = is })))

parsing_some : (Else : Type 0) (name bytes : List ℕ) → Some_or Else (Parsing name bytes)
parsing_some Else name bytes = go (one_tree bytes).some
  where
    go : ((tree : File) × IsParsed bytes tree) ⊎ ((refusal : FileRefusal) × IsUnread bytes refusal) → Some_or Else (Parsing name bytes)
    go (inl some) = inl (Prints some.0, inl (some.0, some.1, refl))
    go (inr some) = inl (Refuses name some.0, inr (some.0, some.1, refl))

-- the bytes of a script are one, or have a line that is refused
reading_some : Scripts → (Else : Type 0) (schema : Schema) (order : Option ℕ) (bytes : List ℕ) → length bytes ≤ MAX_FILE_BYTES
    → Some_or Else (Reading schema order bytes)
reading_some scripts Else schema order bytes short = go (scripts schema bytes (omega (arith, short)))
  where
    go : HasAnswer schema bytes → Some_or Else (Reading schema order bytes)
    go (inl some) = inl (Runs schema bytes order, inl (some.0, some.1, refl))
    go (inr some) = inl (RefusesLine some.0 some.1, inr (some.0, some.1, some.2, refl))

finding_some : {A : Type 0} (Else : Type 0) (word : List ℕ) (next : A → Work → Type 0) (found : Option A)
    → ((x : A) → found ≡ Some x → Some_or Else (next x)) → Some_or Else (Finding word next found)
finding_some Else word next None more = inl (UnknownName word, refl)
finding_some Else word next (Some x) more = more x refl

-- values

-- what a word names by the schema of files has parameters, and an ordinal of 32 bits
target_fits : (sources : List Source) (schema : Schema) (side : MessageSide) (word : List ℕ) (found : Target × ℕ) → IsSchemaOfFiles sources schema
    → message_named schema side word ≡ Some found → HasTarget schema found.0 × (found.0.method < 2 ^ 32)
target_fits sources schema side word (target, number) compiled e =
    let named = named_parameters schema side word target number e in
    let has = has_struct schema target number named.0 in
    let words = printable_of_files sources schema compiled in
    (ap is_some named.0, words.ordinals target.interface target.method has.method has.found)

sealing_some : PassedIsRead → FewAreMet → (Else : Type 0) (schema : Schema) (target : Target) (tree : Tree) (r : Result Met Refusal)
    → HasTarget schema target → target.method < 2 ^ 32 → verdict schema target tree ≡ r → Some_or Else (Sealing schema target tree r)
sealing_some law few Else schema target tree (Err wrong) there small e = inl (Unfit (flaw_at wrong.flaw wrong.path), refl)
sealing_some law few Else schema target tree (Ok met) there small e = go (cases_lt MAX_PAYLOAD_BYTES (length (payload_for schema target tree)))
  where
    go : (MAX_PAYLOAD_BYTES < length (payload_for schema target tree)) ⊎ (length (payload_for schema target tree) ≤ MAX_PAYLOAD_BYTES)
        → Some_or Else (Sealing schema target tree (Ok met))
    go (inl long) = inl (Unfit unfit.TooLong, inl (long, refl))
    go (inr short) = inl (
      Encodes (printed_message schema target tree met),
      inr (is_sealed law schema target tree met there small e short (few schema target tree met there e short).1),
    )

writing_some : PassedIsRead → FewAreMet → (Else : Type 0) (schema : Schema) (found : Target × ℕ) (bytes : List ℕ) → HasTarget schema found.0
    → found.0.method < 2 ^ 32 → Some_or Else (Writing schema found bytes)
writing_some law few Else schema (target, number) bytes there small =
    go (reading.verdict (length text) (rule.read text)) (judged rule (good_kind schema MAX_BRACKETS (parameters_kind number)) text)
  where
    text : List ℕ
    text = without_line_end bytes

    rule : Lang Tree
    rule = value schema MAX_BRACKETS (parameters_kind number)

    go : (r : Result Tree ℕ) → Judges rule text r → Some_or Else (Writing schema (target, number) bytes)
    go (Ok tree) is =
        also Else (Preparing schema target tree) (Writing schema (target, number) bytes) (λ w asked. inl (tree, is, asked))
        (sealing_some law few Else schema target tree (verdict schema target tree) there small refl)
    go (Err at) is = inl (BadText at, inr (at, is, refl))

-- messages

-- a message that stands has a method with parameters
shown_some : (Else : Type 0) (schema : Schema) (expected : Expected) (name bytes : List ℕ) → IsFine (message_marks schema expected bytes)
    → Some_or Else (IsShown schema expected name bytes)
unfolding message_marks
shown_some Else schema expected name bytes fine =
    named (method_named schema expected bytes) refl
    (right (header_marks bytes) (method_marks schema expected.side bytes (method_named schema expected bytes)) fine)
  where
    right : (xs ys : List Mark) → IsFine (xs ++ ys) → IsFine ys
    right [] ys f = f
    right (Test holds kind at ∷ xs) ys f = right xs ys f.1
    right (Object start size extra ok header ∷ xs) ys f = right xs ys f.1.1
    right (Handle index at ∷ xs) ys f = right xs ys f
    right (Id index at ∷ xs) ys f = right xs ys f

    taken : (method : MethodRow) (number : Option ℕ) → method_named schema expected bytes ≡ Some method → struct_of expected.side method ≡ number
        → IsFine (parameter_marks schema expected.side bytes method number) → Some_or Else (IsShown schema expected name bytes)
    taken method None is of f = absurd (let e = f.0 in cc)
    taken method (Some number) is of f = inl (
      Decodes name method.name (request_read bytes) (spell schema (parameters_kind number) (value_of schema bytes (payload_start bytes) number)),
      record {
        method = method;
        number = number;
        named = is;
        parameters = of;
        whole = refl;
        reads = text_read schema expected bytes number (struct_by (method_named schema expected bytes) (struct_of expected.side) method number is of);
      },
    )

    named : (method : Option MethodRow) → method_named schema expected bytes ≡ method → IsFine (method_marks schema expected.side bytes method)
        → Some_or Else (IsShown schema expected name bytes)
    named None is f = absurd (let e = f.0 in cc)
    named (Some method) is f = taken method (struct_of expected.side method) is refl f

judging_some : (Else : Type 0) (schema : Schema) (expected : Expected) (name : List ℕ) (handles : ℕ) (bytes : List ℕ)
    → Some_or Else (Judging schema expected name handles bytes)
judging_some Else schema expected name handles bytes = go (run (before_payload bytes handles) (message_marks schema expected bytes)) refl
  where
    go : (r : Result Claims Fault) → run (before_payload bytes handles) (message_marks schema expected bytes) ≡ r
        → Some_or Else (Judged schema expected name handles bytes (elim r [ Ok after ↦ None | Err fault ↦ Some fault ]))
    go (Ok after) ran =
        let stands : Stands schema expected bytes handles = stand schema expected bytes handles after ran in
        also Else (IsShown schema expected name bytes) (Judged schema expected name handles bytes None) (λ w is. (stands, is))
        (shown_some Else schema expected name bytes stands.settled.fine)
    go (Err fault) ran = inl (Faulty fault, refl)

showing_some : (Else : Type 0) (schema : Schema) (expected : Expected) (name : List ℕ) (handles : ℕ) (bytes : List ℕ)
    → Some_or Else (Showing schema expected name handles bytes)
showing_some Else schema expected name handles bytes = go (decode_of (without_line_end bytes))
  where
    go : (r : Result (List ℕ) FromHexError) → Some_or Else (λ w. Unhexing (Judging schema expected name handles) r w)
    go (Ok digits) = judging_some Else schema expected name handles digits
    go (Err error) = inl (BadHex, refl)

-- the file of a load
loading_some : (words : LoadWords)
    → ((schema : Schema) × IsSchemaOfFiles load_sources schema)
    ⊎ (((error : SchemaError) × IsRefusalOf load_sources error) ⊎ HasTooManyRows load_sources)
    → Some_or (HasTooManyRows load_sources) (Loading words)
loading_some words (inl some) = inl (Loads some.0 words.seed words.messages, inl (some.0, some.1, refl))
loading_some words (inr (inl refused)) = inl (unchecked load_sources refused.0, inr (refused.0, refused.1, refl))
loading_some words (inr (inr many)) = inr many

-- histories

-- the bytes of a script are one, whose history an audit says something of, or have a line that is refused
scripted_some : AnyOrder → Scripts → (Else : Type 0) (schema : Schema) → IsPrintableSchema schema → (files : List Named) (history source : List ℕ)
    → length source ≤ MAX_FILE_BYTES → Some_or Else (Scripted schema (λ script w. Historying files history schema script w) source)
scripted_some any scripts Else schema words files history source short = go (scripts schema source (omega (arith, short)))
  where
    said : (script : Script) (bytes : List ℕ)
        → ((answer : Said) × Audits schema script bytes (Ok answer)) ⊎ ((at : ℕ) × Audits schema script bytes (Err (unsaid.BadText at)))
        → Some_or Else (Auditing schema script bytes)
    said script bytes (inl some) = inl (audited some.0, inl (some.0, some.1, refl))
    said script bytes (inr bad) = inl (BadText bad.0, inr (bad.0, bad.1, refl))

    go : HasAnswer schema source → Some_or Else (Scripted schema (λ script w. Historying files history schema script w) source)
    go (inl some) =
        also Else (Historying files history schema some.0) (Scripted schema (λ script w. Historying files history schema script w) source)
        (λ w asked. inl (some.0, some.1, asked))
        (leads_some Else history (Auditing schema some.0) (find_file files history)
        (λ bytes found fits. said some.0 bytes (some_answer any schema words source short some.0 bytes some.1)))
    go (inr some) = inl (RefusesLine some.0 some.1, inr (some.0, some.1, some.2, refl))

-- two files

comparing_some : (Else : Type 0) (old new : Schema) → Some_or Else (Comparing old new)
comparing_some Else old new = go (some_verdict old new).0 (some_verdict old new).1
  where
    go : (verdict : Verdict) → judges old new verdict → Some_or Else (Comparing old new)
    go (Compatible stable) is = inl (Reads stable, inl (stable, is, refl, reads_stable old new is.0))
    go (Broken reason) is = inl (Breaks reason, inr (reason, is, refl))

pairing_some : (files : List Named) (old new : List ℕ) (sources : List Source) → AreFetched files (old ∷ new ∷ []) sources
    → Some_or (AreTooMany files (old ∷ []) ⊎ AreTooMany files (new ∷ [])) (Pairing sources)
pairing_some files old new [] are = absurd are
pairing_some files old new (a ∷ []) are = absurd are.3
pairing_some files old new (a ∷ (b ∷ [])) are =
    tabling_some _ (a ∷ []) (λ (s : Schema) w. Tabling (Comparing s) (b ∷ []) w)
    (λ many. inl (a ∷ [], (are.0, are.1, are.2, tt), many))
    (λ s is. tabling_some _ (b ∷ []) (Comparing s) (λ many. inr (b ∷ [], (are.3.0, are.3.1, are.3.2, tt), many)) (λ t also_. comparing_some _ s t))
pairing_some files old new (a ∷ (b ∷ (c ∷ sources))) are = absurd are.3.3

-- all commands

pub some_work : AnyOrder → Scripts → PassedIsRead → FewAreMet → (command : Option Command) (files : List Named)
    → Some_or (HaveTooManyRows files command) (IsWork command files)
some_work any scripts law few None files = inl (WrongWords, refl)
some_work any scripts law few (Some (Run words)) files =
    gathering_some (AreTooMany files words.files) files words.files (Scripting files words.script words.order) (λ many. many)
    (λ schema have. leads_some _ words.script (Reading schema words.order) (find_file files words.script)
    (λ bytes found short. reading_some scripts _ schema words.order bytes short))
some_work any scripts law few (Some (Print file)) files =
    leads_some _ file (Parsing file) (find_file files file) (λ bytes found short. parsing_some _ file bytes)
some_work any scripts law few (Some (Check names)) files =
    gathering_some (AreTooMany files names) files names Listing (λ many. many) (λ schema have. inl (Checks schema, refl))
some_work any scripts law few (Some (Encode words)) files =
    gathering_some (AreTooMany files words.files) files words.files (Encoding files words) (λ many. many)
    (λ schema have. finding_some _ words.method (λ found w. Leads words.value (Writing schema found) (find_file files words.value) w)
    (message_named schema (side_of words.side) words.method)
    (λ found e. leads_some _ words.value (Writing schema found) (find_file files words.value)
    (λ bytes at short.
    let fits = target_fits have.sources schema (side_of words.side) words.method found have.schema_of e in
    writing_some law few _ schema found bytes fits.0 fits.1)))
some_work any scripts law few (Some (Decode words)) files =
    gathering_some (AreTooMany files words.files) files words.files (Decoding files words) (λ many. many)
    (λ schema have. finding_some _ words.interface
    (λ interface w. Leads words.message (Showing schema (expected_of interface (side_of words.side)) words.interface words.handles)
    (find_file files words.message) w)
    (interface_named schema.interfaces words.interface)
    (λ interface e. leads_some _ words.message (Showing schema (expected_of interface (side_of words.side)) words.interface words.handles)
    (find_file files words.message)
    (λ bytes at short. showing_some _ schema (expected_of interface (side_of words.side)) words.interface words.handles bytes)))
some_work any scripts law few (Some (Load words)) files = loading_some words (one_schema load_sources).some
some_work any scripts law few (Some (Audit words)) files =
    gathering_some (AreTooMany files words.files) files words.files (AuditingAll files words.script words.history) (λ many. many)
    (λ schema have. leads_some _ words.script (Scripted schema (λ script w. Historying files words.history schema script w)) (find_file files words.script)
    (λ source found short. scripted_some any scripts _ schema (printable_of_files have.sources schema have.schema_of) files words.history source short))
some_work any scripts law few (Some (Compat old new)) files =
    all_some _ files (old ∷ new ∷ []) [] Pairing (λ sources are. pairing_some files old new sources are)
