-- The files that came are what a refusal is of.
use Rattle.std.proofs.Common.{◌≡◌, ℕ, List, [], ◌∷◌, ◌++◌, map, slice_get, Some, None, Ok, Err, sym, subst, ap, ◌∙◌, inl, inr}
use Rattle.std.specs.Prelude.{Option, Result, IfErr}
use Rattle.std.specs.Option.{option_map, option_map_or}
use Rattle.std.proofs.lemmas.Option.{slice_get-map}
use Rattle.mj_io.specs.Outside.{Named, Fetch}
use Rattle.mj_schema.specs.Lookups.{interface_named}
use Rattle.mj_schema.specs.declared.schema.Schema.{Schema}
use Rattle.wire_model.specs.declared.target.Target.{Target}
use Rattle.command_line.specs.Asked.{RunWords, EncodeWords, DecodeWords, Run, Encode, Decode, Compat}
use Rattle.call_script.specs.Targets.{message_named}
use Rattle.mojom_compile.specs.Compiled.{IsUnread}
use Rattle.mojom_compile.specs.Schemas.{IsRefusalOf, IsWhy}
use Rattle.mojom_compile.specs.declared.schema_error.SchemaError.{SchemaError}
use Rattle.mojom_compile.specs.declared.schema_error.SchemaError.TheVariants as errors
use Rattle.mojom_compile.specs.declared.source.Source.{Source}
use Rattle.mojo_tool.specs.Targets.{side_of, expected_of}
use Rattle.mojo_tool.specs.Work.{Work, Refuses, Rejects, UnknownName, Parsing, Reading, Writing, Showing, name_at, unchecked}
use Rattle.mojo_tool.specs.Answers.{refused_work, read_as, IsSchemaRead, AreRefused, FileAsks, LastAsks, EncodesFrom, DecodesFrom, RefusedFrom}
use Rattle.mojo_tool.specs.steps.Fetches.{NotTabled}
use Rattle.mojo_tool.specs.steps.Made.{EndedWith, StoppedFrom}
use Rattle.mojo_tool.specs.steps.Stops.{StopsAt, NotCompiled}
use Rattle.mojo_tool.specs.declared.decide.Stop.{Stop}
use Rattle.mojo_tool.specs.declared.decide.Stop.TheVariants.{Refused, ReadFault, NoMemory}
use Rattle.mojo_tool.specs.declared.refusal.ToolRefusal.{ToolRefusal}
use Rattle.mojo_tool.proofs.Fetching.{is_refusal}

-- what a stop is of is of another sort too
pub from_goes : (P Q : Work → Type 0) (stop : Stop) → ((w : Work) → P w → Q w) → StoppedFrom P stop → StoppedFrom Q stop
from_goes P Q (Refused refusal) goes (inl long) = inl long
from_goes P Q (Refused refusal) goes (inr from) = inr (goes (refused_work refusal) from)
from_goes P Q (ReadFault name) goes from = tt
from_goes P Q NoMemory goes from = tt

-- a fetch that stopped the call
pub ended_from : (P : Work → Type 0) (name : List ℕ) (stop : Stop) (before now : List Fetch) → EndedWith name stop before now → StoppedFrom P stop
ended_from P name (Refused refusal) before now e = inl (name, e.0)
ended_from P name (ReadFault other) before now e = tt
ended_from P name NoMemory before now e = tt

-- a fetch of a file
pub fetch_from : (name : List ℕ) (next : List ℕ → Work → Type 0) (before now : List Named) (stop : Stop) (was is : List Fetch) → EndedWith name stop was is
    → StoppedFrom (FileAsks name next before now) stop
fetch_from name next before now stop was is e = ended_from (FileAsks name next before now) name stop was is e

-- a fetch of a Mojom file
pub early_from : (names : List (List ℕ)) (before now : List Named) (stop : Stop) → StoppedFrom (λ work. ⊥) stop
    → StoppedFrom (AreRefused names before now) stop
early_from names before now stop from = from_goes (λ work. ⊥) (AreRefused names before now) stop (λ w no. absurd no) from

-- want of memory
pub memory_from : {A : Type 0} (r : Result A Stop) (name : List ℕ) (next : List ℕ → Work → Type 0) (before now : List Named)
    → IfErr r (λ stop. stop ≡ NoMemory) → IfErr r (StoppedFrom (FileAsks name next before now))
memory_from (Ok x) name next before now e = tt
memory_from (Err stop) name next before now e = subst (StoppedFrom (FileAsks name next before now)) (sym e) tt

-- the bytes of a file
pub file_from : (name bytes : List ℕ) (next : List ℕ → Work → Type 0) (before now : List Named) (stop : Stop)
    → now ≡ before ++ record { name = name; bytes = bytes } ∷ [] → StopsAt (next bytes) stop → StoppedFrom (FileAsks name next before now) stop
file_from name bytes next before now (Refused refusal) came stops = inr (bytes, came, stops)
file_from name bytes next before now (ReadFault other) came stops = absurd stops
file_from name bytes next before now NoMemory came stops = tt

-- a file without a tree
pub parsing_stops : (name bytes : List ℕ) (stop : Stop) → NotCompiled (IsUnread bytes) name stop → StopsAt (Parsing name bytes) stop
parsing_stops name bytes (Refused refusal) why = inr why
parsing_stops name bytes (ReadFault other) why = absurd why
parsing_stops name bytes NoMemory why = tt

-- the name of a file of this number
pub name_of : (names : List (List ℕ)) (sources : List Source) (i : ℕ) (name : List ℕ) → map (λ (source : Source). source.name) sources ≡ names
    → slice_get names i ≡ Some name → name_at sources i ≡ name
name_of names sources i name named at =
    found (slice_get sources i)
    (sym (slice_get-map (λ (source : Source). source.name) sources i) ∙ ap (λ (ns : List (List ℕ)). slice_get ns i) named ∙ at)
  where
    found : (o : Option Source) → option_map (λ (source : Source). source.name) o ≡ Some name → option_map_or (λ (source : Source). source.name) o [] ≡ name
    found None e = absurd cc
    found (Some source) e = cc

-- Mojom files that have no schema
module _ (names : List (List ℕ)) (sources : List Source) (before now : List Named) (named : map (λ (source : Source). source.name) sources ≡ names)
    (came : now ≡ before ++ map read_as sources) where
  refused_here : (error : SchemaError) (refusal : ToolRefusal) (why : IsRefusalOf sources error)
      → refused_work refusal ≡ unchecked sources error → StoppedFrom (AreRefused names before now) (Refused refusal)
  refused_here error refusal why e =
      inr (record { sources = sources; error = error; named = named; came = came; refused = why; whole = e })

  pub tabled_from : (error : SchemaError) (stop : Stop) → IsWhy sources error → NotTabled names error stop → StoppedFrom (AreRefused names before now) stop
  tabled_from (errors.Unread file why) (Refused refusal) is not =
      refused_here (errors.Unread file why) refusal (is_refusal sources (errors.Unread file why) (λ e. cc) is)
      (not.2 ∙ ap (λ (n : List ℕ). Refuses n why) (sym (name_of names sources file not.0 named not.1)))
  tabled_from (errors.Refused why) (Refused refusal) is not =
      refused_here (errors.Refused why) refusal (is_refusal sources (errors.Refused why) (λ e. cc) is)
      (not.2 ∙ ap (λ (n : List ℕ). Rejects n why.at why.cause) (sym (name_of names sources why.file not.0 named not.1)))
  tabled_from errors.Memory (Refused refusal) is not = absurd not
  tabled_from error (ReadFault name) is not = tt
  tabled_from error NoMemory is not = tt

-- the file behind them
last_from : {A : Type 0} (r : Result A Stop) (P : Work → Type 0) (names : List (List ℕ)) (last : List ℕ) (next : List ℕ → Work → Type 0)
    (From : Schema → List ℕ → Work → Type 0) (before mid now : List Named) (schema : Schema)
    → ((w : Work) → LastAsks names last From before now w → P w) → IsSchemaRead names before mid schema
    → ((bytes : List ℕ) (w : Work) → next bytes w → From schema bytes w) → IfErr r (StoppedFrom (FileAsks last next mid now)) → IfErr r (StoppedFrom P)
last_from (Ok x) P names last next From before mid now schema goes first from stopped = tt
last_from (Err why) P names last next From before mid now schema goes first from stopped =
    from_goes (FileAsks last next mid now) P why
    (λ w asked. goes w (record {
      schema = schema;
      bytes = asked.0;
      from = record { mid = mid; first = first; came = asked.1 };
      made = from asked.0 w asked.2;
    })) stopped

pub run_from : {A : Type 0} (r : Result A Stop) (words : RunWords) (before mid now : List Named) (schema : Schema)
    → IsSchemaRead words.files before mid schema → IfErr r (StoppedFrom (FileAsks words.script (Reading schema words.order) mid now))
    → IfErr r (StoppedFrom (RefusedFrom (Some (Run words)) before now))
run_from r words before mid now schema first stopped =
    last_from r (RefusedFrom (Some (Run words)) before now) words.files words.script (Reading schema words.order) (λ (s : Schema). Reading s words.order)
    before mid now schema (λ w asked. inr asked) first (λ bytes w asked. asked) stopped

pub encode_from : {A : Type 0} (r : Result A Stop) (words : EncodeWords) (before mid now : List Named) (schema : Schema) (found : Target × ℕ)
    → IsSchemaRead words.files before mid schema → message_named schema (side_of words.side) words.method ≡ Some found
    → IfErr r (StoppedFrom (FileAsks words.value (Writing schema found) mid now)) → IfErr r (StoppedFrom (RefusedFrom (Some (Encode words)) before now))
encode_from r words before mid now schema found first e stopped =
    last_from r (RefusedFrom (Some (Encode words)) before now) words.files words.value (Writing schema found) (EncodesFrom words)
    before mid now schema (λ w asked. inr (inr asked)) first (λ bytes w asked. (found, e, asked)) stopped

pub decode_from : {A : Type 0} (r : Result A Stop) (words : DecodeWords) (before mid now : List Named) (schema : Schema) (interface : ℕ)
    → IsSchemaRead words.files before mid schema → interface_named schema.interfaces words.interface ≡ Some interface
    → IfErr r (StoppedFrom (FileAsks words.message (Showing schema (expected_of interface (side_of words.side)) words.interface words.handles) mid now))
    → IfErr r (StoppedFrom (RefusedFrom (Some (Decode words)) before now))
decode_from r words before mid now schema interface first e stopped =
    last_from r (RefusedFrom (Some (Decode words)) before now) words.files words.message
    (Showing schema (expected_of interface (side_of words.side)) words.interface words.handles) (DecodesFrom words)
    before mid now schema (λ w asked. inr (inr asked)) first (λ bytes w asked. (interface, e, asked)) stopped

-- an unknown word
pub encode_lacks : (words : EncodeWords) (before now : List Named) (schema : Schema) (refusal : ToolRefusal) → IsSchemaRead words.files before now schema
    → message_named schema (side_of words.side) words.method ≡ None → refused_work refusal ≡ UnknownName words.method
    → StoppedFrom (RefusedFrom (Some (Encode words)) before now) (Refused refusal)
encode_lacks words before now schema refusal first e is = inr (inr (inl (record { schema = schema; from = first; lacks = e; whole = is })))

pub decode_lacks : (words : DecodeWords) (before now : List Named) (schema : Schema) (refusal : ToolRefusal) → IsSchemaRead words.files before now schema
    → interface_named schema.interfaces words.interface ≡ None → refused_work refusal ≡ UnknownName words.interface
    → StoppedFrom (RefusedFrom (Some (Decode words)) before now) (Refused refusal)
decode_lacks words before now schema refusal first e is = inr (inr (inl (record { schema = schema; from = first; lacks = e; whole = is })))

-- Mojom files that are refused
pub run_early : (words : RunWords) (before now : List Named) (stop : Stop) → StoppedFrom (AreRefused words.files before now) stop
    → StoppedFrom (RefusedFrom (Some (Run words)) before now) stop
run_early words before now stop from = from_goes (AreRefused words.files before now) (RefusedFrom (Some (Run words)) before now) stop (λ w is. inl is) from

pub compat_early : (old new : List ℕ) (before now : List Named) (stop : Stop) → StoppedFrom (λ work. ⊥) stop
    → StoppedFrom (RefusedFrom (Some (Compat old new)) before now) stop
compat_early old new before now stop long = from_goes (λ work. ⊥) (RefusedFrom (Some (Compat old new)) before now) stop (λ w no. absurd no) long

pub encode_early : (words : EncodeWords) (before now : List Named) (stop : Stop) → StoppedFrom (AreRefused words.files before now) stop
    → StoppedFrom (RefusedFrom (Some (Encode words)) before now) stop
encode_early words before now stop from =
    from_goes (AreRefused words.files before now) (RefusedFrom (Some (Encode words)) before now) stop (λ w is. inl is) from

pub decode_early : (words : DecodeWords) (before now : List Named) (stop : Stop) → StoppedFrom (AreRefused words.files before now) stop
    → StoppedFrom (RefusedFrom (Some (Decode words)) before now) stop
decode_early words before now stop from =
    from_goes (AreRefused words.files before now) (RefusedFrom (Some (Decode words)) before now) stop (λ w is. inl is) from
