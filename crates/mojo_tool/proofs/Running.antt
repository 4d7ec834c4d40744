-- What a run asks for: first the Mojom files, and then the script.
use Rattle.std.proofs.Common.{◌≡◌, ◌≤◌, ℕ, List, [], ◌∷◌, ◌++◌, length, refl, subst, inl, inr, Some, None}
use Rattle.std.specs.Prelude.{Option}
use Rattle.mj_base.specs.declared.limits.TheConstants.{MAX_FILE_BYTES}
use Rattle.mj_io.specs.Outside.{Named, FilesState, FilesGoOn}
use Rattle.mj_schema.specs.declared.schema.Schema.{Schema}
use Rattle.call_script.specs.declared.script.Script.{Script}
use Rattle.call_script.specs.Script.{IsScriptOf}
use Rattle.command_line.specs.Asked.{RunWords, Run}
use Rattle.mojo_tool.specs.Work.{Work, Runs, Reading, Scripting, Running, AskedFor, IsAmong, HasSchemaAt, ComesTo}
use Rattle.mojo_tool.specs.Answers.{IsTextOf, IsRunText, IsSchemaRead}
use Rattle.mojo_tool.specs.steps.Fetches.{HaveSchemaOver, NoSchema}
use Rattle.mojo_tool.specs.steps.Messages.{Passes, IsScriptText}
use Rattle.mojo_tool.specs.steps.Stops.{Stops, StopsAt, IsOf, HasBytes, NoScript}
use Rattle.mojo_tool.specs.declared.decide.Stop.{Stop}
use Rattle.mojo_tool.specs.declared.decide.Stop.TheVariants.{Refused, ReadFault, NoMemory}
use Rattle.mojo_tool.proofs.Fetching.{no_schema_stops, schema_leads}
use Rattle.mojo_tool.proofs.Messages.{passed, later, stops_at, bytes_lead, of_stops}

-- ## The script

-- a line that is refused
pub script_refused : (schema : Schema) (order : Option ℕ) (bytes : List ℕ) (stop : Stop) → NoScript schema bytes stop
    → StopsAt (Reading schema order bytes) stop
script_refused schema order bytes (Refused refusal) not = inr not
script_refused schema order bytes (ReadFault name) not = absurd not
script_refused schema order bytes NoMemory not = tt

-- a file that is no script
pub no_script : (before now : FilesState) (name : List ℕ) (order : Option ℕ) (schema : Schema) (bytes : List ℕ) (stop : Stop)
    → HasBytes before.held name bytes → length bytes ≤ MAX_FILE_BYTES → NoScript schema bytes stop
    → Stops before now (λ files w. Scripting files name order schema w) stop
no_script before now name order schema bytes stop has short not =
    stops_at before now (Reading schema order bytes) (λ files w. Scripting files name order schema w) stop
    (bytes_lead before.held name bytes (Reading schema order) has short) (script_refused schema order bytes stop not)

-- the text of a run of the script in an order
pub script_text : (held : Option (List Named)) (before now : List Named) (name bytes text : List ℕ) (order : Option ℕ) (schema : Schema) (script : Script)
    → HasBytes held name bytes → length bytes ≤ MAX_FILE_BYTES → now ≡ before ++ record { name = name; bytes = bytes } ∷ []
    → IsScriptOf schema bytes script → IsTextOf schema script order text
    → IsScriptText schema order name before now held (λ files w. Scripting files name order schema w) text
script_text held before now name bytes text order schema script has short came is text_of = record {
  bytes = bytes;
  came = came;
  script = script;
  asked = passed held (λ files w. Reading schema order bytes w) (λ files w. Scripting files name order schema w) (Runs schema bytes order)
      (bytes_lead held name bytes (Reading schema order) has short) (reads held);
  read = is;
  text_of = text_of;
}
  where
    reads : (o : Option (List Named)) → AskedFor o (λ files w. Reading schema order bytes w) (Runs schema bytes order)
    reads None = tt
    reads (Some files) = inl (script, is, refl)

-- ## The Mojom files

module _ (words : RunWords) where
  -- what files that have a schema lead on to
  abbrev scripted : List Named → Schema → Work → Type 0
  scripted files schema work = Scripting files words.script words.order schema work

  -- files that have none
  pub no_files : (before now : FilesState) (stop : Stop) → NoSchema before now words.files stop → Stops before now (λ files w. Running files words w) stop
  no_files before now stop why = no_schema_stops before now words.files scripted stop why

  -- those that have one lead on to the script
  script_leads : (held : Option (List Named)) (schema : Schema) → HaveSchemaOver held words.files schema
      → Passes held (λ files w. Scripting files words.script words.order schema w) (λ files w. Running files words w)
  script_leads held schema have = schema_leads held words.files schema scripted have

  pub run_stops : (before mid now : FilesState) (schema : Schema) (stop : Stop) → FilesGoOn before mid → HaveSchemaOver before.held words.files schema
      → Stops mid now (λ files w. Scripting files words.script words.order schema w) stop → Stops before now (λ files w. Running files words w) stop
  run_stops before mid now schema stop on have stops =
      later before mid now (λ files w. Scripting files words.script words.order schema w) (λ files w. Running files words w) stop on
      (script_leads before.held schema have) stops

  pub right_text : (before mid : FilesState) (now : List Named) (schema : Schema) (text : List ℕ) → FilesGoOn before mid
      → HaveSchemaOver before.held words.files schema → IsSchemaRead words.files before.read mid.read schema
      → IsScriptText schema words.order words.script mid.read now mid.held (λ files w. Scripting files words.script words.order schema w) text
      → IsRunText words before.read now before.held (λ files w. Running files words w) text
  right_text before mid now schema text on have first right = record {
    schema = schema;
    bytes = right.bytes;
    script = right.script;
    from = record { mid = mid.read; first = first; came = right.came };
    asked = passed before.held (λ files w. Scripting files words.script words.order schema w) (λ files w. Running files words w)
        (Runs schema right.bytes words.order)
        (script_leads before.held schema have)
        (subst (λ (held : Option (List Named)). AskedFor held (λ files w. scripted files schema w) (Runs schema right.bytes words.order))
        on.same right.asked);
    read = right.read;
    text_of = right.text_of;
  }

  -- a call comes to a script where the Mojom files have a schema
  pub comes_to_script : (held : Option (List Named)) (schema : Schema) (stop : Stop) → HaveSchemaOver held words.files schema
      → IsOf (λ name. name ≡ words.script) stop → IsOf (ComesTo (Some (Run words)) held) stop
  comes_to_script held schema stop have named =
      of_stops (λ name. name ≡ words.script) (ComesTo (Some (Run words)) held) stop (λ name e. inr (e, has_schema held have)) named
    where
      has_schema : (o : Option (List Named)) → HaveSchemaOver o words.files schema → HasSchemaAt o words.files
      has_schema None over = tt
      has_schema (Some files) over = (schema, over)

  -- and to a Mojom file of these names
  pub comes_to_file : (held : Option (List Named)) (stop : Stop) → IsOf (IsAmong words.files) stop → IsOf (ComesTo (Some (Run words)) held) stop
  comes_to_file held stop among = of_stops (IsAmong words.files) (ComesTo (Some (Run words)) held) stop (λ name is. inl is) among
