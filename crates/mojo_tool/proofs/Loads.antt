-- What a load comes to, of a call that fetches no file.
use Rattle.std.proofs.Common.{◌≡◌, ◌<◌, ℕ, zero, suc, List, [], refl, sym, ap, ◌∙◌, subst, arith, append-nil, inl, inr}
use Rattle.std.specs.Prelude.{Option, Some, None, Result, IfErr, IfOk, OnOk}
use Rattle.mj_io.specs.Outside.{Fetch, FilesGoOn, FilesState, Named}
use Rattle.mj_schema.specs.declared.schema.Schema.{Schema}
use Rattle.mojom_compile.specs.Schemas.{IsRefusalOf, IsSchemaOfFiles, IsWhy}
use Rattle.mojom_compile.specs.declared.schema_error.SchemaError.{SchemaError}
use Rattle.mojom_compile.specs.declared.schema_error.SchemaError.TheVariants as errors
use Rattle.command_line.specs.Asked.{Load, load_words}
use Rattle.load_command.specs.LoadFile.{load_name, load_sources}
use Rattle.mojo_tool.specs.Work.{AskedFor, ComesTo, Loading, Loads, Work, WrongWords, name_at, unchecked}
use Rattle.mojo_tool.specs.Answers.{IsLoadText, RefusedFrom, refused_work}
use Rattle.mojo_tool.specs.Fetched.{FetchedAll, FetchedFor}
use Rattle.load_command.specs.LoadLine.{HasCounts}
use Rattle.mojo_tool.specs.steps.Loads.{NotLoaded, NotTabledLoad}
use Rattle.mojo_tool.specs.steps.Made.{StoppedAfter, StoppedFrom}
use Rattle.mojo_tool.specs.steps.Stops.{IsOf, Stops}
use Rattle.mojo_tool.specs.declared.refusal.ToolRefusal.{ToolRefusal}
use Rattle.mojo_tool.specs.declared.refusal.ToolRefusal.TheVariants as refusals
use Rattle.mojo_tool.specs.declared.decide.Stop.{Stop}
use Rattle.mojo_tool.specs.declared.decide.Stop.TheVariants.{Refused, ReadFault, NoMemory}
use Rattle.mojo_tool.proofs.Asking.{err_goes, ok_goes}
use Rattle.mojo_tool.proofs.Made.{front_none, whatever}

-- the name of the one file
pub first_name : (file : ℕ) → file < 1 → name_at load_sources file ≡ load_name
first_name zero below = refl
first_name (suc n) below = absurd (omega (arith, below))

pub stays_on : (fs : FilesState) → FilesGoOn fs fs
stays_on fs = record { same = refl; faults = omega arith; faults_on_present = omega arith }

module _ (seed messages : ℕ) (fs : FilesState) where
  asked_here : (held : Option (List Named)) (schema : Schema) → IsSchemaOfFiles load_sources schema
      → AskedFor held (λ files w. Loading (load_words seed messages) w) (Loads schema seed messages)
  asked_here None schema is = tt
  asked_here (Some files) schema is = inl (schema, is, refl)

  -- the text
  pub load_right : (r : Result (List ℕ) Stop) → IfOk r (HasCounts seed messages)
      → IfOk r (IsLoadText (load_words seed messages) fs.read fs.read fs.held (λ files w. Loading (load_words seed messages) w))
  load_right r has =
      ok_goes r (HasCounts seed messages)
      (IsLoadText (load_words seed messages) fs.read fs.read fs.held (λ files w. Loading (load_words seed messages) w))
      (λ text h. record {
        schema = h.0;
        counts = h.2.counts;
        asked = asked_here fs.held h.0 h.1;
        none = refl;
        schema_of = h.1;
        counted = h.2.are;
        text_of = h.2.line;
      }) has

  -- why there is none
  stop_here : (held : Option (List Named)) → held ≡ fs.held → (stop : Stop) → NotLoaded stop
      → Stops fs fs (λ files w. Loading (load_words seed messages) w) stop
  stop_here None e (Refused refusal) not =
      subst (λ (h : Option (List Named)). AskedFor h (λ files w. Loading (load_words seed messages) w) (refused_work refusal)) e tt
  stop_here (Some files) e (Refused refusal) not =
      subst (λ (h : Option (List Named)). AskedFor h (λ files w. Loading (load_words seed messages) w) (refused_work refusal)) e
      (inr (not.0, not.1, not.2.0))
  stop_here held e (ReadFault name) not = absurd not
  stop_here held e NoMemory not = tt

  pub load_stops : (r : Result (List ℕ) Stop) → IfErr r NotLoaded → IfErr r (Stops fs fs (λ files w. Loading (load_words seed messages) w))
  load_stops r not =
      err_goes r NotLoaded (Stops fs fs (λ files w. Loading (load_words seed messages) w)) (stop_here fs.held refl) not

  reached_here : (stop : Stop) → NotLoaded stop → IsOf (ComesTo (Some (Load (load_words seed messages))) fs.held) stop
  reached_here (Refused refusal) not = not.2.1
  reached_here (ReadFault name) not = absurd not
  reached_here NoMemory not = tt

  pub load_reached : (r : Result (List ℕ) Stop) → IfErr r NotLoaded
      → IfErr r (IsOf (ComesTo (Some (Load (load_words seed messages))) fs.held))
  load_reached r not = err_goes r NotLoaded (IsOf (ComesTo (Some (Load (load_words seed messages))) fs.held)) reached_here not

  from_here : (stop : Stop) → NotLoaded stop → StoppedFrom (RefusedFrom (Some (Load (load_words seed messages))) fs.read fs.read) stop
  from_here (Refused refusal) not = inr (record { none = refl; error = not.0; refused = not.1; whole = not.2.0 })
  from_here (ReadFault name) not = tt
  from_here NoMemory not = tt

  pub load_from : (r : Result (List ℕ) Stop) → IfErr r NotLoaded
      → IfErr r (StoppedFrom (RefusedFrom (Some (Load (load_words seed messages))) fs.read fs.read))
  load_from r not =
      err_goes r NotLoaded (StoppedFrom (RefusedFrom (Some (Load (load_words seed messages))) fs.read fs.read)) from_here not

-- ## What was fetched: nothing

none_more : (fetches : List Fetch) → FetchedAll [] fetches fetches
none_more fetches = sym (append-nil fetches)

pub load_whole : (r : Result (List ℕ) Stop) (fetches : List Fetch) → OnOk r (FetchedAll [] fetches fetches)
load_whole r fetches = whatever r (FetchedAll [] fetches fetches) (none_more fetches)

unchecked_fetched : (error : SchemaError) (fetches : List Fetch) → FetchedFor [] [] (unchecked load_sources error) fetches fetches
unchecked_fetched (errors.Unread file refusal) fetches = none_more fetches
unchecked_fetched (errors.Refused refusal) fetches = none_more fetches
unchecked_fetched errors.Memory fetches = refl

stopped_here : (fetches : List Fetch) (stop : Stop) → NotLoaded stop → StoppedAfter [] [] fetches fetches stop
stopped_here fetches (Refused refusal) not =
    subst (λ (w : Work). FetchedFor [] [] w fetches fetches) (sym not.2.0) (unchecked_fetched not.0 fetches)
stopped_here fetches (ReadFault name) not = absurd not
stopped_here fetches NoMemory not = front_none [] fetches fetches refl

pub load_stopped : (r : Result (List ℕ) Stop) (fetches : List Fetch) → IfErr r NotLoaded → IfErr r (StoppedAfter [] [] fetches fetches)
load_stopped r fetches not = err_goes r NotLoaded (StoppedAfter [] [] fetches fetches) (stopped_here fetches) not

-- ## The refusal of its file

-- no refusal is of wrong words
never_wrong : (refusal : ToolRefusal) → refused_work refusal ≡ WrongWords → ⊥
never_wrong (refusals.RefusedLine line why) e = absurd cc
never_wrong (refusals.FileTooLong name) e = absurd cc
never_wrong (refusals.Refused name refusal) e = absurd cc
never_wrong (refusals.Rejected name at cause) e = absurd cc
never_wrong (refusals.UnknownName name) e = absurd cc
never_wrong (refusals.BadText at) e = absurd cc
never_wrong (refusals.Unfit why) e = absurd cc
never_wrong refusals.BadHex e = absurd cc
never_wrong (refusals.Faulty fault) e = absurd cc
never_wrong (refusals.Unsound answer) e = absurd cc
never_wrong (refusals.Incompatible reason) e = absurd cc

-- one that is no want of memory
pub not_loaded : (error : SchemaError) (stop : Stop) → IsWhy load_sources error → NotTabledLoad error stop → NotLoaded stop
not_loaded error (Refused refusal) why not = (error, by why, not)
  where
    by : IsWhy load_sources error → IsRefusalOf load_sources error
    by (inl memory) =
        let wrong : refused_work refusal ≡ WrongWords = not.0 ∙ ap (unchecked load_sources) memory in
        absurd (never_wrong refusal wrong)
    by (inr is) = is
not_loaded error (ReadFault name) why not = not
not_loaded error NoMemory why not = tt
