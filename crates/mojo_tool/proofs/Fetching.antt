-- What is asked for of several files, found out a file at a time.
use Rattle.std.proofs.Common.{◌≡◌, ◌≤◌, ◌<◌, ◌+◌, ℕ, zero, suc, List, [], ◌∷◌, ◌++◌, length, map, get_or, take, drop, slice_get, refl}
use Rattle.std.proofs.Common.{sym, subst, ap, ◌∙◌, append_assoc, append-nil, add-one, arith, inl, inr, Some, None}
use Rattle.std.specs.Prelude.{Option}
use Rattle.std.specs.Option.{option_map}
use Rattle.std.proofs.lemmas.List.{length-map, map-append}
use Rattle.std.proofs.lemmas.Option.{slice_get-map, slice_get-get_or}
use Rattle.mj_base.specs.declared.limits.TheConstants.{MAX_FILE_BYTES}
use Rattle.mj_io.specs.Outside.{Named, find_file, Fetch, FilesState, FilesGoOn}
use Rattle.mj_schema.specs.declared.schema.Schema.{Schema}
use Rattle.mojom_compile.specs.declared.schema_error.SchemaError.{SchemaError}
use Rattle.mojom_compile.specs.declared.schema_error.SchemaError.TheVariants as errors
use Rattle.mojom_compile.specs.declared.error.FileRefusal.{FileRefusal}
use Rattle.mojom_compile.specs.declared.source.Source.{Source}
use Rattle.mojom_files.specs.Causes.{Cause}
use Rattle.mojom_files.specs.declared.refusal.Refusal.{Refusal}
use Rattle.mojom_compile.specs.Schemas.{IsSchemaOfFiles, IsRefusalOf, IsOfGiven, IsWhy}
use Rattle.schema_text.specs.Listing.{listing}
use Rattle.mojo_tool.specs.Work.{Work, Missing, TooLong, Refuses, Rejects, Checks, FetchingAll, Leads, Tabling, Gathering, Listing, Checking, AskedFor}
use Rattle.mojo_tool.specs.Work.{AreFetched, IsAmong, name_at, unchecked}
use Rattle.mojo_tool.specs.Answers.{ReadFailed, refused_work, refused_name, IsCheckText, IsSchemaRead, read_as}
use Rattle.mojo_tool.specs.steps.Stops.{Stops, IsOf, HasBytes, IsLonger, IsLost, NotFetched}
use Rattle.mojo_tool.specs.steps.Fetches.{AreBytes, HaveSchemaOver, IsFirstUnfetched, IsNumbered, NotAllFetched, NotTabled, IsRefusedSet, NoSchema}
use Rattle.mojo_tool.specs.steps.Messages.{Passes}
use Rattle.mojo_tool.specs.Fetched.{FetchedAll, FetchedFront}
use Rattle.mojo_tool.specs.steps.Made.{IsFetchedOnto, Unfetched, StoppedSo, StoppedEarly}
use Rattle.mojo_tool.specs.declared.refusal.ToolRefusal.{ToolRefusal}
use Rattle.mojo_tool.specs.declared.refusal.ToolRefusal.TheVariants as refusals
use Rattle.mojo_tool.specs.declared.decide.Stop.{Stop}
use Rattle.mojo_tool.specs.declared.decide.Stop.TheVariants.{Refused, ReadFault, NoMemory}
use Rattle.mojo_tool.proofs.Asking.{stopped}
use Rattle.mojo_tool.proofs.Made.{all_more, one_of_all}
use Rattle.mojo_tool.proofs.Messages.{passed}

-- files

-- what a reference to an element of a list shows
pub shown_at : {A B : Type 0} (f : A → B) (xs : List A) (i : ℕ) (d : A) → i < length xs → slice_get (map f xs) i ≡ Some (f (get_or xs i d))
shown_at f xs i d within = slice_get-map f xs i ∙ ap (option_map f) (slice_get-get_or xs i d within)

-- the names as far as one of them, and with it
taken_more : (names : List (List ℕ)) (i : ℕ) (name : List ℕ) → slice_get names i ≡ Some name → take (i + 1) names ≡ take i names ++ name ∷ []
taken_more names i name at = rw (add-one i) (go names i at)
  where
    go : (ns : List (List ℕ)) (k : ℕ) → slice_get ns k ≡ Some name → take (suc k) ns ≡ take k ns ++ name ∷ []
    go [] k e = absurd cc
    go (n ∷ ns) zero e = let f : n ≡ name = cc in rw f refl
    go (n ∷ ns) (suc k) e = ap (λ (rest : List (List ℕ)). n ∷ rest) (go ns k e)

split_at : (names : List (List ℕ)) (i : ℕ) (name : List ℕ) → slice_get names i ≡ Some name → names ≡ take i names ++ name ∷ drop (suc i) names
split_at [] i name at = absurd cc
split_at (n ∷ names) zero name at = let e : n ≡ name = cc in rw e refl
split_at (n ∷ names) (suc i) name at = ap (λ (rest : List (List ℕ)). n ∷ rest) (split_at names i name at)

-- with one more file behind
fetched_more : (files : List Named) (names : List (List ℕ)) (sources : List Source) (name : List ℕ) (source : Source) → AreFetched files names sources
    → source.name ≡ name → find_file files name ≡ Some source.bytes → length source.bytes ≤ MAX_FILE_BYTES
    → AreFetched files (names ++ name ∷ []) (sources ++ source ∷ [])
fetched_more files [] [] name source are named found short = (named, found, short, tt)
fetched_more files [] (s ∷ sources) name source are named found short = absurd are
fetched_more files (n ∷ names) [] name source are named found short = absurd are
fetched_more files (n ∷ names) (s ∷ sources) name source are named found short =
    (are.0, are.1, are.2, fetched_more files names sources name source are.3 named found short)

bytes_more : (held : Option (List Named)) (names : List (List ℕ)) (sources : List Source) (name bytes : List ℕ) → AreBytes held names sources
    → HasBytes held name bytes → length bytes ≤ MAX_FILE_BYTES
    → AreBytes held (names ++ name ∷ []) (sources ++ record { name = name; bytes = bytes } ∷ [])
bytes_more None names sources name bytes are found short = tt
bytes_more (Some files) names sources name bytes are found short =
    fetched_more files names sources name (record { name = name; bytes = bytes }) are refl found short

-- a file by the name under which it was fetched
renamed : (files : List Named) (names : List (List ℕ)) (before : List Source) (source : Source) (name : List ℕ) (next : List Source → Work → Type 0)
    (work : Work) → source.name ≡ name → FetchingAll files names (before ++ source ∷ []) next work
    → FetchingAll files names (before ++ record { name = name; bytes = source.bytes } ∷ []) next work
renamed files names before source name next work named asked =
    subst (λ (n : List ℕ). FetchingAll files names (before ++ record { name = n; bytes = source.bytes } ∷ []) next work) named asked

-- the same along a list of names
bytes_up_to : (held : Option (List Named)) (names : List (List ℕ)) (i : ℕ) (sources : List Source) (name bytes : List ℕ) → slice_get names i ≡ Some name
    → AreBytes held (take i names) sources → HasBytes held name bytes → length bytes ≤ MAX_FILE_BYTES
    → AreBytes held (take (i + 1) names) (sources ++ record { name = name; bytes = bytes } ∷ [])
bytes_up_to held names i sources name bytes at are found short =
    subst (λ (ns : List (List ℕ)). AreBytes held ns (sources ++ record { name = name; bytes = bytes } ∷ []))
    (sym (taken_more names i name at)) (bytes_more held (take i names) sources name bytes are found short)

-- a file that was fetched, behind others
pub onto : (held : Option (List Named)) (before now : List Named) (name bytes : List ℕ) (old new : List Source) → HasBytes held name bytes
    → length bytes ≤ MAX_FILE_BYTES → new ≡ old ++ record { name = name; bytes = bytes } ∷ []
    → now ≡ before ++ record { name = name; bytes = bytes } ∷ [] → IsFetchedOnto held before now name old new
onto held before now name bytes old new has short whole came = record { bytes = bytes; has = has; short = short; whole = whole; came = came }

pub fetched_up_to : (before mid : Option (List Named)) (names : List (List ℕ)) (i : ℕ) (name : List ℕ) (was is : List Named) (sources all : List Source)
    → slice_get names i ≡ Some name → AreBytes before (take i names) sources → mid ≡ before → IsFetchedOnto mid was is name sources all
    → AreBytes before (take (i + 1) names) all
fetched_up_to before mid names i name was is sources all at are same made =
    rw made.whole (bytes_up_to before names i sources name made.bytes at are
    (subst (λ (held : Option (List Named)). HasBytes held name made.bytes) same made.has) made.short)

-- they have these names
pub named_up_to : (held : Option (List Named)) (names : List (List ℕ)) (i : ℕ) (name : List ℕ) (was is : List Named) (sources all : List Source)
    → slice_get names i ≡ Some name → map (λ (source : Source). source.name) sources ≡ take i names → IsFetchedOnto held was is name sources all
    → map (λ (source : Source). source.name) all ≡ take (i + 1) names
named_up_to held names i name was is sources all at named made =
    ap (map (λ (source : Source). source.name)) made.whole
    ∙ map-append (λ (source : Source). source.name) sources (record { name = name; bytes = made.bytes } ∷ [])
    ∙ ap (λ (ns : List (List ℕ)). ns ++ name ∷ []) named ∙ sym (taken_more names i name at)

-- and are all that came
pub came_up_to : (held : Option (List Named)) (name : List ℕ) (first was is : List Named) (sources all : List Source) → was ≡ first ++ map read_as sources
    → IsFetchedOnto held was is name sources all → is ≡ first ++ map read_as all
came_up_to held name first was is sources all came made =
    made.came ∙ ap (λ (files : List Named). files ++ record { name = name; bytes = made.bytes } ∷ []) came
    ∙ append_assoc first (map read_as sources) (record { name = name; bytes = made.bytes } ∷ [])
    ∙ ap (λ (files : List Named). first ++ files)
    (sym (map-append read_as sources (record { name = name; bytes = made.bytes } ∷ [])) ∙ ap (map read_as) (sym made.whole))

-- so are the fetches of the names
pub all_up_to : (names : List (List ℕ)) (i : ℕ) (name : List ℕ) (before mid now : List Fetch) → slice_get names i ≡ Some name
    → FetchedAll (take i names) before mid → FetchedAll (name ∷ []) mid now → FetchedAll (take (i + 1) names) before now
all_up_to names i name before mid now at a b =
    subst (λ (ns : List (List ℕ)). FetchedAll ns before now) (sym (taken_more names i name at)) (all_more (take i names) (name ∷ []) before mid now a b)

-- a name of this number that was not fetched comes behind the fetches of those below it
pub stopped_at : (names : List (List ℕ)) (i : ℕ) (name : List ℕ) (before mid now : List Fetch) (stop : Stop) → slice_get names i ≡ Some name
    → FetchedAll (take i names) before mid
    → StoppedSo (λ work. Unfetched (name ∷ []) work mid now) (FetchedFront (name ∷ []) mid now) stop → StoppedEarly names before now stop
stopped_at names i name before mid now stop at a stopped =
    subst (λ (ns : List (List ℕ)). StoppedEarly ns before now stop) (sym (split_at names i name at))
    (one_of_all (take i names) (drop (suc i) names) name before mid now stop a stopped)

-- files that were fetched lead on to what is asked for behind them
leads_all : (files : List Named) (first left : List (List ℕ)) (before sources : List Source) (next : List Source → Work → Type 0) (work : Work)
    → AreFetched files first sources → FetchingAll files left (before ++ sources) next work → FetchingAll files (first ++ left) before next work
leads_all files [] left before [] next work are asked = subst (λ (ss : List Source). FetchingAll files left ss next work) (append-nil before) asked
leads_all files [] left before (s ∷ sources) next work are asked = absurd are
leads_all files (n ∷ names) left before [] next work are asked = absurd are
leads_all files (n ∷ names) left before (s ∷ sources) next work are asked =
    subst
    (λ (found : Option (List ℕ)). Leads n
    (λ (bytes : List ℕ) w. FetchingAll files (names ++ left) (before ++ record { name = n; bytes = bytes } ∷ []) next w) found work)
    (sym are.1)
    (inr (
      are.2,
      renamed files (names ++ left) before s n next work are.0
          (leads_all files names left (before ++ s ∷ []) sources next work are.3
          (subst (λ (ss : List Source). FetchingAll files left ss next work) (sym (append_assoc before (s ∷ []) sources)) asked)),
    ))

asked_behind : (held : Option (List Named)) (first left : List (List ℕ)) (sources : List Source) (next : List Named → List Source → Work → Type 0)
    (work : Work) → AreBytes held first sources → AskedFor held (λ files w. FetchingAll files left sources (next files) w) work
    → AskedFor held (λ files w. FetchingAll files (first ++ left) [] (next files) w) work
asked_behind None first left sources next work are asked = tt
asked_behind (Some files) first left sources next work are asked = leads_all files first left [] sources (next files) work are asked

lost_behind : (held : Option (List Named)) (first left : List (List ℕ)) (sources : List Source) (next : List Named → List Source → Work → Type 0)
    (name : List ℕ) (before now : ℕ) → AreBytes held first sources
    → ReadFailed held (λ files w. FetchingAll files left sources (next files) w) name before now
    → ReadFailed held (λ files w. FetchingAll files (first ++ left) [] (next files) w) name before now
lost_behind None first left sources next name before now are failed = tt
lost_behind (Some files) first left sources next name before now are (inl asked) =
    inl (leads_all files first left [] sources (next files) (Missing name) are asked)
lost_behind (Some files) first left sources next name before now are (inr rose) = inr rose

-- why there is no text behind files that were fetched
behind : (before now : FilesState) (first left : List (List ℕ)) (sources : List Source) (next : List Named → List Source → Work → Type 0) (stop : Stop)
    → AreBytes before.held first sources → Stops before now (λ files w. FetchingAll files left sources (next files) w) stop
    → Stops before now (λ files w. FetchingAll files (first ++ left) [] (next files) w) stop
behind before now first left sources next (Refused refusal) are stops = asked_behind before.held first left sources next (refused_work refusal) are stops
behind before now first left sources next (ReadFault name) are stops = record {
  rose = stops.rose;
  failed = lost_behind before.held first left sources next name.now before.faults_on_present now.faults_on_present are stops.failed;
}
behind before now first left sources next NoMemory are stops = tt

-- names

among_append : (first left : List (List ℕ)) (name : List ℕ) → IsAmong (first ++ name ∷ left) name
among_append [] left name = inl refl
among_append (n ∷ first) left name = inr (among_append first left name)

pub among_at : (names : List (List ℕ)) (i : ℕ) (name : List ℕ) → slice_get names i ≡ Some name → IsAmong names name
among_at [] i name at = absurd cc
among_at (n ∷ names) zero name at = inl cc
among_at (n ∷ names) (suc i) name at = inr (among_at names i name at)

-- a file stands under its name
pub name_there : (files : List Named) (names : List (List ℕ)) (sources : List Source) (i : ℕ) (name : List ℕ) → AreFetched files names sources
    → slice_get names i ≡ Some name → name_at sources i ≡ name
name_there files [] sources i name are at = absurd cc
name_there files (n ∷ names) [] i name are at = absurd are
name_there files (n ∷ names) (s ∷ sources) zero name are at = let e = are.0 in cc
name_there files (n ∷ names) (s ∷ sources) (suc i) name are at = name_there files names sources i name are.3 at

-- what a refusal names is in its work

too_long_name : (refusal : ToolRefusal) (name : List ℕ) → refused_work refusal ≡ TooLong name → refused_name refusal ≡ Some name
too_long_name (refusals.RefusedLine line why) name e = absurd cc
too_long_name (refusals.FileTooLong other) name e = ap Some cc
too_long_name (refusals.Refused other why) name e = absurd cc
too_long_name (refusals.Rejected other place cause) name e = absurd cc
too_long_name (refusals.UnknownName other) name e = absurd cc
too_long_name (refusals.BadText place) name e = absurd cc
too_long_name (refusals.Unfit why) name e = absurd cc
too_long_name refusals.BadHex name e = absurd cc
too_long_name (refusals.Faulty fault) name e = absurd cc
too_long_name (refusals.Unsound answer) name e = absurd cc
too_long_name (refusals.Incompatible reason) name e = absurd cc

pub refuses_name : (refusal : ToolRefusal) (name : List ℕ) (is : FileRefusal) → refused_work refusal ≡ Refuses name is → refused_name refusal ≡ Some name
refuses_name (refusals.RefusedLine line why) name is e = absurd cc
refuses_name (refusals.FileTooLong other) name is e = absurd cc
refuses_name (refusals.Refused other why) name is e = ap Some cc
refuses_name (refusals.Rejected other place cause) name is e = absurd cc
refuses_name (refusals.UnknownName other) name is e = absurd cc
refuses_name (refusals.BadText place) name is e = absurd cc
refuses_name (refusals.Unfit why) name is e = absurd cc
refuses_name refusals.BadHex name is e = absurd cc
refuses_name (refusals.Faulty fault) name is e = absurd cc
refuses_name (refusals.Unsound answer) name is e = absurd cc
refuses_name (refusals.Incompatible reason) name is e = absurd cc

rejects_name : (refusal : ToolRefusal) (name : List ℕ) (at : ℕ) (is : Cause) → refused_work refusal ≡ Rejects name at is → refused_name refusal ≡ Some name
rejects_name (refusals.RefusedLine line why) name at is e = absurd cc
rejects_name (refusals.FileTooLong other) name at is e = absurd cc
rejects_name (refusals.Refused other why) name at is e = absurd cc
rejects_name (refusals.Rejected other place cause) name at is e = ap Some cc
rejects_name (refusals.UnknownName other) name at is e = absurd cc
rejects_name (refusals.BadText place) name at is e = absurd cc
rejects_name (refusals.Unfit why) name at is e = absurd cc
rejects_name refusals.BadHex name at is e = absurd cc
rejects_name (refusals.Faulty fault) name at is e = absurd cc
rejects_name (refusals.Unsound answer) name at is e = absurd cc
rejects_name (refusals.Incompatible reason) name at is e = absurd cc

-- states of files

pub goes_on : (before mid now : FilesState) → FilesGoOn before mid → FilesGoOn mid now → FilesGoOn before now
goes_on before mid now first second = record {
  same = second.same ∙ first.same;
  faults = omega (arith, first.faults, second.faults);
  faults_on_present = omega (arith, first.faults_on_present, second.faults_on_present);
}

-- a name that was not fetched

-- what holds since later holds since before
since : (before mid now : FilesState) (name : List ℕ) (stop : Stop) → FilesGoOn before mid → NotFetched mid now name stop → NotFetched before now name stop
since before mid now name (Refused refusal) on why = (subst (λ (held : Option (List Named)). IsLonger held name) on.same why.0, why.1)
since before mid now name (ReadFault other) on why = (
  why.0,
  omega (arith, why.1, on.faults),
  weaker before.held (subst (λ (held : Option (List Named)). IsLost held name mid.faults_on_present now.faults_on_present) on.same why.2),
)
  where
    weaker : (held : Option (List Named)) → IsLost held name mid.faults_on_present now.faults_on_present
        → IsLost held name before.faults_on_present now.faults_on_present
    weaker None lost = tt
    weaker (Some files) (inl none) = inl none
    weaker (Some files) (inr rose) = inr (omega (arith, rose, on.faults_on_present))
since before mid now name NoMemory on why = tt

-- it comes behind those that were fetched
unfetched : (before mid now : FilesState) (first left : List (List ℕ)) (sources : List Source) (name : List ℕ) (stop : Stop)
    → AreBytes before.held first sources → FilesGoOn before mid → NotFetched mid now name stop → NotAllFetched before now (first ++ name ∷ left) stop
unfetched before mid now first left sources name (Refused refusal) are on why = record {
  fetched = sources;
  first = first;
  name = name;
  left = left;
  all = refl;
  are = are;
  not = since before mid now name (Refused refusal) on why;
}
unfetched before mid now first left sources name (ReadFault other) are on why = record {
  fetched = sources;
  first = first;
  name = name;
  left = left;
  all = refl;
  are = are;
  not = since before mid now name (ReadFault other) on why;
}
unfetched before mid now first left sources name NoMemory are on why = tt

-- the name of this number comes behind those below it
pub unfetched_at : (before mid now : FilesState) (names : List (List ℕ)) (i : ℕ) (sources : List Source) (name : List ℕ) (stop : Stop)
    → slice_get names i ≡ Some name → AreBytes before.held (take i names) sources → FilesGoOn before mid → NotFetched mid now name stop
    → NotAllFetched before now names stop
unfetched_at before mid now names i sources name stop at are on why =
    subst (λ (ns : List (List ℕ)). NotAllFetched before now ns stop) (sym (split_at names i name at))
    (unfetched before mid now (take i names) (drop (suc i) names) sources name stop are on why)

stopped_first : (before now : FilesState) (names : List (List ℕ)) (next : List Named → List Source → Work → Type 0) (stop : Stop)
    → IsFirstUnfetched before now names stop → Stops before now (λ files w. FetchingAll files names [] (next files) w) stop
stopped_first before now names next stop why =
    subst (λ (ns : List (List ℕ)). Stops before now (λ files w. FetchingAll files ns [] (next files) w) stop) (sym why.all)
    (behind before now why.first (why.name ∷ why.left) why.fetched next stop why.are
    (stopped before now why.name
    (λ files bytes w. FetchingAll files why.left (why.fetched ++ record { name = why.name; bytes = bytes } ∷ []) (next files) w) stop why.not))

-- where not all were fetched there is no text
pub not_all_stops : (before now : FilesState) (names : List (List ℕ)) (next : List Named → List Source → Work → Type 0) (stop : Stop)
    → NotAllFetched before now names stop → Stops before now (λ files w. FetchingAll files names [] (next files) w) stop
not_all_stops before now names next (Refused refusal) why = stopped_first before now names next (Refused refusal) why
not_all_stops before now names next (ReadFault name) why = stopped_first before now names next (ReadFault name) why
not_all_stops before now names next NoMemory why = tt

-- and the name is one of these
pub not_all_reached : (before now : FilesState) (names : List (List ℕ)) (stop : Stop) → NotAllFetched before now names stop → IsOf (IsAmong names) stop
not_all_reached before now names (Refused refusal) why =
    rw (why.all, too_long_name refusal why.name why.not.1) (among_append why.first why.left why.name)
not_all_reached before now names (ReadFault name) why = rw (why.all, why.not.0) (among_append why.first why.left why.name)
not_all_reached before now names NoMemory why = tt

-- what files mean

-- what files that were fetched ask for is asked for
pub asked_of_all : (held : Option (List Named)) (names : List (List ℕ)) (sources : List Source) (next : List Named → List Source → Work → Type 0) (work : Work)
    → AreBytes held names sources → AskedFor held (λ files w. next files sources w) work
    → AskedFor held (λ files w. FetchingAll files names [] (next files) w) work
asked_of_all None names sources next work are asked = tt
asked_of_all (Some files) names sources next work are asked =
    subst (λ (ns : List (List ℕ)). FetchingAll files ns [] (next files) work) (append-nil names)
    (leads_all files names [] [] sources (next files) work are asked)

-- what tables lead on to
abbrev tabled : (List Named → Schema → Work → Type 0) → List Named → List Source → Work → Type 0
tabled next files sources w = Tabling (next files) sources w

refused_so : (held : Option (List Named)) (names : List (List ℕ)) (sources : List Source) (next : List Named → Schema → Work → Type 0)
    (error : SchemaError) (work : Work) → AreBytes held names sources → IsRefusalOf sources error
    → ((files : List Named) → AreFetched files names sources → work ≡ unchecked sources error)
    → AskedFor held (λ files w. Gathering files names (next files) w) work
refused_so None names sources next error work are is e = tt
refused_so (Some files) names sources next error work are is e =
    asked_of_all (Some files) names sources (tabled next) work are (inr (error, is, e files are))

-- a refusal, where it isn't want of memory
pub is_refusal : (sources : List Source) (error : SchemaError) → (error ≡ errors.Memory → ⊥) → IsWhy sources error → IsRefusalOf sources error
is_refusal sources error other (inl memory) = absurd (other memory)
is_refusal sources error other (inr is) = is

-- where they have no schema there is no text
not_tabled_stops : (before now : FilesState) (names : List (List ℕ)) (sources : List Source) (next : List Named → Schema → Work → Type 0)
    (error : SchemaError) (stop : Stop) → AreBytes before.held names sources → IsWhy sources error → NotTabled names error stop
    → Stops before now (λ files w. Gathering files names (next files) w) stop
not_tabled_stops before now names sources next (errors.Unread file why) (Refused refusal) are is not =
    refused_so before.held names sources next (errors.Unread file why) (refused_work refusal) are
    (is_refusal sources (errors.Unread file why) (λ e. cc) is)
    (λ files fetched. not.2 ∙ ap (λ (n : List ℕ). Refuses n why) (sym (name_there files names sources file not.0 fetched not.1)))
not_tabled_stops before now names sources next (errors.Refused why) (Refused refusal) are is not =
    refused_so before.held names sources next (errors.Refused why) (refused_work refusal) are
    (is_refusal sources (errors.Refused why) (λ e. cc) is)
    (λ files fetched. not.2 ∙ ap (λ (n : List ℕ). Rejects n why.at why.cause) (sym (name_there files names sources why.file not.0 fetched not.1)))
not_tabled_stops before now names sources next errors.Memory (Refused refusal) are is not = absurd not
not_tabled_stops before now names sources next error (ReadFault name) are is not = absurd not
not_tabled_stops before now names sources next error NoMemory are is not = tt

-- and the name is one of these
pub not_tabled_reached : (names : List (List ℕ)) (error : SchemaError) (stop : Stop) → NotTabled names error stop → IsOf (IsAmong names) stop
not_tabled_reached names (errors.Unread file why) (Refused refusal) not = rw (refuses_name refusal not.0 why not.2) (among_at names file not.0 not.1)
not_tabled_reached names (errors.Refused why) (Refused refusal) not =
    rw (rejects_name refusal not.0 why.at why.cause not.2) (among_at names why.file not.0 not.1)
not_tabled_reached names errors.Memory (Refused refusal) not = absurd not
not_tabled_reached names error (ReadFault name) not = absurd not
not_tabled_reached names error NoMemory not = tt

-- where there is no schema there is no text
pub no_schema_stops : (before now : FilesState) (names : List (List ℕ)) (next : List Named → Schema → Work → Type 0) (stop : Stop)
    → NoSchema before now names stop → Stops before now (λ files w. Gathering files names (next files) w) stop
no_schema_stops before now names next stop (inl why) = not_all_stops before now names (tabled next) stop why
no_schema_stops before now names next stop (inr why) = not_tabled_stops before now names why.sources next why.error stop why.are why.why why.not

-- and the name is one of these
pub no_schema_reached : (before now : FilesState) (names : List (List ℕ)) (stop : Stop) → NoSchema before now names stop → IsOf (IsAmong names) stop
no_schema_reached before now names stop (inl why) = not_all_reached before now names stop why
no_schema_reached before now names stop (inr why) = not_tabled_reached names why.error stop why.not

-- files that were fetched and have none
pub refused_set : (held : Option (List Named)) (names : List (List ℕ)) (sources : List Source) (error : SchemaError) (stop : Stop)
    → AreBytes held names sources → IsWhy sources error → NotTabled names error stop → IsRefusedSet held names stop
refused_set held names sources error stop are why not = record { sources = sources; error = error; are = are; why = why; not = not }

-- a schema of files that came
pub schema_read : (names : List (List ℕ)) (before now : List Named) (sources : List Source) (schema : Schema)
    → map (λ (source : Source). source.name) sources ≡ names → now ≡ before ++ map read_as sources → IsSchemaOfFiles sources schema
    → IsSchemaRead names before now schema
schema_read names before now sources schema named came is = record { sources = sources; named = named; came = came; schema_of = is }

-- files that were fetched and have a schema
pub have_schema : (held : Option (List Named)) (names : List (List ℕ)) (sources : List Source) (schema : Schema) → AreBytes held names sources
    → IsSchemaOfFiles sources schema → HaveSchemaOver held names schema
have_schema None names sources schema are is = tt
have_schema (Some files) names sources schema are is = record { sources = sources; are = are; schema_of = is }

-- their schema leads on
pub tables_lead : (files : List Named) (names : List (List ℕ)) (sources : List Source) (schema : Schema)
    (next : List Named → Schema → Work → Type 0) (work : Work) → AreFetched files names sources → IsSchemaOfFiles sources schema
    → next files schema work → Gathering files names (next files) work
tables_lead files names sources schema next work are is asked =
    asked_of_all (Some files) names sources (tabled next) work are (inl (schema, is, asked))

pub schema_leads : (held : Option (List Named)) (names : List (List ℕ)) (schema : Schema) (next : List Named → Schema → Work → Type 0)
    → HaveSchemaOver held names schema
    → Passes held (λ files w. next files schema w) (λ files w. Gathering files names (next files) w)
schema_leads None names schema next have = tt
schema_leads (Some files) names schema next have =
    λ work asked. tables_lead files names have.sources schema next work have.are have.schema_of asked

-- the text of the tables
pub tables_text : (held : Option (List Named)) (before now : List Named) (names : List (List ℕ)) (schema : Schema) (text : List ℕ)
    → HaveSchemaOver held names schema → IsSchemaRead names before now schema → text ≡ listing schema
    → IsCheckText names before now held (λ files w. Checking files names w) text
tables_text held before now names schema text have from e = record {
  schema = schema;
  from = from;
  asked = passed held (λ files w. Listing schema w) (λ files w. Checking files names w) (Checks schema)
      (schema_leads held names schema (λ files. Listing) have) (same held);
  text_of = e;
}
  where
    same : (o : Option (List Named)) → AskedFor o (λ files w. Listing schema w) (Checks schema)
    same None = tt
    same (Some files) = refl

-- why the file of this number has no schema

-- that number is below theirs
pub unread_within : (count : ℕ) (error : SchemaError) (file : ℕ) (why : FileRefusal) → error ≡ errors.Unread file why → IsNumbered count error → file < count
unread_within count error file why is numbered = subst (IsNumbered count) is numbered

pub refused_within : (count : ℕ) (error : SchemaError) (why : Refusal) → error ≡ errors.Refused why → IsNumbered count error → why.file < count
refused_within count error why is numbered = subst (IsNumbered count) is numbered

-- a file that is one of those given has a number below that of their names
pub numbered : {A : Type 0} (f : A → List ℕ) (given sources : List Source) (names : List A) (error : SchemaError) → given ≡ sources
    → map (λ (source : Source). source.name) sources ≡ map f names → IsOfGiven given error → IsNumbered (length names) error
numbered f given sources names error same named is = go error is
  where
    many : length given ≡ length names
    many =
        ap length same ∙ sym (length-map sources (λ (source : Source). source.name)) ∙ ap length named ∙ length-map names f

    go : (e : SchemaError) → IsOfGiven given e → IsNumbered (length names) e
    go (errors.Unread file why) within = subst (λ (n : ℕ). file < n) many within
    go (errors.Refused why) within = subst (λ (n : ℕ). why.file < n) many within
    go errors.Memory within = tt

pub unread_at : (names : List (List ℕ)) (error : SchemaError) (file : ℕ) (why : FileRefusal) (name : List ℕ) (refusal : ToolRefusal)
    → error ≡ errors.Unread file why → slice_get names file ≡ Some name → refused_work refusal ≡ Refuses name why → NotTabled names error (Refused refusal)
unread_at names error file why name refusal is at work = rw is (name, at, work)

pub refused_at : (names : List (List ℕ)) (error : SchemaError) (why : Refusal) (name : List ℕ) (refusal : ToolRefusal) → error ≡ errors.Refused why
    → slice_get names why.file ≡ Some name → refused_work refusal ≡ Rejects name why.at why.cause → NotTabled names error (Refused refusal)
refused_at names error why name refusal is at work = rw is (name, at, work)
