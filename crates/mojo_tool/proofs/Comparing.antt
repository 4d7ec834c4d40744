-- What two files ask for, found out a file at a time.
use Rattle.std.proofs.Common.{◌≡◌, ◌≤◌, ℕ, List, [], ◌∷◌, ◌++◌, length, map, take, drop, refl, sym, subst, ap, ◌∙◌, inl, inr, Some, None, arith}
use Rattle.std.specs.Prelude.{◌⊎◌, Option}
use Rattle.compat_model.specs.declared.reason.Verdict.{Verdict}
use Rattle.compat_model.specs.declared.reason.Verdict.TheVariants.{Compatible}
use Rattle.compat_model.specs.Verdicts.{Judges}
use Rattle.compat_laws.proofs.Stable.{reads_stable}
use Rattle.mj_io.specs.Outside.{Named, FilesState, Fetch}
use Rattle.mj_schema.specs.declared.schema.Schema.{Schema}
use Rattle.mojom_compile.specs.Schemas.{IsSchemaOfFiles, IsRefusalOf, IsWhy}
use Rattle.mojom_compile.specs.declared.schema_error.SchemaError.{SchemaError}
use Rattle.mojom_compile.specs.declared.schema_error.SchemaError.TheVariants as errors
use Rattle.mojom_compile.specs.declared.source.Source.{Source}
use Rattle.mojo_tool.specs.Work.{Work, Refuses, Rejects, Reads, AskedFor, Comparing, FetchingAll, IsAmong, Pairing, Tabling, unchecked}
use Rattle.mojo_tool.specs.Answers.{AreCompared, IsCompatText, read_as, refused_work}
use Rattle.mojo_tool.specs.Fetched.{FetchedAll, FetchedFor}
use Rattle.mojo_tool.specs.steps.Fetches.{AreBytes, NotTabled}
use Rattle.mojo_tool.specs.steps.Made.{IsOfMojoms, IsOfAll, StoppedAfter, StoppedFrom}
use Rattle.mojo_tool.specs.steps.Messages.{Passes}
use Rattle.mojo_tool.specs.steps.Pairs.{IsReadsText, SaysBroken, SaysText, Untabled}
use Rattle.mojo_tool.specs.steps.Stops.{Stops, StopsAt, IsOf}
use Rattle.mojo_tool.specs.declared.decide.Stop.{Stop}
use Rattle.mojo_tool.specs.declared.decide.Stop.TheVariants.{Refused, ReadFault, NoMemory}
use Rattle.mojo_tool.proofs.Fetching.{asked_of_all, is_refusal, not_tabled_reached}
use Rattle.mojo_tool.proofs.From.{name_of}
use Rattle.mojo_tool.proofs.Made.{all_alone, all_for, front_all, mojoms_for}
use Rattle.mojo_tool.proofs.Messages.{of_stops, stops_at}

-- ## Verdicts

pub said_text : (old new : Schema) (verdict : Verdict) (text : List ℕ) → Judges old new verdict → SaysText verdict text
    → IsReadsText (Comparing old new) text
said_text old new verdict text judged says =
    let all : Judges old new (Compatible says.0) = subst (λ (v : Verdict). Judges old new v) says.1 judged in
    (says.0, inl (says.0, all, refl, reads_stable old new all.0), says.2)

pub said_stop : (old new : Schema) (verdict : Verdict) (stop : Stop) → Judges old new verdict → SaysBroken verdict stop → StopsAt (Comparing old new) stop
said_stop old new verdict (Refused refusal) judged says = inr (says.0, subst (λ (v : Verdict). Judges old new v) says.1 judged, says.2)
said_stop old new verdict (ReadFault name) judged says = absurd says
said_stop old new verdict NoMemory judged says = tt

-- ## One file by itself

module _ (name : List ℕ) (sources : List Source) (named : map (λ (source : Source). source.name) sources ≡ name ∷ []) where
  pub alone_stops : (error : SchemaError) (stop : Stop) → IsWhy sources error → NotTabled (name ∷ []) error stop → StopsAt (Untabled sources) stop
  alone_stops (errors.Unread file why) (Refused refusal) is not = (
    errors.Unread file why,
    is_refusal sources (errors.Unread file why) (λ e. cc) is,
    not.2 ∙ ap (λ (n : List ℕ). Refuses n why) (sym (name_of (name ∷ []) sources file not.0 named not.1)),
  )
  alone_stops (errors.Refused why) (Refused refusal) is not = (
    errors.Refused why,
    is_refusal sources (errors.Refused why) (λ e. cc) is,
    not.2 ∙ ap (λ (n : List ℕ). Rejects n why.at why.cause) (sym (name_of (name ∷ []) sources why.file not.0 named not.1)),
  )
  alone_stops errors.Memory (Refused refusal) is not = absurd not
  alone_stops error (ReadFault other) is not = absurd not
  alone_stops error NoMemory is not = tt

only_one : (name other : List ℕ) → IsAmong (name ∷ []) other → other ≡ name
only_one name other (inl e) = sym e
only_one name other (inr never) = absurd never

pub alone_named : (name : List ℕ) (error : SchemaError) (stop : Stop) → NotTabled (name ∷ []) error stop → IsOf (λ named. named ≡ name) stop
alone_named name error stop not = of_stops (IsAmong (name ∷ [])) (λ named. named ≡ name) stop (only_one name) (not_tabled_reached (name ∷ []) error stop not)

-- a schema leads on
pub alone_text : (sources : List Source) (schema : Schema) (next : Schema → Work → Type 0) (text : List ℕ) → IsSchemaOfFiles sources schema
    → IsReadsText (next schema) text → IsReadsText (Tabling next sources) text
alone_text sources schema next text is reads = (reads.0, inl (schema, is, reads.1), reads.2)

pub alone_leads : (sources : List Source) (schema : Schema) (next : Schema → Work → Type 0) (stop : Stop) → IsSchemaOfFiles sources schema
    → StopsAt (next schema) stop → StopsAt (Tabling next sources) stop
alone_leads sources schema next (Refused refusal) is stops = inl (schema, is, stops)
alone_leads sources schema next (ReadFault name) is stops = absurd stops
alone_leads sources schema next NoMemory is stops = tt

pub alone_refused : (sources : List Source) (next : Schema → Work → Type 0) (stop : Stop) → StopsAt (Untabled sources) stop
    → StopsAt (Tabling next sources) stop
alone_refused sources next (Refused refusal) stops = inr stops
alone_refused sources next (ReadFault name) stops = absurd stops
alone_refused sources next NoMemory stops = tt

-- ## Two files

module _ (old new : List ℕ) where
  pub two_long : (sources : List Source) → map (λ (source : Source). source.name) sources ≡ old ∷ new ∷ [] → 1 ≤ length sources
  two_long [] named = absurd cc
  two_long (a ∷ sources) named = omega arith

  pub front_named : (sources : List Source) → map (λ (source : Source). source.name) sources ≡ old ∷ new ∷ []
      → map (λ (source : Source). source.name) (take 1 sources) ≡ old ∷ []
  front_named [] named = absurd cc
  front_named (a ∷ []) named = absurd cc
  front_named (a ∷ (b ∷ [])) named = let is : a.name ≡ old = cc in ap (λ (n : List ℕ). n ∷ []) is
  front_named (a ∷ (b ∷ (c ∷ sources))) named = absurd cc

  pub rest_named : (sources : List Source) → map (λ (source : Source). source.name) sources ≡ old ∷ new ∷ []
      → map (λ (source : Source). source.name) (drop 1 sources) ≡ new ∷ []
  rest_named [] named = absurd cc
  rest_named (a ∷ []) named = absurd cc
  rest_named (a ∷ (b ∷ [])) named = let is : b.name ≡ new = cc in ap (λ (n : List ℕ). n ∷ []) is
  rest_named (a ∷ (b ∷ (c ∷ sources))) named = absurd cc

  -- what the first file by itself leads on to is what both ask for
  pairing_of : (sources : List Source) (work : Work) → map (λ (source : Source). source.name) sources ≡ old ∷ new ∷ []
      → Tabling (λ (a : Schema) w. Tabling (Comparing a) (drop 1 sources) w) (take 1 sources) work → Pairing sources work
  pairing_of [] work named asked = absurd cc
  pairing_of (a ∷ []) work named asked = absurd cc
  pairing_of (a ∷ (b ∷ [])) work named asked = asked
  pairing_of (a ∷ (b ∷ (c ∷ sources))) work named asked = absurd cc

  pub both_text : (sources : List Source) (schema : Schema) (text : List ℕ) → map (λ (source : Source). source.name) sources ≡ old ∷ new ∷ []
      → IsSchemaOfFiles (take 1 sources) schema → IsReadsText (Tabling (Comparing schema) (drop 1 sources)) text → IsReadsText (Pairing sources) text
  both_text sources schema text named is reads = (reads.0, pairing_of sources (Reads reads.0) named (inl (schema, is, reads.1)), reads.2)

  pub both_stop : (sources : List Source) (schema : Schema) (stop : Stop) → map (λ (source : Source). source.name) sources ≡ old ∷ new ∷ []
      → IsSchemaOfFiles (take 1 sources) schema → StopsAt (Tabling (Comparing schema) (drop 1 sources)) stop → StopsAt (Pairing sources) stop
  both_stop sources schema (Refused refusal) named is stops = pairing_of sources (refused_work refusal) named (inl (schema, is, stops))
  both_stop sources schema (ReadFault name) named is stops = absurd stops
  both_stop sources schema NoMemory named is stops = tt

  pub first_stop : (sources : List Source) (stop : Stop) → map (λ (source : Source). source.name) sources ≡ old ∷ new ∷ []
      → StopsAt (Untabled (take 1 sources)) stop → StopsAt (Pairing sources) stop
  first_stop sources (Refused refusal) named stops = pairing_of sources (refused_work refusal) named (inr stops)
  first_stop sources (ReadFault name) named stops = absurd stops
  first_stop sources NoMemory named stops = tt

  pub first_name : (stop : Stop) → IsOf (λ named. named ≡ old) stop → IsOf (IsAmong (old ∷ new ∷ [])) stop
  first_name stop is = of_stops (λ named. named ≡ old) (IsAmong (old ∷ new ∷ [])) stop (λ named e. inl (sym e)) is

  pub second_name : (stop : Stop) → IsOf (λ named. named ≡ new) stop → IsOf (IsAmong (old ∷ new ∷ [])) stop
  second_name stop is = of_stops (λ named. named ≡ new) (IsAmong (old ∷ new ∷ [])) stop (λ named e. inr (inl (sym e))) is

-- ## What came

-- what they ask for is found out of the Mojom files
unchecked_early : (sources : List Source) (error : SchemaError) → IsRefusalOf sources error → IsOfMojoms (unchecked sources error)
unchecked_early sources (errors.Unread file why) is = tt
unchecked_early sources (errors.Refused why) is = tt
unchecked_early sources errors.Memory is = absurd is

comparing_late : (old new : Schema) (work : Work) → Comparing old new work → IsOfAll work
comparing_late old new work (inl a) = subst IsOfAll (sym a.2) tt
comparing_late old new work (inr a) = subst IsOfAll (sym a.2) tt

tabling_found : (sources : List Source) (next : Schema → Work → Type 0) (work : Work) → ((schema : Schema) → next schema work → IsOfMojoms work ⊎ IsOfAll work)
    → Tabling next sources work → IsOfMojoms work ⊎ IsOfAll work
tabling_found sources next work found (inl a) = found a.0 a.2
tabling_found sources next work found (inr a) = inl (subst IsOfMojoms (sym a.2) (unchecked_early sources a.0 a.1))

pairing_found : (sources : List Source) (work : Work) → Pairing sources work → IsOfMojoms work ⊎ IsOfAll work
pairing_found [] work a = absurd a
pairing_found (old ∷ []) work a = absurd a
pairing_found (old ∷ (new ∷ [])) work a =
    tabling_found (old ∷ []) (λ (s : Schema) w. Tabling (Comparing s) (new ∷ []) w) work
    (λ s. tabling_found (new ∷ []) (Comparing s) work (λ t is. inr (comparing_late s t work is))) a
pairing_found (old ∷ (new ∷ (more ∷ sources))) work a = absurd a

found_for : (names : List (List ℕ)) (work : Work) (before now : List Fetch) → IsOfMojoms work ⊎ IsOfAll work → FetchedAll names before now
    → FetchedFor names [] work before now
found_for names work before now (inl early) a = mojoms_for names [] work before now early a
found_for names work before now (inr late) a = all_for names [] work before now refl late (all_alone names before now a)

module _ (names : List (List ℕ)) (sources : List Source) where
  pub both_stopped : (before now : List Fetch) (stop : Stop) → StopsAt (Pairing sources) stop → FetchedAll names before now
      → StoppedAfter names [] before now stop
  both_stopped before now (Refused refusal) stops a =
      found_for names (refused_work refusal) before now (pairing_found sources (refused_work refusal) stops) a
  both_stopped before now (ReadFault name) stops a = absurd stops
  both_stopped before now NoMemory stops a = front_all (names ++ []) before now (all_alone names before now a)

  pub both_from : (before now : List Named) (stop : Stop) → map (λ (source : Source). source.name) sources ≡ names → now ≡ before ++ map read_as sources
      → StopsAt (Pairing sources) stop → StoppedFrom (AreCompared names before now) stop
  both_from before now (Refused refusal) named came stops = inr (record { sources = sources; named = named; came = came; made = stops })
  both_from before now (ReadFault name) named came stops = tt
  both_from before now NoMemory named came stops = tt

  -- what they ask for is asked for
  both_lead : (held : Option (List Named)) → AreBytes held names sources
      → Passes held (λ files. Pairing sources) (λ files w. FetchingAll files names [] Pairing w)
  both_lead None are = tt
  both_lead (Some files) are = λ work asked. asked_of_all (Some files) names sources (λ other. Pairing) work are asked

  pub both_asked : (before now : FilesState) (stop : Stop) → AreBytes before.held names sources → StopsAt (Pairing sources) stop
      → Stops before now (λ files w. FetchingAll files names [] Pairing w) stop
  both_asked before now stop are stops =
      stops_at before now (Pairing sources) (λ files w. FetchingAll files names [] Pairing w) stop (both_lead before.held are) stops

  asked_there : (held : Option (List Named)) (work : Work) → AreBytes held names sources → Pairing sources work
      → AskedFor held (λ files w. FetchingAll files names [] Pairing w) work
  asked_there None work are asked = tt
  asked_there (Some files) work are asked = asked_of_all (Some files) names sources (λ other. Pairing) work are asked

  pub compat_text : (held : Option (List Named)) (before now : List Named) (text : List ℕ) → AreBytes held names sources
      → map (λ (source : Source). source.name) sources ≡ names → now ≡ before ++ map read_as sources → IsReadsText (Pairing sources) text
      → IsCompatText names before now held (λ files w. FetchingAll files names [] Pairing w) text
  compat_text held before now text are named came reads = record {
    stable = reads.0;
    asked = asked_there held (Reads reads.0) are reads.1;
    from = record { sources = sources; named = named; came = came; made = reads.1 };
    text_of = reads.2;
  }
