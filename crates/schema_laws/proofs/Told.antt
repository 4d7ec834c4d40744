-- The things of files, and that what their values come from are such things.
use Rattle.std.proofs.Common.{◌≡◌, ◌<◌, ◌+◌, ℕ, List, [], length, refl, sym, ◌∙◌, ap, subst, inl, inr, arith}
use Rattle.std.specs.Prelude.{◌⊎◌, true, false, Option, Some, None, option_and_then, slice_get}
use Rattle.std.proofs.lemmas.Bool.{lt-ltb}
use Rattle.std.proofs.lemmas.Option.{slice_get_within}
use Rattle.mojom_ast.specs.declared.names.Name.{Name}
use Rattle.mojom_ast.specs.declared.names.Value.{Value}
use Rattle.mojom_ast.specs.declared.names.Value.TheVariants as values
use Rattle.mojom_ast.specs.declared.definitions.Const.{Const}
use Rattle.mojom_ast.specs.declared.definitions.DefinitionItem.{DefinitionItem}
use Rattle.mojom_ast.specs.declared.definitions.DefinitionItem.TheVariants as items
use Rattle.mojom_files.specs.declared.named_file.NamedFile.{NamedFile}
use Rattle.mojom_files.specs.declared.basic.Basic.{Basic}
use Rattle.mojom_files.specs.declared.basic.Basic.TheVariants as basics
use Rattle.mojom_files.specs.Names.{dotted}
use Rattle.mojom_files.specs.Definitions.{Defined, definitions_of}
use Rattle.module_resolver.specs.declared.target.Target.{Target}
use Rattle.module_resolver.specs.declared.target.Target.TheVariants as targets
use Rattle.module_resolver.specs.declared.target.DefinitionSort.{DefinitionSort}
use Rattle.name_refusals.specs.declared.uses.Wanted.TheVariants as wants
use Rattle.module_resolver.specs.LookUp.{look_up, sort_of}
use Rattle.module_resolver.specs.NamesOf.{sort_of_item, names_of}
use Rattle.name_refusals.specs.NameRefusals.{fits_sort, fits, refused_uses}
use Rattle.name_refusals.specs.Uses.{uses_in_value}
use Rattle.const_eval.specs.declared.file_things.FileThings.{FileThings}
use Rattle.const_meanings.specs.declared.literal.Literal.{Literal}
use Rattle.const_meanings.specs.declared.literal.Literal.TheVariants as literals
use Rattle.const_meanings.specs.declared.origin.Origin.{Origin}
use Rattle.const_meanings.specs.declared.origin.Origin.TheVariants.{Written, Of}
use Rattle.const_meanings.specs.Needs.{needed_by, counts_on}
use Rattle.const_eval.specs.Things.{owners, things_of_files, thing_within, thing_of}
use Rattle.const_eval.specs.Origins.{of_thing, origin_of_value, origin_of_const, origins_in}
use Rattle.schema_laws.proofs.Rowed.{defined_as}
use Rattle.schema_laws.proofs.Kinded.{use_alone, sort_fits}
use Rattle.schema_laws.proofs.FoundTargets.{enumerator_there}
use Rattle.schema_laws.proofs.Places.{IsPlaced, placed, file_sized}
use Rattle.schema_laws.proofs.Valued.{is_missing}

-- the definition that stands there is a constant
pub record IsConstAt (ds : List Defined) (n : ℕ) : Type 0 where
  pub definition : Defined
  pub there : slice_get ds n ≡ Some definition
  pub constant : Const
  pub is : definition.item ≡ items.Const constant

-- an enumerator stands there, behind the definitions
pub record IsEnumeratorAt (ds : List Defined) (n : ℕ) : Type 0 where
  pub place : ℕ
  pub is : n ≡ length ds + place
  pub below : place < length (owners ds)

const_is : (item : DefinitionItem) (sort : DefinitionSort) → sort_of_item item ≡ sort → fits_sort wants.Value sort ≡ true
    → (c : Const) × (item ≡ items.Const c)
const_is (items.Const c) sort e is = (c, refl)
const_is (items.Struct s) sort e is = let bad : false ≡ true = ap (fits_sort wants.Value) e ∙ is in absurd cc
const_is (items.Union u) sort e is = let bad : false ≡ true = ap (fits_sort wants.Value) e ∙ is in absurd cc
const_is (items.Enum e') sort e is = let bad : false ≡ true = ap (fits_sort wants.Value) e ∙ is in absurd cc
const_is (items.Interface i) sort e is = let bad : false ≡ true = ap (fits_sort wants.Value) e ∙ is in absurd cc

within_is : (first end number : ℕ) → first + number < end → thing_within first end number ≡ Some (first + number)
within_is first end number lt = rw (lt-ltb (first + number) end lt) refl

module _ (files : List NamedFile) (order : List ℕ) where
  abbrev pub say : ℕ → NamedFile → List Origin
  say = origins_in (things_of_files files) (names_of files order).files

  pub place : (file : ℕ) (tree : NamedFile) → slice_get files file ≡ Some tree → IsPlaced say 0 0 files file tree
  place file tree is = placed say (file_sized (things_of_files files) (names_of files order).files) 0 0 files file tree is

  -- a constant or an enumerator of files
  pub record IsTold (thing : ℕ) : Type 0 where
    pub file : ℕ
    pub tree : NamedFile
    pub tree_is : slice_get files file ≡ Some tree
    pub n : ℕ
    pub thing_is : thing ≡ (place file tree tree_is).begin + n
    pub which : IsConstAt (definitions_of tree.tree) n ⊎ IsEnumeratorAt (definitions_of tree.tree) n

  -- the thing that a target is
  pub record HasThing (target : Target) : Type 0 where
    pub thing : ℕ
    pub is : thing_of (things_of_files files) target ≡ Some thing
    pub told : IsTold thing

  definition_thing : (file number : ℕ) (tree : NamedFile) (is : slice_get files file ≡ Some tree) → IsConstAt (definitions_of tree.tree) number
      → HasThing (targets.Definition file number)
  definition_thing file number tree is c =
      let p = place file tree is in
      let ds = definitions_of tree.tree in
      let below = slice_get_within ds number c.definition c.there in
      record {
        thing = p.begin + number;
        is = ap (λ (o : Option FileThings). option_and_then (λ (f : FileThings). thing_within f.definitions f.enumerators number) o) p.things
            ∙ within_is p.begin (p.begin + length ds) number (omega (arith, below));
        told = record { file = file; tree = tree; tree_is = is; n = number; thing_is = refl; which = inl c };
      }

  enumerator_thing : (file number : ℕ) (tree : NamedFile) (is : slice_get files file ≡ Some tree) → number < length (owners (definitions_of tree.tree))
      → HasThing (targets.Enumerator file number)
  enumerator_thing file number tree is below =
      let p = place file tree is in
      let ds = definitions_of tree.tree in
      record {
        thing = p.begin + length ds + number;
        is = ap (λ (o : Option FileThings). option_and_then (λ (f : FileThings). thing_within f.enumerators f.end number) o) p.things
            ∙ within_is (p.begin + length ds) (p.begin + length ds + length (owners ds)) number (omega (arith, below));
        told = record {
          file = file;
          tree = tree;
          tree_is = is;
          n = length ds + number;
          thing_is = omega arith;
          which = inr (record { place = number; is = refl; below = below });
        };
      }

  -- what a name means where a value is wanted
  target_thing : (at : ℕ) (enclosing : Option (List ℕ)) (name : List ℕ) (target : Target) → look_up (names_of files order).files at enclosing name ≡ Some target
      → fits (names_of files order).files wants.Value target ≡ true → HasThing target
  target_thing at enclosing name (targets.Definition file number) found e =
      let sort = sort_fits wants.Value (sort_of (names_of files order).files (targets.Definition file number)) e in
      let d = defined_as files order file number sort.0 sort.1 in
      let c = const_is d.definition.item sort.0 d.sort_is sort.2 in
      definition_thing file number d.tree d.tree_is (record { definition = d.definition; there = d.definition_is; constant = c.0; is = c.1 })
  target_thing at enclosing name (targets.Enumerator file number) found e =
      let there = enumerator_there files order at enclosing name file number found in
      enumerator_thing file number there.tree there.tree_is there.below

  -- a value comes from somewhere: it is written, or that of a constant or an enumerator
  pub record IsFine (o : Origin) : Type 0 where
    pub there : is_missing o ≡ false
    pub plain : counts_on (Some o) ≡ 0
    pub told : (thing other : ℕ) → needed_by thing (Some o) ≡ Some other → IsTold other

  pub written_fine : (literal : Literal) → IsFine (Written literal)
  written_fine literal = record { there = refl; plain = refl; told = λ thing other e. absurd cc }

  thing_fine : (thing : ℕ) → IsTold thing → IsFine (Of thing)
  thing_fine thing told =
      record { there = refl; plain = refl; told = λ at other e. let same : thing ≡ other = cc in subst IsTold same told }

  -- what a name means, and where the value of that comes from
  pub record MeansThing (file : ℕ) (enclosing : Option (List ℕ)) (name : List ℕ) : Type 0 where
    pub target : Target
    pub found : look_up (names_of files order).files file enclosing name ≡ Some target
    pub has : HasThing target

  pub name_means : (file : ℕ) (enclosing : Option (List ℕ)) (name : Name)
      → refused_uses (names_of files order).files file (uses_in_value enclosing (values.Name name)) ≡ [] → MeansThing file enclosing (dotted name.parts)
  name_means file enclosing name e =
      let fit = use_alone (names_of files order).files file (record { enclosing = enclosing; parts = name.parts; wanted = wants.Value }) e in
      record { target = fit.target; found = fit.is; has = target_thing file enclosing (dotted name.parts) fit.target fit.is fit.fits }

  pub value_fine : (file : ℕ) (enclosing : Option (List ℕ)) (value : Value)
      → refused_uses (names_of files order).files file (uses_in_value enclosing value) ≡ []
      → IsFine (origin_of_value (things_of_files files) (names_of files order).files file enclosing value)
  value_fine file enclosing (values.Name name) e =
      let m = name_means file enclosing name e in
      let from : origin_of_value (things_of_files files) (names_of files order).files file enclosing (values.Name name) ≡ Of m.has.thing =
      ap of_thing (ap (option_and_then (thing_of (things_of_files files))) m.found ∙ m.has.is) in
      subst IsFine (sym from) (thing_fine m.has.thing m.has.told)
  value_fine file enclosing (values.String written) e = written_fine (literals.Text written.bytes)
  value_fine file enclosing (values.Bool value span) e = written_fine (literals.Bool value)
  value_fine file enclosing (values.Number negative magnitude span) e = written_fine (literals.Number negative magnitude)

  pub const_fine : (basic : Option Basic) (o : Origin) → IsFine o → IsFine (origin_of_const basic o)
  const_fine None o fine = fine
  const_fine (Some basics.Float) o fine = written_fine literals.Float
  const_fine (Some basics.Double) o fine = written_fine literals.Float
  const_fine (Some basics.Bool) o fine = fine
  const_fine (Some basics.Int8) o fine = fine
  const_fine (Some basics.Int16) o fine = fine
  const_fine (Some basics.Int32) o fine = fine
  const_fine (Some basics.Int64) o fine = fine
  const_fine (Some basics.Uint8) o fine = fine
  const_fine (Some basics.Uint16) o fine = fine
  const_fine (Some basics.Uint32) o fine = fine
  const_fine (Some basics.Uint64) o fine = fine
  const_fine (Some basics.Text) o fine = fine
