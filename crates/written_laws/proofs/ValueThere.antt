-- A thing whose value is written is what is written.
use Rattle.std.proofs.Common.{◌≡◌, ℕ, List, [], sym, ◌∙◌, ap, arith}
use Rattle.std.specs.Prelude.{Bool, Option, Some, option_and_then, slice_get}
use Rattle.std.proofs.lemmas.Int.{ints}
use Rattle.mojom_ast.specs.declared.names.Name.{Name}
use Rattle.mojom_ast.specs.declared.names.Value.{Value}
use Rattle.mojom_ast.specs.declared.names.Value.TheVariants as values
use Rattle.mojom_files.specs.declared.named_file.NamedFile.{NamedFile}
use Rattle.mojom_files.specs.Names.{dotted}
use Rattle.module_resolver.specs.declared.target.Target.{Target}
use Rattle.module_resolver.specs.LookUp.{look_up}
use Rattle.module_resolver.specs.NamesOf.{names_of}
use Rattle.name_refusals.specs.NameRefusals.{refused_uses}
use Rattle.name_refusals.specs.Uses.{uses_in_value}
use Rattle.const_eval.specs.declared.consts.Consts.{Consts}
use Rattle.const_eval.specs.declared.file_things.FileThings.{FileThings}
use Rattle.const_meanings.specs.declared.literal.Literal.TheVariants as literals
use Rattle.const_meanings.specs.declared.origin.Origin.{Origin}
use Rattle.const_meanings.specs.declared.origin.Origin.TheVariants.{Of}
use Rattle.const_meanings.specs.Known.{Known, NumberValue, signed, number_of}
use Rattle.const_eval.specs.Things.{things_of_files, thing_of}
use Rattle.const_eval.specs.Origins.{of_thing, origin_of_value}
use Rattle.const_eval.specs.Consts.{AreConsts, value_at, value_of_target, value_in}
use Rattle.schema_laws.proofs.QuietFiles.{AreQuiet}
use Rattle.schema_laws.proofs.Told.{name_means}
use Rattle.schema_laws.proofs.AllSound.{known_of}
use Rattle.written_laws.proofs.Steps.{written_is, passed_is}

no_more : (negative : Bool) (magnitude : ℕ) → number_of negative magnitude 0 ≡ signed negative magnitude
no_more negative magnitude = omega (arith, ints)

pub some_known : (one other : Known) → one ≡ other → ◌≡◌ {A = Option Known} (Some one) (Some other)
some_known one other e = ap (λ (k : Known). let o : Option Known = Some k in o) e

module _ (files : List NamedFile) (order : List ℕ) (consts : Consts) (are : AreConsts files (names_of files order).files consts)
    (are_quiet : AreQuiet files (names_of files order).files consts) (file : ℕ) (enclosing : Option (List ℕ)) where
  abbrev from : Value → Origin
  from value = origin_of_value (things_of_files files) (names_of files order).files file enclosing value

  value_of : (name : Name) (target : Target) → look_up (names_of files order).files file enclosing (dotted name.parts) ≡ Some target
      → (thing : ℕ) → thing_of (things_of_files files) target ≡ Some thing → (known : Known) → value_at consts thing ≡ Some known
      → value_in consts (names_of files order).files file enclosing (values.Name name) ≡ Some known
  value_of name target found thing is known at =
      ap (option_and_then (value_of_target consts)) found
      ∙ (ap (λ (ts : List FileThings). option_and_then (value_at consts) (thing_of ts target)) are.files_are
      ∙ (ap (option_and_then (value_at consts)) is ∙ at))

  -- it is what the value is
  pub value_there : (thing : ℕ) (value : Value) → refused_uses (names_of files order).files file (uses_in_value enclosing value) ≡ []
      → slice_get consts.origins thing ≡ Some (from value) → (known : Known)
      → value_in consts (names_of files order).files file enclosing value ≡ Some known → value_at consts thing ≡ Some known
  value_there thing (values.Name name) uses at known e =
      let m = name_means files order file enclosing name uses in
      let k = known_of files order consts are are_quiet m.has.thing m.has.told in
      let by_name : from (values.Name name) ≡ Of m.has.thing =
      ap of_thing (ap (option_and_then (thing_of (things_of_files files))) m.found ∙ m.has.is) in
      let origin : slice_get consts.origins thing ≡ Some (Of m.has.thing) = at ∙ ap (λ (o : Origin). let s : Option Origin = Some o in s) by_name in
      let step = passed_is consts are.meanings_are thing m.has.thing k.known origin k.is in
      let value = value_of name m.target m.found m.has.thing m.has.is k.known k.is in
      step ∙ (sym value ∙ e)
  value_there thing (values.String written) uses at known e = written_is consts are.meanings_are thing (literals.Text written.bytes) at ∙ e
  value_there thing (values.Bool value span) uses at known e = written_is consts are.meanings_are thing (literals.Bool value) at ∙ e
  value_there thing (values.Number negative magnitude span) uses at known e =
      written_is consts are.meanings_are thing (literals.Number negative magnitude) at
      ∙ (some_known (NumberValue (number_of negative magnitude 0)) (NumberValue (signed negative magnitude)) (ap NumberValue (no_more negative magnitude)) ∙ e)
