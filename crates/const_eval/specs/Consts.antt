-- What values are, by what constants and enumerators mean.
use Rattle.std.specs.Prelude.{ℕ, ◌≡◌, Bool, true, false, List, slice_get, Option, Some, None, option_and_then}
use Rattle.mojom_ast.specs.declared.names.Value.{Value}
use Rattle.mojom_ast.specs.declared.names.Value.TheVariants as values
use Rattle.mojom_files.specs.declared.named_file.NamedFile.{NamedFile}
use Rattle.mojom_files.specs.Names.{dotted}
use Rattle.module_resolver.specs.declared.target.Target.{Target}
use Rattle.module_resolver.specs.declared.file_names.FileNames.{FileNames}
use Rattle.module_resolver.specs.LookUp.{look_up}
use Rattle.const_eval.specs.declared.consts.Consts.{Consts}
use Rattle.const_meanings.specs.declared.meaning.Meaning.{Meaning}
use Rattle.const_meanings.specs.declared.meaning.Meaning.TheVariants as meanings
use Rattle.const_meanings.specs.declared.origin.Origin.{Origin}
use Rattle.const_meanings.specs.declared.origin.Origin.TheVariants.{Written}
use Rattle.const_meanings.specs.Known.{Known, TextValue, BoolValue, NumberValue, signed, known_with}
use Rattle.const_meanings.specs.Meanings.{AreMeanings}
use Rattle.const_eval.specs.Things.{things_of_files, thing_of}
use Rattle.const_eval.specs.Origins.{origins_of}

-- what a thing is whose value comes from here, and so much more
abbrev pub known_of_origin : ℕ → Origin → Option Known
known_of_origin more (Written literal) = known_with literal more
known_of_origin more _ = None

-- what a thing is that means this: the literal that is written at the last thing, and so much more
abbrev pub known_of_meaning : List Origin → Meaning → Option Known
known_of_meaning origins (meanings.Value last more) = option_and_then (known_of_origin more) (slice_get origins last)
known_of_meaning origins meanings.Circular = None
known_of_meaning origins meanings.Nothing = None

-- what the thing of this number is, where it has a value
abbrev pub value_at : Consts → ℕ → Option Known
value_at consts thing = option_and_then (known_of_meaning consts.origins) (slice_get consts.meanings thing)

-- it is told that a thing needs itself
abbrev pub is_circular_meaning : Option Meaning → Bool
is_circular_meaning (Some meanings.Circular) = true
is_circular_meaning _ = false

-- the thing of this number needs itself
abbrev pub is_circular : Consts → ℕ → Bool
is_circular consts thing = is_circular_meaning (slice_get consts.meanings thing)

-- what a name is that means this, where it has a value
abbrev pub value_of_target : Consts → Target → Option Known
value_of_target consts target = option_and_then (value_at consts) (thing_of consts.files target)

-- what a value is in the file of this number, within the definition of this full name: a literal is itself, and a name what it means
abbrev pub value_in : Consts → List FileNames → ℕ → Option (List ℕ) → Value → Option Known
value_in consts names file enclosing (values.Name name) =
    option_and_then (value_of_target consts) (look_up names file enclosing (dotted name.parts))
value_in consts names file enclosing (values.String written) = Some (TextValue written.bytes)
value_in consts names file enclosing (values.Bool value span) = Some (BoolValue value)
value_in consts names file enclosing (values.Number negative magnitude span) = Some (NumberValue (signed negative magnitude))

-- what the constants and enumerators of files mean, whose names are these
pub record AreConsts (files : List NamedFile) (names : List FileNames) (consts : Consts) : Type 0 where
  pub files_are : consts.files ≡ things_of_files files
  pub origins_are : consts.origins ≡ origins_of files names
  pub meanings_are : AreMeanings consts.origins consts.meanings
