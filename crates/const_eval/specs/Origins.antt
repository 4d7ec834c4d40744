-- Where the values of things come from.
use Rattle.std.specs.Prelude.{ℕ, false, List, [], ◌∷◌, ◌++◌, map, Option, Some, None, option_and_then}
use Rattle.std.specs.List.{flat_map}
use Rattle.mojom_ast.specs.declared.names.Value.{Value}
use Rattle.mojom_ast.specs.declared.names.Value.TheVariants as values
use Rattle.mojom_ast.specs.declared.definitions.DefinitionItem.{DefinitionItem}
use Rattle.mojom_ast.specs.declared.definitions.DefinitionItem.TheVariants as items
use Rattle.mojom_ast.specs.declared.definitions.Enumerator.{Enumerator}
use Rattle.mojom_files.specs.declared.basic.Basic.{Basic}
use Rattle.mojom_files.specs.declared.basic.Basic.TheVariants as basics
use Rattle.mojom_files.specs.declared.named_file.NamedFile.{NamedFile}
use Rattle.mojom_files.specs.Names.{dotted}
use Rattle.mojom_files.specs.Definitions.{Defined, definitions_of, enumerators_of}
use Rattle.module_resolver.specs.declared.file_names.FileNames.{FileNames}
use Rattle.module_resolver.specs.LookUp.{look_up}
use Rattle.const_eval.specs.declared.file_things.FileThings.{FileThings}
use Rattle.const_meanings.specs.declared.literal.Literal.{Literal}
use Rattle.const_meanings.specs.declared.literal.Literal.TheVariants as literals
use Rattle.const_meanings.specs.declared.origin.Origin.{Origin}
use Rattle.const_meanings.specs.declared.origin.Origin.TheVariants.{Written, Of, Next, Missing}
use Rattle.const_eval.specs.Kinds.{basic_of_base}
use Rattle.const_eval.specs.Things.{numbered, things_of_files, thing_of}

-- the literal that is written; none of a name
abbrev pub literal_of : Value → Option Literal
literal_of (values.String written) = Some (literals.Text written.bytes)
literal_of (values.Bool value span) = Some (literals.Bool value)
literal_of (values.Number negative magnitude span) = Some (literals.Number negative magnitude)
literal_of (values.Name name) = None

-- of another thing, where there is one
abbrev pub of_thing : Option ℕ → Origin
of_thing None = Missing
of_thing (Some thing) = Of thing

-- written there, where it is
abbrev pub or_missing : Option Literal → Origin
or_missing None = Missing
or_missing (Some literal) = Written literal

-- where a value comes from, in the file of this number and within the definition of this full name
abbrev pub origin_of_value : List FileThings → List FileNames → ℕ → Option (List ℕ) → Value → Origin
origin_of_value things names file enclosing (values.Name name) =
    of_thing (option_and_then (thing_of things) (look_up names file enclosing (dotted name.parts)))
origin_of_value things names file enclosing value = or_missing (literal_of value)

-- a constant of float or double has a value of its own sort, whatever is written
abbrev pub origin_of_const : Option Basic → Origin → Origin
origin_of_const (Some basics.Float) origin = Written literals.Float
origin_of_const (Some basics.Double) origin = Written literals.Float
origin_of_const _ origin = origin

-- the same by what is defined: for a constant its kind and its written value say it
abbrev pub origin_of_item : List FileThings → List FileNames → ℕ → Option (List ℕ) → DefinitionItem → Origin
origin_of_item things names file enclosing (items.Const item) =
    origin_of_const (basic_of_base item.kind.base) (origin_of_value things names file enclosing item.value)
origin_of_item things names file enclosing _ = Missing

-- where the value of a definition comes from; only constants have one
abbrev pub origin_of_definition : List FileThings → List FileNames → ℕ → Defined → Origin
origin_of_definition things names file d = origin_of_item things names file d.enclosing d.item

-- where a value comes from that may not be written
abbrev pub origin_or : Origin → (Value → Origin) → Option Value → Origin
origin_or implied origin None = implied
origin_or implied origin (Some value) = origin value

-- the first enumerator is 0, and each other the number after the one before, where no value is written
abbrev pub origins_in_order : (Value → Origin) → List Enumerator → List Origin
origins_in_order origin [] = []
origins_in_order origin (e ∷ es) =
    origin_or (Written (literals.Number false 0)) origin e.value ∷ map (λ (e : Enumerator). origin_or Next origin e.value) es

-- where the values of a definition's enumerators come from: their enum encloses them
abbrev pub origins_of_enumerators : List FileThings → List FileNames → ℕ → Defined → List Origin
origins_of_enumerators things names file d =
    origins_in_order (origin_of_value things names file (Some d.full)) (enumerators_of d.item)

-- where the values of a file's things come from
abbrev pub origins_in : List FileThings → List FileNames → ℕ → NamedFile → List Origin
origins_in things names file tree =
    map (origin_of_definition things names file) (definitions_of tree.tree)
    ++ flat_map (origins_of_enumerators things names file) (definitions_of tree.tree)

-- where the values of all things come from
abbrev pub origins_of : List NamedFile → List FileNames → List Origin
origins_of files names = numbered (origins_in (things_of_files files) names) 0 files
