-- The names of files.
use Rattle.std.specs.Prelude.{ℕ, Bool, false, ◌||◌, List, [], ◌∷◌, map, filter, reverse, slice_get, Option, Some, None}
use Rattle.std.specs.List.{flat_map, list_any}
use Rattle.std.specs.Option.{option_map_or}
use Rattle.std.specs.Str.{bytes_eq}
use Rattle.mojom_ast.specs.declared.names.Identifier.{Identifier}
use Rattle.mojom_ast.specs.declared.definitions.DefinitionItem.{DefinitionItem}
use Rattle.mojom_ast.specs.declared.definitions.DefinitionItem.TheVariants as items
use Rattle.mojom_ast.specs.declared.file.Import.{Import}
use Rattle.mojom_ast.specs.declared.file.ModuleStatement.{ModuleStatement}
use Rattle.mojom_files.specs.declared.named_file.NamedFile.{NamedFile}
use Rattle.mj_base.specs.Names.{within}
use Rattle.mojom_files.specs.Definitions.{Defined, definitions_of, enumerator_names}
use Rattle.module_resolver.specs.declared.target.DefinitionSort.{DefinitionSort}
use Rattle.module_resolver.specs.declared.target.DefinitionSort.TheVariants as sorts
use Rattle.module_resolver.specs.declared.file_names.FileNames.{FileNames}
use Rattle.module_resolver.specs.declared.file_names.Names.{Names}

-- what a definition is
abbrev pub sort_of_item : DefinitionItem → DefinitionSort
sort_of_item (items.Struct item) = sorts.Struct
sort_of_item (items.Union item) = sorts.Union
sort_of_item (items.Enum item) = sorts.Enum
sort_of_item (items.Interface item) = sorts.Interface
sort_of_item (items.Const item) = sorts.Const

-- the text of identifiers, and then of each more, with dots between them
abbrev pub texts_from : List ℕ → List Identifier → List (List ℕ)
texts_from text [] = text ∷ []
texts_from text (part ∷ parts) = text ∷ texts_from (within text part.text) parts

-- a name and each shorter front of it, the longest first
abbrev pub fronts_of : List Identifier → List (List ℕ)
fronts_of [] = []
fronts_of (part ∷ parts) = reverse (texts_from part.text parts)

-- the module's name and each shorter front of it, the longest first
abbrev pub module_fronts : Option ModuleStatement → List (List ℕ)
module_fronts None = []
module_fronts (Some statement) = fronts_of statement.name.parts

-- a file sees another where it is itself, or imports it
abbrev pub sees : NamedFile → NamedFile → Bool
sees file other = bytes_eq other.name file.name || list_any (λ (i : Import). bytes_eq i.path.bytes other.name) file.tree.imports

-- a file sees the one of this number
abbrev pub sees_number : List NamedFile → NamedFile → ℕ → Bool
sees_number files file number = option_map_or (sees file) (slice_get files number) false

-- the names of a file, where this is the resolved order of all files
abbrev pub names_in : List NamedFile → List ℕ → NamedFile → FileNames
names_in files order file = record {
  definitions = map (λ (d : Defined). d.full) (definitions_of file.tree);
  sorts = map (λ (d : Defined). sort_of_item d.item) (definitions_of file.tree);
  enumerators = flat_map enumerator_names (definitions_of file.tree);
  seen = filter (sees_number files file) order;
  fronts = module_fronts file.tree.module_statement;
}

-- the names of all files
abbrev pub names_of : List NamedFile → List ℕ → Names
names_of files order = record { files = map (names_in files order) files }
