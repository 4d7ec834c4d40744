-- The numbers of rows: how many rows of each sort stand before a definition.
use Rattle.std.specs.Prelude.{ℕ, ◌+◌, List, [], ◌∷◌, slice_get, find, ◌==◌, Option, Some, None, option_and_then}
use Rattle.std.specs.List.{fold, flat_map, sum_by}
use Rattle.std.specs.Option.{option_map_or}
use Rattle.mojom_ast.specs.declared.definitions.DefinitionItem.{DefinitionItem}
use Rattle.mojom_ast.specs.declared.definitions.DefinitionItem.TheVariants as items
use Rattle.mojom_ast.specs.declared.definitions.InterfaceMember.{InterfaceMember}
use Rattle.mojom_ast.specs.declared.definitions.InterfaceItem.{InterfaceItem}
use Rattle.mojom_ast.specs.declared.definitions.InterfaceItem.TheVariants as interface_items
use Rattle.mojom_ast.specs.declared.definitions.Method.{Method}
use Rattle.mojom_ast.specs.declared.definitions.Parameter.{Parameter}
use Rattle.mojom_files.specs.declared.named_file.NamedFile.{NamedFile}
use Rattle.mojom_files.specs.Definitions.{Defined, definitions_of}
use Rattle.draft_rows.specs.declared.counts.Counts.{Counts}
use Rattle.draft_rows.specs.declared.counts.FileRows.{FileRows}

-- methods

-- the method that a member of an interface is
abbrev pub method_among : InterfaceItem → List Method
method_among (interface_items.Method m) = m ∷ []
method_among (interface_items.Const c) = []
method_among (interface_items.Enum e) = []

-- the methods of an interface
abbrev pub methods_in : List InterfaceMember → List Method
methods_in members = flat_map (λ (m : InterfaceMember). method_among m.item) members

-- one struct for the request, and one for the response where there is one
abbrev pub structs_with : Option (List Parameter) → ℕ
structs_with None = 1
structs_with (Some parameters) = 2

-- how many structs a method has
abbrev pub structs_of : Method → ℕ
structs_of m = structs_with m.response

-- how many structs methods have
abbrev pub structs_of_all : List Method → ℕ
structs_of_all methods = sum_by structs_of methods

-- counts

-- so many rows, and those of a definition
abbrev pub after : Counts → DefinitionItem → Counts
after counts (items.Struct item) = record counts { structs = counts.structs + 1 }
after counts (items.Union item) = record counts { unions = counts.unions + 1 }
after counts (items.Enum item) = record counts { enums = counts.enums + 1 }
after counts (items.Interface item) =
    record counts { structs = counts.structs + structs_of_all (methods_in item.members); interfaces = counts.interfaces + 1 }
after counts (items.Const item) = record counts { consts = counts.consts + 1 }

-- so many rows, and those of definitions
abbrev pub after_all : Counts → List Defined → Counts
after_all counts definitions = fold (λ (before : Counts) (d : Defined). after before d.item) counts definitions

-- no rows
abbrev pub no_rows : Counts
no_rows = record { structs = 0; unions = 0; enums = 0; interfaces = 0; consts = 0 }

-- how many rows stand before each definition, where so many stand before the first
abbrev pub counts_before : Counts → List Defined → List Counts
counts_before counts [] = []
counts_before counts (d ∷ ds) = counts ∷ counts_before (after counts d.item) ds

-- the definitions of the file of this number, where it is there
abbrev pub definitions_at : List NamedFile → ℕ → List Defined
definitions_at files number = option_map_or (λ (file : NamedFile). definitions_of file.tree) (slice_get files number) []

-- for each file of an order, how many rows stand before each of its definitions, where so many stand before the first file
abbrev pub rows_from : List NamedFile → Counts → List ℕ → List FileRows
rows_from files counts [] = []
rows_from files counts (number ∷ numbers) =
    record { file = number; before = counts_before counts (definitions_at files number) }
    ∷ rows_from files (after_all counts (definitions_at files number)) numbers

-- for each file of an order, how many rows stand before each of its definitions
abbrev pub rows_of : List NamedFile → List ℕ → List FileRows
rows_of files order = rows_from files no_rows order

-- how many rows stand before the definition of this number in the file of this number
abbrev pub rows_before : List FileRows → ℕ → ℕ → Option Counts
rows_before rows file number =
    option_and_then (λ (r : FileRows). slice_get r.before number) (find (λ (r : FileRows). r.file == file) rows)
