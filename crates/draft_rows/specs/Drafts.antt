-- The tables of files, where fields have no places yet.
use Rattle.std.specs.Prelude.{ℕ, ◌+◌, List, [], ◌∷◌, ◌++◌, map, Option, Some, None}
use Rattle.std.specs.List.{flat_map}
use Rattle.std.specs.Option.{option_to_list}
use Rattle.mojom_ast.specs.declared.attributes.Attribute.{Attribute}
use Rattle.mojom_ast.specs.declared.definitions.DefinitionItem.{DefinitionItem}
use Rattle.mojom_ast.specs.declared.definitions.DefinitionItem.TheVariants as items
use Rattle.mojom_ast.specs.declared.definitions.Struct.{Struct}
use Rattle.mojom_ast.specs.declared.definitions.Union.{Union}
use Rattle.mojom_ast.specs.declared.definitions.Enum.{Enum}
use Rattle.mojom_ast.specs.declared.definitions.Const.{Const}
use Rattle.mojom_ast.specs.declared.definitions.Interface.{Interface}
use Rattle.mojom_ast.specs.declared.definitions.Method.{Method}
use Rattle.mojom_ast.specs.declared.definitions.Parameter.{Parameter}
use Rattle.mojom_files.specs.declared.named_file.NamedFile.{NamedFile}
use Rattle.mojom_files.specs.Definitions.{Defined}
use Rattle.module_resolver.specs.declared.file_names.FileNames.{FileNames}
use Rattle.const_eval.specs.declared.consts.Consts.{Consts}
use Rattle.mj_schema.specs.declared.rows.DefinitionRow.{DefinitionRow}
use Rattle.mj_schema.specs.declared.rows.RowSort.{RowSort}
use Rattle.mj_schema.specs.declared.rows.RowSort.TheVariants as sorts
use Rattle.draft_rows.specs.declared.counts.Counts.{Counts}
use Rattle.draft_rows.specs.declared.counts.FileRows.{FileRows}
use Rattle.draft_rows.specs.declared.draft.Draft.{Draft}
use Rattle.kind_scope.specs.Scopes.{Scope, inside, around}
use Rattle.kind_scope.specs.Members.{field_of, union_field_of}
use Rattle.draft_rows.specs.RowCounts.{methods_in, structs_of, after, after_all, no_rows, definitions_at, rows_of}
use Rattle.draft_rows.specs.InterfaceVersions.{interface_version}
use Rattle.draft_rows.specs.Rows.{const_row, is_stable, struct_row, union_row, valued, enum_row, interface_row, structs_of_methods}

-- no tables
abbrev pub empty : Draft
empty = record { structs = []; unions = []; enums = []; interfaces = []; consts = []; order = [] }

-- the rows of one, and behind them those of another
abbrev pub join : Draft → Draft → Draft
join one two = record {
  structs = one.structs ++ two.structs;
  unions = one.unions ++ two.unions;
  enums = one.enums ++ two.enums;
  interfaces = one.interfaces ++ two.interfaces;
  consts = one.consts ++ two.consts;
  order = one.order ++ two.order;
}

-- the definition whose row stands in this list under this number
abbrev pub row_at : RowSort → ℕ → DefinitionRow
row_at sort number = record { sort = sort; number = number }

-- the struct of a response, which stands behind this one
abbrev pub response_order : ℕ → Option (List Parameter) → List DefinitionRow
response_order first None = []
response_order first (Some parameters) = row_at sorts.Struct (first + 1) ∷ []

-- the structs of a method, the first of which has this number
abbrev pub method_order : ℕ → Method → List DefinitionRow
method_order first m = row_at sorts.Struct first ∷ response_order first m.response

-- the structs of methods, the first of which has this number
abbrev pub methods_order : ℕ → List Method → List DefinitionRow
methods_order first [] = []
methods_order first (m ∷ ms) = method_order first m ++ methods_order (first + structs_of m) ms

-- the tables of the interface of this full name alone, before which so many rows stand: the structs of its methods stand behind it
abbrev pub draft_of_interface : List FileRows → Scope → Counts → List ℕ → List Attribute → Interface → Draft
draft_of_interface rows scope counts full attributes item = record empty {
  structs = structs_of_methods rows scope full (methods_in item.members);
  interfaces = interface_row full counts.structs (methods_in item.members) (interface_version scope item.members) (is_stable attributes) ∷ [];
  order = row_at sorts.Interface counts.interfaces ∷ methods_order counts.structs (methods_in item.members);
}

-- the tables of the struct of this full name alone, before which so many rows stand
abbrev pub draft_of_struct : List FileRows → Scope → Counts → List ℕ → List Attribute → Struct → Draft
draft_of_struct rows scope counts full attributes item = record empty {
  structs = struct_row rows scope full (is_stable attributes) (flat_map field_of item.members) ∷ [];
  order = row_at sorts.Struct counts.structs ∷ [];
}

-- the same of a union
abbrev pub draft_of_union : List FileRows → Scope → Counts → List ℕ → List Attribute → Union → Draft
draft_of_union rows scope counts full attributes item = record empty {
  unions = union_row rows scope full attributes (map union_field_of item.fields) ∷ [];
  order = row_at sorts.Union counts.unions ∷ [];
}

-- the same of an enum
abbrev pub draft_of_enum : Scope → Counts → List ℕ → List Attribute → Enum → Draft
draft_of_enum scope counts full attributes item = record empty {
  enums = enum_row full attributes (valued scope item.enumerators) ∷ [];
  order = row_at sorts.Enum counts.enums ∷ [];
}

-- the same of a constant
abbrev pub draft_of_const : List FileRows → Scope → Counts → List ℕ → Const → Draft
draft_of_const rows scope counts full item = record empty {
  consts = option_to_list (const_row rows scope full item);
  order = row_at sorts.Const counts.consts ∷ [];
}

-- the tables of the definition of this full name alone, before which so many rows stand: a constant encloses nothing
abbrev pub draft_of_item : List FileRows → Scope → Counts → List ℕ → List Attribute → DefinitionItem → Draft
draft_of_item rows scope counts full attributes (items.Struct item) = draft_of_struct rows (inside scope full) counts full attributes item
draft_of_item rows scope counts full attributes (items.Union item) = draft_of_union rows (inside scope full) counts full attributes item
draft_of_item rows scope counts full attributes (items.Enum item) = draft_of_enum (inside scope full) counts full attributes item
draft_of_item rows scope counts full attributes (items.Interface item) = draft_of_interface rows (inside scope full) counts full attributes item
draft_of_item rows scope counts full attributes (items.Const item) = draft_of_const rows scope counts full item

-- within what stands around a definition
abbrev pub enclosed : Scope → Option (List ℕ) → Scope
enclosed scope enclosing = record { names = scope.names; consts = scope.consts; file = scope.file; enclosing = enclosing }

-- the tables of a definition of a file alone
abbrev pub draft_of_definition : List FileRows → Scope → Counts → Defined → Draft
draft_of_definition rows scope counts d = draft_of_item rows (enclosed scope d.enclosing) counts d.full d.attributes d.item

-- the tables of definitions of a file, where so many rows stand before them
abbrev pub draft_of_all : List FileRows → Scope → Counts → List Defined → Draft
draft_of_all rows scope counts [] = empty
draft_of_all rows scope counts (d ∷ ds) = join (draft_of_definition rows scope counts d) (draft_of_all rows scope (after counts d.item) ds)

-- the tables of the files of these numbers, where so many rows stand before them
abbrev pub draft_from : List FileRows → List FileNames → Consts → List NamedFile → Counts → List ℕ → Draft
draft_from rows names consts files counts [] = empty
draft_from rows names consts files counts (number ∷ numbers) =
    join (draft_of_all rows (around names consts number None) counts (definitions_at files number))
    (draft_from rows names consts files (after_all counts (definitions_at files number)) numbers)

-- the tables of files in their order
abbrev pub draft_of : List FileNames → Consts → List NamedFile → List ℕ → Draft
draft_of names consts files order = draft_from (rows_of files order) names consts files no_rows order
