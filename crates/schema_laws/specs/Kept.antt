-- That tables have all fields, all parameters and all constants of files.
use Rattle.std.specs.Prelude.{ℕ, ◌≡◌, List, [], ◌∷◌, map, length, Option, Some, None}
use Rattle.std.specs.List.{flat_map}
use Rattle.mojom_ast.specs.declared.definitions.DefinitionItem.{DefinitionItem}
use Rattle.mojom_ast.specs.declared.definitions.DefinitionItem.TheVariants as items
use Rattle.mojom_ast.specs.declared.definitions.Method.{Method}
use Rattle.mojom_ast.specs.declared.definitions.Parameter.{Parameter}
use Rattle.mojom_files.specs.declared.named_file.NamedFile.{NamedFile}
use Rattle.mojom_files.specs.Definitions.{Defined}
use Rattle.mj_schema.specs.declared.rows.DraftField.{DraftField}
use Rattle.mj_schema.specs.declared.rows.DraftStruct.{DraftStruct}
use Rattle.mj_schema.specs.declared.rows.UnionFieldRow.{UnionFieldRow}
use Rattle.mj_schema.specs.declared.rows.UnionRow.{UnionRow}
use Rattle.mj_schema.specs.declared.rows.ConstRow.{ConstRow}
use Rattle.draft_rows.specs.declared.draft.Draft.{Draft}
use Rattle.kind_scope.specs.Members.{Member, Numbered, field_of, union_field_of, parameter_of, numbered, along_ordinals}
use Rattle.draft_rows.specs.RowCounts.{methods_in, definitions_at}

-- the parameters of a response, where there is one
abbrev pub response_list : Option (List Parameter) → List (List Member)
response_list None = []
response_list (Some parameters) = map parameter_of parameters ∷ []

-- the parameters of a method's request, and those of its response
abbrev pub method_lists : Method → List (List Member)
method_lists m = map parameter_of m.request ∷ response_list m.response

-- the lists of members of a definition that have structs: the fields of a struct, and the lists of parameters of an interface
abbrev pub struct_lists : DefinitionItem → List (List Member)
struct_lists (items.Struct item) = flat_map field_of item.members ∷ []
struct_lists (items.Interface item) = flat_map method_lists (methods_in item.members)
struct_lists _ = []

-- the fields of a union
abbrev pub union_lists : DefinitionItem → List (List Member)
union_lists (items.Union item) = map union_field_of item.fields ∷ []
union_lists _ = []

-- the full name of a constant
abbrev pub const_names : List ℕ → DefinitionItem → List (List ℕ)
const_names full (items.Const item) = full ∷ []
const_names full _ = []

-- the definitions of files in their order
abbrev pub all_definitions : List NamedFile → List ℕ → List Defined
all_definitions files order = flat_map (definitions_at files) order

-- the names of members along their ordinals
abbrev pub names_along : List Member → List (List ℕ)
names_along members = map (λ (one : Numbered). one.member.name.text) (along_ordinals (numbered members))

-- the names of members as the file has them
abbrev pub names_listed : List Member → List (List ℕ)
names_listed members = map (λ (m : Member). m.name.text) members

-- the names of the fields of a struct
abbrev pub field_names : DraftStruct → List (List ℕ)
field_names row = map (λ (field : DraftField). field.name) row.fields

-- the names of the fields of a union
abbrev pub union_field_names : UnionRow → List (List ℕ)
union_field_names row = map (λ (field : UnionFieldRow). field.name) row.fields

-- each struct has all members of its list along their ordinals, and as many as there are; each union has all its fields; and each
-- constant has a row
pub record HasAll (definitions : List Defined) (draft : Draft) : Type 0 where
  pub structs : map field_names draft.structs ≡ map names_along (flat_map (λ (d : Defined). struct_lists d.item) definitions)
  pub counts : map (λ (row : DraftStruct). length row.fields) draft.structs ≡ map length (flat_map (λ (d : Defined). struct_lists d.item) definitions)
  pub unions : map union_field_names draft.unions ≡ map names_listed (flat_map (λ (d : Defined). union_lists d.item) definitions)
  pub consts : map (λ (row : ConstRow). row.name) draft.consts ≡ flat_map (λ (d : Defined). const_names d.full d.item) definitions
