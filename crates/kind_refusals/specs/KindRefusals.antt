-- What is refused of the kinds, the ordinals and the versions of a file.
use Rattle.std.specs.Prelude.{ℕ, Bool, true, false, nat_lt, if◌then◌else◌, List, [], ◌++◌, map, drop, filter, length, slice_get, Option, Some, None}
use Rattle.std.specs.List.{flat_map}
use Rattle.std.specs.Option.{option_map_or}
use Rattle.mj_base.specs.declared.limits.TheConstants.{MAX_FIELDS, MAX_METHODS, MAX_PARAMETERS, MAX_UNION_FIELDS, MAX_ENUMERATORS}
use Rattle.mojom_ast.specs.declared.names.Identifier.{Identifier}
use Rattle.mojom_ast.specs.declared.definitions.DefinitionItem.{DefinitionItem}
use Rattle.mojom_ast.specs.declared.definitions.DefinitionItem.TheVariants as items
use Rattle.mojom_ast.specs.declared.definitions.InterfaceMember.{InterfaceMember}
use Rattle.mojom_ast.specs.declared.definitions.InterfaceItem.{InterfaceItem}
use Rattle.mojom_ast.specs.declared.definitions.InterfaceItem.TheVariants as interface_items
use Rattle.mojom_ast.specs.declared.definitions.Enumerator.{Enumerator}
use Rattle.mojom_ast.specs.declared.definitions.Enum.{Enum}
use Rattle.mojom_ast.specs.declared.definitions.Parameter.{Parameter}
use Rattle.mojom_files.specs.declared.named_file.NamedFile.{NamedFile}
use Rattle.mojom_files.specs.Causes.{TooManyFields, EmptyEnum, DoubleDefault}
use Rattle.mojom_files.specs.declared.refusal.Refusal.{Refusal}
use Rattle.mojom_files.specs.Definitions.{Defined, definitions_of}
use Rattle.mojom_files.specs.Refusals.{where_true, first_refusal}
use Rattle.module_resolver.specs.declared.file_names.FileNames.{FileNames}
use Rattle.const_eval.specs.declared.consts.Consts.{Consts}
use Rattle.kind_refusals.specs.declared.list_sort.ListSort.{ListSort}
use Rattle.kind_refusals.specs.declared.list_sort.ListSort.TheVariants.{Fields, UnionFields, Methods, Parameters}
use Rattle.kind_scope.specs.Scopes.{Scope, refused, inside, around}
use Rattle.kind_scope.specs.Members.{Member, Numbered, field_of, union_field_of, method_of, parameter_of, numbered}
use Rattle.kind_refusals.specs.TypeRefusals.{refused_in_type, refused_in_member}
use Rattle.kind_refusals.specs.OrdinalRefusals.{doubled, refused_doubles, refused_order, refused_late}
use Rattle.kind_scope.specs.Attributes.{is_default}

-- lists of members

-- the most members that a list of this sort may have
abbrev pub limit_of : ListSort → ℕ
limit_of Fields = MAX_FIELDS
limit_of UnionFields = MAX_UNION_FIELDS
limit_of Methods = MAX_METHODS
limit_of Parameters = MAX_PARAMETERS

-- fields of structs and parameters have each ordinal below the number of members, and versions, and may be numbers that are null
abbrev pub is_struct : ListSort → Bool
is_struct Fields = true
is_struct UnionFields = false
is_struct Methods = false
is_struct Parameters = true

-- more members than there may be, which goes by the identifier of the definition or the method
abbrev pub refused_count : Scope → Identifier → ℕ → ℕ → List Refusal
refused_count scope owner limit count = where_true (nat_lt limit count) (refused scope owner (TooManyFields owner.text))

-- nothing stands in the list
abbrev pub is_empty : {A : Type 0} → List A → Bool
is_empty [] = true
is_empty _ = false

-- all refusals of the gaps and the versions of a struct or a list of parameters
abbrev pub refused_struct : Scope → Identifier → List Numbered → List Refusal
refused_struct scope owner members =
    (if is_empty (doubled [] members) then refused_order scope owner members else []) ++ flat_map (refused_late scope) members

-- all refusals of the ordinals and the versions of a list
abbrev pub refused_numbers : Scope → Identifier → ListSort → List Numbered → List Refusal
refused_numbers scope owner sort members =
    refused_doubles scope members ++ (if is_struct sort then refused_struct scope owner members else [])

-- all refusals of a list of members of a definition or a method
abbrev pub refused_list : Scope → Identifier → ListSort → List Member → List Refusal
refused_list scope owner sort members =
    refused_count scope owner (limit_of sort) (length members)
    ++ (flat_map (refused_in_member scope (is_struct sort)) members ++ refused_numbers scope owner sort (numbered members))

-- the lists of a method: the request first, and then the response where it has one

-- all refusals of one list of parameters, of the method of this identifier
abbrev pub refused_parameters : Scope → Identifier → List Parameter → List Refusal
refused_parameters scope owner parameters = refused_list scope owner Parameters (map parameter_of parameters)

-- all refusals of the response of a method, where it has one
abbrev pub refused_response : Scope → Identifier → Option (List Parameter) → List Refusal
refused_response scope owner None = []
refused_response scope owner (Some parameters) = refused_parameters scope owner parameters

-- all refusals of the parameters of a method; constants and enums in an interface have none
abbrev pub refused_in_item : Scope → InterfaceItem → List Refusal
refused_in_item scope (interface_items.Method m) =
    refused_parameters scope m.name m.request ++ refused_response scope m.name m.response
refused_in_item scope (interface_items.Const c) = []
refused_in_item scope (interface_items.Enum e) = []

-- all refusals of the parameters of a member of an interface
abbrev pub refused_in_interface : Scope → InterfaceMember → List Refusal
refused_in_interface scope member = refused_in_item scope member.item

-- enums

-- the refusal of one more enumerator with `[Default]`
abbrev pub refused_default : Scope → Enumerator → Refusal
refused_default scope e = refused scope e.name (DoubleDefault e.name.text)

-- all refusals of an enum: each enumerator with `[Default]` but the first is one
abbrev pub refused_enum : Scope → Enum → List Refusal
refused_enum scope e =
    refused_count scope e.name MAX_ENUMERATORS (length e.enumerators)
    ++ (where_true (is_empty e.enumerators) (refused scope e.name (EmptyEnum e.name.text))
    ++ map (refused_default scope) (drop 1 (filter is_default e.enumerators)))

-- definitions

-- all refusals of a definition; a constant encloses nothing
abbrev pub refused_item : Scope → List ℕ → DefinitionItem → List Refusal
refused_item scope full (items.Struct item) = refused_list (inside scope full) item.name Fields (flat_map field_of item.members)
refused_item scope full (items.Union item) = refused_list (inside scope full) item.name UnionFields (map union_field_of item.fields)
refused_item scope full (items.Enum item) = refused_enum scope item
refused_item scope full (items.Interface item) =
    refused_list (inside scope full) item.name Methods (flat_map method_of item.members)
    ++ flat_map (refused_in_interface (inside scope full)) item.members
refused_item scope full (items.Const item) = refused_in_type scope item.name false item.kind

-- all refusals of a definition in the file of this number, its names looked up from what encloses it
abbrev pub refused_definition : List FileNames → Consts → ℕ → Defined → List Refusal
refused_definition names consts file d = refused_item (around names consts file d.enclosing) d.full d.item

-- all refusals of a file
abbrev pub refusals_in : List FileNames → Consts → ℕ → NamedFile → List Refusal
refusals_in names consts number file = flat_map (refused_definition names consts number) (definitions_of file.tree)

-- all refusals of the file of this number, where it is there
abbrev pub refusals_at : List FileNames → Consts → List NamedFile → ℕ → List Refusal
refusals_at names consts files number = option_map_or (refusals_in names consts number) (slice_get files number) []

-- the first refusal of kinds of all files: the one that comes first in the first file, in resolved order, that has any
abbrev pub kinds_refusal : List FileNames → Consts → List NamedFile → List ℕ → Option Refusal
kinds_refusal names consts files order = first_refusal (refusals_at names consts files) order
