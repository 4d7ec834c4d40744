-- What is refused of the kinds, the ordinals and the versions of a file stands in it.
use Rattle.std.proofs.Common.{ℕ, List, [], ◌∷◌, refl, length, map}
use Rattle.std.specs.Prelude.{Bool, true, false, not, ◌&&◌, nat_lt, drop, filter, Option, Some, None}
use Rattle.std.specs.List.{flat_map}
use Rattle.mj_base.specs.declared.limits.TheConstants.{MAX_ENUMERATORS}
use Rattle.mojom_ast.specs.TypeTrees.{BaseTree, Named, ArrayOf, MapOf, HandleOf, PendingOf, TypeTree}
use Rattle.mojom_ast.specs.declared.names.Identifier.{Identifier}
use Rattle.mojom_ast.specs.declared.definitions.DefinitionItem.{DefinitionItem}
use Rattle.mojom_ast.specs.declared.definitions.DefinitionItem.TheVariants as items
use Rattle.mojom_ast.specs.declared.definitions.Enum.{Enum}
use Rattle.mojom_ast.specs.declared.definitions.InterfaceItem.{InterfaceItem}
use Rattle.mojom_ast.specs.declared.definitions.InterfaceItem.TheVariants as interface_items
use Rattle.mojom_ast.specs.declared.definitions.Parameter.{Parameter}
use Rattle.mojom_files.specs.declared.named_file.NamedFile.{NamedFile}
use Rattle.mojom_files.specs.Causes.{TooManyFields, EmptyEnum, FloatField, BadMapKey, NullableKey, BadNullable, ZeroLengthArray, OrdinalGap, VersionFalls, LateNotNullable}
use Rattle.mojom_files.specs.Definitions.{definitions_of}
use Rattle.module_resolver.specs.declared.file_names.FileNames.{FileNames}
use Rattle.const_eval.specs.declared.consts.Consts.{Consts}
use Rattle.kind_refusals.specs.declared.list_sort.ListSort.{ListSort}
use Rattle.kind_refusals.specs.declared.list_sort.ListSort.TheVariants.{Fields, UnionFields, Methods, Parameters}
use Rattle.kind_scope.specs.Scopes.{Scope, meant_in, refused, inside, around}
use Rattle.kind_scope.specs.Members.{Member, Numbered, field_of, union_field_of, method_of, parameter_of, held, numbered, along_ordinals}
use Rattle.kind_refusals.specs.TypeRefusals.{is_float, is_number, is_key, is_zero, refused_in_base, refused_in_option, refused_in_member}
use Rattle.kind_refusals.specs.OrdinalRefusals.{doubled, refused_double, lacking, refused_gap, refused_falls, needs_null, refused_late, refused_order}
use Rattle.kind_scope.specs.Versions.{version_of}
use Rattle.kind_refusals.specs.KindRefusals.{limit_of, is_struct, refused_count, is_empty, refused_struct, refused_numbers, refused_list, refused_response}
use Rattle.kind_refusals.specs.KindRefusals.{refused_in_item, refused_in_interface, refused_default, refused_enum, refused_item, refused_definition}
use Rattle.kind_refusals.specs.KindRefusals.{refusals_in}
use Rattle.kind_scope.specs.Attributes.{is_default}
use Rattle.mojom_compile.proofs.InFile.{AllIn, nothing, single, both, tested, chosen, said_of_each, one_of_each}

module _ (scope : Scope) where
  of_base : (member : Identifier) (field : Bool) (kind : BaseTree) (nullable : Bool) → AllIn scope.file (refused_in_base scope member field kind nullable)
  of_base member field (Named name) nullable =
      both (tested (is_float (meant_in scope name.parts)) (refused scope member (FloatField member.text)) refl)
      (tested (not field && (nullable && is_number scope (meant_in scope name.parts))) (refused scope member (BadNullable member.text)) refl)
  of_base member field (ArrayOf element inner count) nullable =
      both (tested (is_zero count) (refused scope member (ZeroLengthArray member.text)) refl) (of_base member false element inner)
  of_base member field (MapOf key of_key value of_value) nullable =
      both (tested (not (is_key scope key)) (refused scope member (BadMapKey member.text)) refl)
      (both (tested of_key (refused scope member (NullableKey member.text)) refl)
      (both (of_base member true key of_key) (of_base member false value of_value)))
  of_base member field (HandleOf sort) nullable = nothing
  of_base member field (PendingOf sort interface) nullable = nothing

  of_option : (name : Identifier) (field : Bool) (kind : Option TypeTree) → AllIn scope.file (refused_in_option scope name field kind)
  of_option name field None = nothing
  of_option name field (Some kind) = of_base name field kind.base kind.nullable

  of_gap : (owner : Identifier) (gap : Option ℕ) → AllIn scope.file (refused_gap scope owner gap)
  of_gap owner None = nothing
  of_gap owner (Some ordinal) = single (refused scope owner (OrdinalGap owner.text (held ordinal))) refl

  of_falls : (before : ℕ) (members : List Numbered) → AllIn scope.file (refused_falls scope before members)
  of_falls before [] = nothing
  of_falls before (one ∷ others) =
      both (tested (nat_lt (version_of scope one.member) before)
      (refused scope one.member.name (VersionFalls one.member.name.text before (version_of scope one.member))) refl)
      (of_falls (version_of scope one.member) others)

  of_late : (one : Numbered) → AllIn scope.file (refused_late scope one)
  of_late one =
      tested (nat_lt 0 (version_of scope one.member) && needs_null scope one.member.kind)
      (refused scope one.member.name (LateNotNullable one.member.name.text)) refl

  of_order : (owner : Identifier) (members : List Numbered) → AllIn scope.file (refused_order scope owner members)
  of_order owner members = both (of_gap owner (lacking members)) (of_falls 0 (along_ordinals members))

  of_struct : (owner : Identifier) (members : List Numbered) → AllIn scope.file (refused_struct scope owner members)
  of_struct owner members =
      both (chosen (is_empty (doubled [] members)) (of_order owner members) nothing) (said_of_each (refused_late scope) members of_late)

  of_numbers : (owner : Identifier) (sort : ListSort) (members : List Numbered) → AllIn scope.file (refused_numbers scope owner sort members)
  of_numbers owner sort members =
      both (one_of_each (refused_double scope) (doubled [] members) (λ one. refl)) (chosen (is_struct sort) (of_struct owner members) nothing)

  of_count : (owner : Identifier) (limit count : ℕ) → AllIn scope.file (refused_count scope owner limit count)
  of_count owner limit count = tested (nat_lt limit count) (refused scope owner (TooManyFields owner.text)) refl

  of_list : (owner : Identifier) (sort : ListSort) (members : List Member) → AllIn scope.file (refused_list scope owner sort members)
  of_list owner sort members =
      both (of_count owner (limit_of sort) (length members))
      (both (said_of_each (refused_in_member scope (is_struct sort)) members (λ m. of_option m.name (is_struct sort) m.kind))
      (of_numbers owner sort (numbered members)))

  of_response : (owner : Identifier) (response : Option (List Parameter)) → AllIn scope.file (refused_response scope owner response)
  of_response owner None = nothing
  of_response owner (Some ps) = of_list owner Parameters (map parameter_of ps)

  of_method : (item : InterfaceItem) → AllIn scope.file (refused_in_item scope item)
  of_method (interface_items.Method m) = both (of_list m.name Parameters (map parameter_of m.request)) (of_response m.name m.response)
  of_method (interface_items.Const c) = nothing
  of_method (interface_items.Enum e) = nothing

  of_enum : (e : Enum) → AllIn scope.file (refused_enum scope e)
  of_enum e =
      both (of_count e.name MAX_ENUMERATORS (length e.enumerators))
      (both (tested (is_empty e.enumerators) (refused scope e.name (EmptyEnum e.name.text)) refl)
      (one_of_each (refused_default scope) (drop 1 (filter is_default e.enumerators)) (λ one. refl)))

of_item : (scope : Scope) (full : List ℕ) (item : DefinitionItem) → AllIn scope.file (refused_item scope full item)
of_item scope full (items.Struct s) = of_list (inside scope full) s.name Fields (flat_map field_of s.members)
of_item scope full (items.Union u) = of_list (inside scope full) u.name UnionFields (map union_field_of u.fields)
of_item scope full (items.Enum e) = of_enum scope e
of_item scope full (items.Interface i) =
    both (of_list (inside scope full) i.name Methods (flat_map method_of i.members))
    (said_of_each (refused_in_interface (inside scope full)) i.members (λ m. of_method (inside scope full) m.item))
of_item scope full (items.Const c) = of_base scope c.name false c.kind.base c.kind.nullable

-- all refusals of the file of this number
pub kinds_in : (names : List FileNames) (consts : Consts) (number : ℕ) (file : NamedFile) → AllIn number (refusals_in names consts number file)
kinds_in names consts number file =
    said_of_each (refused_definition names consts number) (definitions_of file.tree)
    (λ d. of_item (around names consts number d.enclosing) d.full d.item)
