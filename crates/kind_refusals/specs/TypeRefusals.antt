-- What is refused in a type.
use Rattle.std.specs.Prelude.{Bool, true, false, not, ◌&&◌, ◌||◌, ◌==◌, List, [], ◌++◌, Option, Some, None}
use Rattle.mojom_ast.specs.TypeTrees.{BaseTree, Named, ArrayOf, MapOf, HandleOf, PendingOf, TypeTree}
use Rattle.mojom_ast.specs.declared.names.Identifier.{Identifier}
use Rattle.mojom_ast.specs.declared.names.Number.{Number}
use Rattle.mojom_files.specs.declared.basic.Basic.{Basic}
use Rattle.mojom_files.specs.declared.basic.Basic.TheVariants as basics
use Rattle.mojom_files.specs.Causes.{FloatField, BadMapKey, NullableKey, BadNullable, ZeroLengthArray}
use Rattle.mojom_files.specs.declared.refusal.Refusal.{Refusal}
use Rattle.mojom_files.specs.Refusals.{where_true}
use Rattle.module_resolver.specs.declared.target.DefinitionSort.{DefinitionSort}
use Rattle.module_resolver.specs.declared.target.DefinitionSort.TheVariants as sorts
use Rattle.module_resolver.specs.LookUp.{sort_of}
use Rattle.kind_scope.specs.declared.meant.Meant.{Meant}
use Rattle.kind_scope.specs.declared.meant.Meant.TheVariants as meant
use Rattle.kind_scope.specs.Scopes.{Scope, meant_in, refused}
use Rattle.kind_scope.specs.Members.{Member}

-- the basic kinds float and double
abbrev pub is_float_basic : Basic → Bool
is_float_basic basics.Float = true
is_float_basic basics.Double = true
is_float_basic _ = false

-- the basic kind string
abbrev pub is_text_basic : Basic → Bool
is_text_basic basics.Text = true
is_text_basic _ = false

-- bool or an integer
abbrev pub is_number_basic : Basic → Bool
is_number_basic basic = not (is_float_basic basic || is_text_basic basic)

-- what is defined is an enum
abbrev pub is_enum : Option DefinitionSort → Bool
is_enum (Some sorts.Enum) = true
is_enum _ = false

-- what is defined is a struct or a union
abbrev pub is_struct_or_union : Option DefinitionSort → Bool
is_struct_or_union (Some sorts.Struct) = true
is_struct_or_union (Some sorts.Union) = true
is_struct_or_union _ = false

-- float or double
abbrev pub is_float : Option Meant → Bool
is_float (Some (meant.Basic basic)) = is_float_basic basic
is_float _ = false

-- string
abbrev pub is_text : Option Meant → Bool
is_text (Some (meant.Basic basic)) = is_text_basic basic
is_text _ = false

-- bool, an integer or an enum
abbrev pub is_number : Scope → Option Meant → Bool
is_number scope None = false
is_number scope (Some (meant.Basic basic)) = is_number_basic basic
is_number scope (Some (meant.Target target)) = is_enum (sort_of scope.names target)

-- string, a struct or a union
abbrev pub is_object : Scope → Option Meant → Bool
is_object scope None = false
is_object scope (Some (meant.Basic basic)) = is_text_basic basic
is_object scope (Some (meant.Target target)) = is_struct_or_union (sort_of scope.names target)

-- bool, an integer, an enum or string
abbrev pub is_key : Scope → BaseTree → Bool
is_key scope (Named name) = is_number scope (meant_in scope name.parts) || is_text (meant_in scope name.parts)
is_key scope _ = false

-- the length 0 is written
abbrev pub is_zero : Option Number → Bool
is_zero None = false
is_zero (Some count) = count.value == 0

-- all refusals in a type without its `?`, which stands where it is nullable: they go by the identifier of the member or the constant.
-- A bool, an integer or an enum may be null where it is the type of a field of a struct or of a parameter; a key with `?` is refused as such.
abbrev pub refused_in_base : Scope → Identifier → (field : Bool) → BaseTree → Bool → List Refusal
refused_in_base scope member field (Named name) nullable =
    where_true (is_float (meant_in scope name.parts)) (refused scope member (FloatField member.text))
    ++ where_true (not field && (nullable && is_number scope (meant_in scope name.parts))) (refused scope member (BadNullable member.text))
refused_in_base scope member field (ArrayOf of inner count) nullable =
    where_true (is_zero count) (refused scope member (ZeroLengthArray member.text)) ++ refused_in_base scope member false of inner
refused_in_base scope member field (MapOf key of_key value of_value) nullable =
    where_true (not (is_key scope key)) (refused scope member (BadMapKey member.text))
    ++ (where_true of_key (refused scope member (NullableKey member.text))
    ++ (refused_in_base scope member true key of_key ++ refused_in_base scope member false value of_value))
refused_in_base scope member field (HandleOf sort) nullable = []
refused_in_base scope member field (PendingOf sort interface) nullable = []

-- all refusals in a type, which is that of a field of a struct or of a parameter, or else that of another member or a constant
abbrev pub refused_in_type : Scope → Identifier → (field : Bool) → TypeTree → List Refusal
refused_in_type scope member field kind = refused_in_base scope member field kind.base kind.nullable

-- all refusals in the type of a member that has one
abbrev pub refused_in_option : Scope → Identifier → (field : Bool) → Option TypeTree → List Refusal
refused_in_option scope member field None = []
refused_in_option scope member field (Some kind) = refused_in_type scope member field kind

-- all refusals in the type of a member, by the member's identifier
abbrev pub refused_in_member : Scope → (field : Bool) → Member → List Refusal
refused_in_member scope field member = refused_in_option scope member.name field member.kind
