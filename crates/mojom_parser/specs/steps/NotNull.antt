-- What stands in lists is never nothing.
use Rattle.std.specs.Prelude.{◌≡◌, false, refl}
use Rattle.mj_base.specs.declared.limits.TheConstants.{MAX_NESTED_TYPES}
use Rattle.mojom_ast.specs.Grammar.{identifier, dotted, attribute, bracketed, attributes, const_of, enumerator, enum_of, field, struct_item, struct_member, struct_of, union_field, union_of, next_parameter, method, interface_item, interface_member, interface_of, definition_item, definition}

-- a name is never nothing
pub dotted_not_null : dotted.null ≡ false
unfolding dotted
dotted_not_null = refl

-- nor is an attribute
pub attribute_not_null : attribute.null ≡ false
unfolding attribute identifier
attribute_not_null = refl

-- nor an enumerator
pub enumerator_not_null : enumerator.null ≡ false
unfolding enumerator attributes bracketed identifier
enumerator_not_null = refl

-- nor a member of a struct
pub struct_member_not_null : (struct_member MAX_NESTED_TYPES).null ≡ false
unfolding struct_member attributes bracketed struct_item const_of enum_of field
struct_member_not_null = refl

-- nor a field of a union
pub union_field_not_null : (union_field MAX_NESTED_TYPES).null ≡ false
unfolding union_field attributes bracketed
union_field_not_null = refl

-- nor a parameter behind another
pub next_parameter_not_null : (next_parameter MAX_NESTED_TYPES).null ≡ false
unfolding next_parameter
next_parameter_not_null = refl

-- nor a member of an interface
pub interface_member_not_null : (interface_member MAX_NESTED_TYPES).null ≡ false
unfolding interface_member attributes bracketed interface_item const_of enum_of method identifier
interface_member_not_null = refl

-- nor a definition
pub definition_not_null : (definition MAX_NESTED_TYPES).null ≡ false
unfolding definition attributes bracketed definition_item struct_of union_of enum_of interface_of const_of
definition_not_null = refl
