-- The lines of constants, enums, structs and unions, at a depth of definitions around.
use Rattle.std.specs.Prelude.{ℕ, List, ◌+◌, ◌++◌, codes}
use Rattle.std.specs.List.{flat_map}
use Rattle.mojom_ast.specs.declared.definitions.Const.{Const}
use Rattle.mojom_ast.specs.declared.definitions.Enum.{Enum}
use Rattle.mojom_ast.specs.declared.definitions.Enumerator.{Enumerator}
use Rattle.mojom_ast.specs.declared.definitions.Field.{Field}
use Rattle.mojom_ast.specs.declared.definitions.Struct.{Struct}
use Rattle.mojom_ast.specs.declared.definitions.StructMember.{StructMember}
use Rattle.mojom_ast.specs.declared.definitions.StructItem.{StructItem}
use Rattle.mojom_ast.specs.declared.definitions.StructItem.TheVariants as items
use Rattle.mojom_ast.specs.declared.definitions.Union.{Union}
use Rattle.mojom_ast.specs.declared.definitions.UnionField.{UnionField}
use Rattle.mojom_print.specs.Words.{value_text, ordinal_text, assigned_text, indent}
use Rattle.mojom_print.specs.Attributes.{attribute_line}
use Rattle.mojom_print.specs.Types.{declared_text}

-- const T N = v;
unfoldable pub const_text : ℕ → Const → List ℕ
const_text depth c = indent depth ++ (codes "const " ++ (declared_text c.kind c.name ++ (codes " = " ++ (value_text c.value ++ codes ";\n"))))

-- A = 1,
unfoldable pub enumerator_text : ℕ → Enumerator → List ℕ
enumerator_text depth e = attribute_line depth e.attributes ++ (indent depth ++ (e.name.text ++ (assigned_text e.value ++ codes ",\n")))

-- enum E { and its enumerators, two blanks further in, and };
unfoldable pub enum_text : ℕ → Enum → List ℕ
enum_text depth e =
    indent depth
    ++ (codes "enum " ++ (e.name.text ++ (codes " {\n" ++ (flat_map (enumerator_text (depth + 1)) e.enumerators ++ (indent depth ++ codes "};\n")))))

-- T name@n = v;
unfoldable pub field_text : Field → List ℕ
field_text f = codes "  " ++ (declared_text f.kind f.name ++ (ordinal_text f.ordinal ++ (assigned_text f.default ++ codes ";\n")))

-- a constant, an enum or a field of a struct
abbrev pub struct_item_text : StructItem → List ℕ
struct_item_text (items.Const c) = const_text 1 c
struct_item_text (items.Enum e) = enum_text 1 e
struct_item_text (items.Field f) = field_text f

-- a member of a struct, behind its attributes
abbrev pub struct_member_text : StructMember → List ℕ
struct_member_text m = attribute_line 1 m.attributes ++ struct_item_text m.item

-- struct S { and its members, and };
unfoldable pub struct_text : Struct → List ℕ
struct_text s = codes "struct " ++ (s.name.text ++ (codes " {\n" ++ (flat_map struct_member_text s.members ++ codes "};\n")))

-- T name@n;
unfoldable pub union_field_text : UnionField → List ℕ
union_field_text f = attribute_line 1 f.attributes ++ (codes "  " ++ (declared_text f.kind f.name ++ (ordinal_text f.ordinal ++ codes ";\n")))

-- union U { and its fields, and };
unfoldable pub union_text : Union → List ℕ
union_text u = codes "union " ++ (u.name.text ++ (codes " {\n" ++ (flat_map union_field_text u.fields ++ codes "};\n")))
