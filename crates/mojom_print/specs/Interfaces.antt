-- The lines of interfaces.
use Rattle.std.specs.Prelude.{ℕ, List, [], ◌++◌, codes, Option, Some, None}
use Rattle.std.specs.List.{flat_map, join_by}
use Rattle.mojom_ast.specs.declared.definitions.Parameter.{Parameter}
use Rattle.mojom_ast.specs.declared.definitions.Method.{Method}
use Rattle.mojom_ast.specs.declared.definitions.Interface.{Interface}
use Rattle.mojom_ast.specs.declared.definitions.InterfaceMember.{InterfaceMember}
use Rattle.mojom_ast.specs.declared.definitions.InterfaceItem.{InterfaceItem}
use Rattle.mojom_ast.specs.declared.definitions.InterfaceItem.TheVariants as items
use Rattle.mojom_print.specs.Words.{ordinal_text}
use Rattle.mojom_print.specs.Attributes.{attribute_line, attributes_before}
use Rattle.mojom_print.specs.Types.{declared_text}
use Rattle.mojom_print.specs.Definitions.{const_text, enum_text}

-- [A] T a@0
unfoldable pub parameter_text : Parameter → List ℕ
parameter_text p = attributes_before p.attributes ++ (declared_text p.kind p.name ++ ordinal_text p.ordinal)

-- (T a, T b)
unfoldable pub parameters_text : List Parameter → List ℕ
parameters_text ps = codes "(" ++ (join_by parameter_text (codes ", ") ps ++ codes ")")

-- => (T c), where there is a response
abbrev pub response_text : Option (List Parameter) → List ℕ
response_text None = []
response_text (Some ps) = codes " => " ++ parameters_text ps

-- m@n(T a, T b) => (T c);
unfoldable pub method_text : Method → List ℕ
method_text m = codes "  " ++ (m.name.text ++ (ordinal_text m.ordinal ++ (parameters_text m.request ++ (response_text m.response ++ codes ";\n"))))

-- a constant, an enum or a method of an interface
abbrev pub interface_item_text : InterfaceItem → List ℕ
interface_item_text (items.Const c) = const_text 1 c
interface_item_text (items.Enum e) = enum_text 1 e
interface_item_text (items.Method m) = method_text m

-- a member of an interface, behind its attributes
abbrev pub interface_member_text : InterfaceMember → List ℕ
interface_member_text m = attribute_line 1 m.attributes ++ interface_item_text m.item

-- interface I { and its members, and };
unfoldable pub interface_text : Interface → List ℕ
interface_text i = codes "interface " ++ (i.name.text ++ (codes " {\n" ++ (flat_map interface_member_text i.members ++ codes "};\n")))
