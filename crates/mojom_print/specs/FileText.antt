-- The canonical text of a file: one statement a line, what stands in a definition two blanks further in, attributes
-- on a line of their own before what they belong to, no blank lines and no comments.
use Rattle.std.specs.Prelude.{ℕ, List, [], ◌++◌, codes, Option, Some, None}
use Rattle.std.specs.List.{flat_map}
use Rattle.mojom_ast.specs.declared.definitions.Definition.{Definition}
use Rattle.mojom_ast.specs.declared.definitions.DefinitionItem.{DefinitionItem}
use Rattle.mojom_ast.specs.declared.definitions.DefinitionItem.TheVariants as items
use Rattle.mojom_ast.specs.declared.file.File.{File}
use Rattle.mojom_ast.specs.declared.file.Import.{Import}
use Rattle.mojom_ast.specs.declared.file.ModuleStatement.{ModuleStatement}
use Rattle.mojom_print.specs.Words.{name_text, string_text}
use Rattle.mojom_print.specs.Attributes.{attribute_line}
use Rattle.mojom_print.specs.Definitions.{const_text, enum_text, struct_text, union_text}
use Rattle.mojom_print.specs.Interfaces.{interface_text}

-- module a.b;
abbrev pub module_text : Option ModuleStatement → List ℕ
module_text None = []
module_text (Some m) = attribute_line 0 m.attributes ++ (codes "module " ++ (name_text m.name ++ codes ";\n"))

-- import "p";
unfoldable pub import_text : Import → List ℕ
import_text i = attribute_line 0 i.attributes ++ (codes "import " ++ (string_text i.path.bytes ++ codes ";\n"))

-- a struct, a union, an enum, an interface or a constant
abbrev pub definition_item_text : DefinitionItem → List ℕ
definition_item_text (items.Struct s) = struct_text s
definition_item_text (items.Union u) = union_text u
definition_item_text (items.Enum e) = enum_text 0 e
definition_item_text (items.Interface i) = interface_text i
definition_item_text (items.Const c) = const_text 0 c

-- a definition, behind its attributes
abbrev pub definition_text : Definition → List ℕ
definition_text d = attribute_line 0 d.attributes ++ definition_item_text d.item

-- the module statement, the imports and the definitions, in order
unfoldable pub file_text : File → List ℕ
file_text f = module_text f.module_statement ++ (flat_map import_text f.imports ++ flat_map definition_text f.definitions)
