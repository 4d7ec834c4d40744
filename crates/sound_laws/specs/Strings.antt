-- Strings in the trees of files.
use Rattle.std.specs.Prelude.{IsUtf8, Option, Some, None}
use Rattle.std.specs.List.{AllByRecursion}
use Rattle.mojom_ast.specs.declared.definitions.DefinitionItem.{DefinitionItem}
use Rattle.mojom_ast.specs.declared.definitions.DefinitionItem.TheVariants as items
use Rattle.mojom_ast.specs.declared.definitions.Enum.{Enum}
use Rattle.mojom_ast.specs.declared.definitions.Enumerator.{Enumerator}
use Rattle.mojom_ast.specs.declared.definitions.StructItem.{StructItem}
use Rattle.mojom_ast.specs.declared.definitions.StructItem.TheVariants as struct_items
use Rattle.mojom_ast.specs.declared.definitions.StructMember.{StructMember}
use Rattle.mojom_ast.specs.declared.names.Value.{Value}
use Rattle.mojom_ast.specs.declared.names.Value.TheVariants as values
use Rattle.mojom_files.specs.Definitions.{Defined, definitions_of}
use Rattle.mojom_files.specs.declared.named_file.NamedFile.{NamedFile}

-- a value that is a string is UTF-8
abbrev pub ValueText : Value → Type 0
ValueText (values.String written) = IsUtf8 written.bytes
ValueText (values.Bool value span) = Unit {0}
ValueText (values.Number negative magnitude span) = Unit {0}
ValueText (values.Name name) = Unit {0}

-- so is one that may be left out
abbrev pub OptionText : Option Value → Type 0
OptionText None = Unit {0}
OptionText (Some value) = ValueText value

-- so are those of an enum
abbrev pub EnumText : Enum → Type 0
EnumText e = AllByRecursion (λ (x : Enumerator). OptionText x.value) e.enumerators

-- so are those of a member of a struct
abbrev pub MemberText : StructItem → Type 0
MemberText (struct_items.Const c) = ValueText c.value
MemberText (struct_items.Enum e) = EnumText e
MemberText (struct_items.Field f) = OptionText f.default

-- so are those of a definition; methods and unions have none
abbrev pub ItemText : DefinitionItem → Type 0
ItemText (items.Struct s) = AllByRecursion (λ (m : StructMember). MemberText m.item) s.members
ItemText (items.Union u) = Unit {0}
ItemText (items.Enum e) = EnumText e
ItemText (items.Interface i) = Unit {0}
ItemText (items.Const c) = ValueText c.value

-- so are those of a definition where it stands
abbrev pub DefinedText : Defined → Type 0
DefinedText d = ItemText d.item

-- the strings that are values in a file are UTF-8
abbrev pub FileText : NamedFile → Type 0
FileText file = AllByRecursion DefinedText (definitions_of file.tree)
