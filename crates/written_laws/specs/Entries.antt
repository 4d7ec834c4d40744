-- What is written in the lists of definitions: the fields of a struct or a union, the methods of an interface, and parameters.
use Rattle.std.specs.Prelude.{ℕ, ◌+◌, ◌≡◌, Bool, List, [], ◌∷◌, map, slice_get, Option, Some, None}
use Rattle.std.specs.List.{flat_map, list_any, AllByRecursion}
use Rattle.std.specs.Str.{bytes_eq}
use Rattle.mojom_ast.specs.TypeTrees.{TypeTree}
use Rattle.mojom_ast.specs.declared.names.Number.{Number}
use Rattle.mojom_ast.specs.declared.names.Value.{Value}
use Rattle.mojom_ast.specs.declared.attributes.Attribute.{Attribute}
use Rattle.mojom_ast.specs.declared.definitions.DefinitionItem.{DefinitionItem}
use Rattle.mojom_ast.specs.declared.definitions.DefinitionItem.TheVariants as items
use Rattle.mojom_ast.specs.declared.definitions.StructMember.{StructMember}
use Rattle.mojom_ast.specs.declared.definitions.StructItem.{StructItem}
use Rattle.mojom_ast.specs.declared.definitions.StructItem.TheVariants as struct_items
use Rattle.mojom_ast.specs.declared.definitions.UnionField.{UnionField}
use Rattle.mojom_ast.specs.declared.definitions.InterfaceMember.{InterfaceMember}
use Rattle.mojom_ast.specs.declared.definitions.InterfaceItem.{InterfaceItem}
use Rattle.mojom_ast.specs.declared.definitions.InterfaceItem.TheVariants as interface_items
use Rattle.mojom_ast.specs.declared.definitions.Parameter.{Parameter}
use Rattle.mojom_files.specs.declared.named_file.NamedFile.{NamedFile}
use Rattle.mojom_files.specs.Definitions.{Defined, definitions_of}

-- one of a list: its name, the attributes before it, its type (a method has none), and its ordinal and its default where they are written
pub record Entry : Type 0 where
  pub name : List ℕ
  pub attributes : List Attribute
  pub kind : Option TypeTree
  pub ordinal : Option Number
  pub default : Option Value

-- a field of a struct; constants and enums in a struct are none
abbrev pub field_entry : List Attribute → StructItem → List Entry
field_entry attributes (struct_items.Field f) =
    record { name = f.name.text; attributes = attributes; kind = Some f.kind; ordinal = f.ordinal; default = f.default } ∷ []
field_entry attributes (struct_items.Const c) = []
field_entry attributes (struct_items.Enum e) = []

-- the fields of a struct, as the file has them
abbrev pub fields_of : List StructMember → List Entry
fields_of members = flat_map (λ (m : StructMember). field_entry m.attributes m.item) members

-- a field of a union
abbrev pub union_entry : UnionField → Entry
union_entry f = record { name = f.name.text; attributes = f.attributes; kind = Some f.kind; ordinal = f.ordinal; default = None }

-- the fields of a union, as the file has them
abbrev pub union_fields_of : List UnionField → List Entry
union_fields_of fields = map union_entry fields

-- a parameter
abbrev pub parameter_entry : Parameter → Entry
parameter_entry p = record { name = p.name.text; attributes = p.attributes; kind = Some p.kind; ordinal = p.ordinal; default = None }

-- the parameters of one list, as the file has them
abbrev pub parameters_of : List Parameter → List Entry
parameters_of parameters = map parameter_entry parameters

-- a method; constants and enums in an interface are none
abbrev pub method_entry : List Attribute → InterfaceItem → List Entry
method_entry attributes (interface_items.Method m) =
    record { name = m.name.text; attributes = attributes; kind = None; ordinal = m.ordinal; default = None } ∷ []
method_entry attributes (interface_items.Const c) = []
method_entry attributes (interface_items.Enum e) = []

-- the methods of an interface, as the file has them
abbrev pub methods_of : List InterfaceMember → List Entry
methods_of members = flat_map (λ (m : InterfaceMember). method_entry m.attributes m.item) members

-- the parameters of a response, where there is one
abbrev pub response_list : Option (List Parameter) → List (List Entry)
response_list None = []
response_list (Some parameters) = parameters_of parameters ∷ []

-- the parameters of a method's request, and those of its response
abbrev pub parameter_lists : InterfaceItem → List (List Entry)
parameter_lists (interface_items.Method m) = parameters_of m.request ∷ response_list m.response
parameter_lists (interface_items.Const c) = []
parameter_lists (interface_items.Enum e) = []

-- lists that stand for structs: the fields of a struct, and each list of parameters
abbrev pub struct_lists : DefinitionItem → List (List Entry)
struct_lists (items.Struct item) = fields_of item.members ∷ []
struct_lists (items.Interface item) = flat_map (λ (m : InterfaceMember). parameter_lists m.item) item.members
struct_lists (items.Union item) = []
struct_lists (items.Enum item) = []
struct_lists (items.Const item) = []

-- lists that stand for choices: the fields of a union, and the methods of an interface
abbrev pub choice_lists : DefinitionItem → List (List Entry)
choice_lists (items.Union item) = union_fields_of item.fields ∷ []
choice_lists (items.Interface item) = methods_of item.members ∷ []
choice_lists (items.Struct item) = []
choice_lists (items.Enum item) = []
choice_lists (items.Const item) = []

-- one of a list and its ordinal
pub record Counted : Type 0 where
  pub entry : Entry
  pub ordinal : ℕ

-- the ordinal that is written, or else the next one
abbrev pub ordinal_of : ℕ → Option Number → ℕ
ordinal_of next None = next
ordinal_of next (Some written) = written.value

-- those of a list with their ordinals, where the first has this one if none is written, and each other the one after that of the one before
abbrev pub counted_from : ℕ → List Entry → List Counted
counted_from next [] = []
counted_from next (e ∷ es) =
    record { entry = e; ordinal = ordinal_of next e.ordinal } ∷ counted_from (ordinal_of next e.ordinal + 1) es

-- those of a list with their ordinals; the first has 0 if none is written
abbrev pub counted : List Entry → List Counted
counted entries = counted_from 0 entries

-- an attribute of this name stands there, whatever its value
abbrev pub has_mark : List ℕ → List Attribute → Bool
has_mark name attributes = list_any (λ (a : Attribute). bytes_eq a.name.text name) attributes

-- none of these stands at two places
abbrev pub AreApart : {A : Type 0} → List A → Type 0
AreApart {A} ones = (place other : ℕ) (one : A) → slice_get ones place ≡ Some one → slice_get ones other ≡ Some one → place ≡ other

-- it holds of each definition of the files
abbrev pub OfEach : List NamedFile → (DefinitionItem → Type 0) → Type 0
OfEach files Holds =
    (file : ℕ) (tree : NamedFile) → slice_get files file ≡ Some tree → AllByRecursion (λ (d : Defined). Holds d.item) (definitions_of tree.tree)
