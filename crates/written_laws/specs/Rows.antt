-- That the rows of tables are as they are written.
use Rattle.std.specs.Prelude.{ℕ, ◌≡◌, ◌<◌, ◌⊎◌, Bool, true, false, codes, List, [], ◌∷◌, ◌++◌, map, length, slice_get, Option, Some, None, is_some}
use Rattle.std.specs.List.{flat_map, AllByRecursion}
use Rattle.std.specs.Option.{option_map_or}
use Rattle.mojom_ast.specs.declared.attributes.Attribute.{Attribute}
use Rattle.mojom_ast.specs.declared.definitions.DefinitionItem.{DefinitionItem}
use Rattle.mojom_ast.specs.declared.definitions.DefinitionItem.TheVariants as items
use Rattle.mojom_ast.specs.declared.definitions.InterfaceMember.{InterfaceMember}
use Rattle.mojom_ast.specs.declared.definitions.InterfaceItem.{InterfaceItem}
use Rattle.mojom_ast.specs.declared.definitions.InterfaceItem.TheVariants as interface_items
use Rattle.mojom_ast.specs.declared.definitions.Parameter.{Parameter}
use Rattle.mojom_files.specs.declared.named_file.NamedFile.{NamedFile}
use Rattle.mj_base.specs.Names.{within}
use Rattle.mojom_files.specs.Definitions.{Defined, definitions_of}
use Rattle.module_resolver.specs.declared.file_names.FileNames.{FileNames}
use Rattle.const_eval.specs.declared.consts.Consts.{Consts}
use Rattle.mj_schema.specs.declared.rows.DraftField.{DraftField}
use Rattle.mj_schema.specs.declared.rows.DraftStruct.{DraftStruct}
use Rattle.mj_schema.specs.declared.rows.UnionFieldRow.{UnionFieldRow}
use Rattle.mj_schema.specs.declared.rows.UnionRow.{UnionRow}
use Rattle.mj_schema.specs.declared.rows.MethodRow.{MethodRow}
use Rattle.mj_schema.specs.declared.rows.InterfaceRow.{InterfaceRow}
use Rattle.draft_rows.specs.declared.counts.FileRows.{FileRows}
use Rattle.draft_rows.specs.declared.draft.Draft.{Draft}
use Rattle.written_laws.specs.Entries.{Entry, Counted, counted, has_mark, fields_of, union_fields_of, parameters_of, methods_of}
use Rattle.written_laws.specs.Values.{Site, version_in, IsVersion, IsDefault}
use Rattle.mj_schema.specs.Sound.{may_be_null, is_plain}
use Rattle.mj_schema.specs.Versions.{greatest}
use Rattle.written_laws.specs.Kinds.{IsKind}
use Rattle.written_laws.specs.Fits.{is_basic, FitsDefault}
use Rattle.written_laws.specs.Defaults.{is_enum, HasEnumerator}

-- as many of one as of the other, and each as its own
abbrev pub ArePaired : {A B : Type 0} → (A → B → Type 0) → List A → List B → Type 0
ArePaired Fits [] [] = Unit {0}
ArePaired Fits (one ∷ ones) (other ∷ others) = Fits one other × ArePaired Fits ones others
ArePaired Fits _ _ = ⊥

-- structs

-- a field of a struct or a parameter: its name, its kind, its default, and since which version it is there; of a later version it is
-- plain or may be null, and a bool, an integer or an enum that may be null has no default
pub record IsField (rows : List FileRows) (site : Site) (entry : Entry) (field : DraftField) : Type 0 where
  pub name : field.name ≡ entry.name
  pub kind : IsKind rows site entry.kind field.kind
  pub version : IsVersion site (version_in entry.attributes) field.min_version
  pub later : 0 < field.min_version → (is_plain field.kind ≡ true) ⊎ (may_be_null field.kind ≡ true)
  pub default : IsDefault site entry.default field.default
  pub fits : is_basic field.kind ≡ true → FitsDefault field.kind field.default
  pub enumerator : is_enum field.kind ≡ true → HasEnumerator site entry.kind entry.default
  pub without : is_plain field.kind ≡ true → may_be_null field.kind ≡ true → entry.default ≡ None

-- the field stands in the row at its ordinal
pub record HasField (rows : List FileRows) (site : Site) (row : DraftStruct) (one : Counted) : Type 0 where
  pub field : DraftField
  pub there : slice_get row.fields one.ordinal ≡ Some field
  pub is : IsField rows site one.entry field

-- what a struct is written as: where, its full name, its fields or parameters, and whether `[Stable]` stands before it
pub record StructText : Type 0 where
  pub site : Site
  pub full : List ℕ
  pub entries : List Entry
  pub stable : Bool

-- the row of a struct has as many fields as are written, each at its ordinal, and is stable where it is written so
pub record IsStruct (rows : List FileRows) (text : StructText) (row : DraftStruct) : Type 0 where
  pub name : row.name ≡ text.full
  pub count : length row.fields ≡ length text.entries
  pub fields : AllByRecursion (HasField rows text.site row) (counted text.entries)
  pub stable : row.stable ≡ text.stable

-- unions

-- a field of a union: its name, its tag, which is its ordinal, and its kind
pub record IsUnionField (rows : List FileRows) (site : Site) (one : Counted) (field : UnionFieldRow) : Type 0 where
  pub name : field.name ≡ one.entry.name
  pub tag : field.tag ≡ one.ordinal
  pub kind : IsKind rows site one.entry.kind field.kind

-- what a union is written as: where, its full name, the attributes before it, and its fields
pub record UnionText : Type 0 where
  pub site : Site
  pub full : List ℕ
  pub attributes : List Attribute
  pub entries : List Entry

-- the row of a union has its fields, and is extensible where `[Extensible]` stands, stable where `[Stable]` stands
pub record IsUnion (rows : List FileRows) (text : UnionText) (row : UnionRow) : Type 0 where
  pub name : row.name ≡ text.full
  pub extensible : row.extensible ≡ has_mark (codes "Extensible") text.attributes
  pub fields : ArePaired (IsUnionField rows text.site) (counted text.entries) row.fields
  pub stable : row.stable ≡ has_mark (codes "Stable") text.attributes

-- interfaces

-- a method: its name and its ordinal
pub record IsMethod (one : Counted) (method : MethodRow) : Type 0 where
  pub name : method.name ≡ one.entry.name
  pub ordinal : method.ordinal ≡ one.ordinal

-- whether a method has a response
abbrev pub reply_of : InterfaceItem → List Bool
reply_of (interface_items.Method m) = is_some m.response ∷ []
reply_of (interface_items.Const c) = []
reply_of (interface_items.Enum e) = []

-- the attributes before a method, and before each of its parameters, those of its response among them
abbrev pub marks_of : List Attribute → InterfaceItem → List (List Attribute)
marks_of attributes (interface_items.Method m) =
    attributes
    ∷ (map (λ (p : Parameter). p.attributes) m.request ++ map (λ (p : Parameter). p.attributes) (option_map_or (λ (ps : List Parameter). ps) m.response []))
marks_of attributes (interface_items.Const c) = []
marks_of attributes (interface_items.Enum e) = []

-- what an interface is written as: where, its full name, its methods, which of them have responses, the attributes before each method
-- and parameter, and whether `[Stable]` stands before it
pub record InterfaceText : Type 0 where
  pub site : Site
  pub full : List ℕ
  pub entries : List Entry
  pub replies : List Bool
  pub marks : List (List Attribute)
  pub stable : Bool

-- the greatest of the versions that are written among lists of attributes, 0 where there is none
pub record IsLatest (site : Site) (marks : List (List Attribute)) (version : ℕ) : Type 0 where
  pub versions : List ℕ
  pub written : ArePaired (λ (attributes : List Attribute) (since : ℕ). IsVersion site (version_in attributes) since) marks versions
  pub is : version ≡ greatest versions

-- the row of an interface has its methods, its version is the greatest since which one of them or of their parameters is there, and it is
-- stable where it is written so
pub record IsInterface (text : InterfaceText) (row : InterfaceRow) : Type 0 where
  pub name : row.name ≡ text.full
  pub methods : ArePaired IsMethod (counted text.entries) row.methods
  pub replies : map (λ (method : MethodRow). is_some method.response) row.methods ≡ text.replies
  pub version : IsLatest text.site text.marks row.version
  pub stable : row.stable ≡ text.stable

-- files

-- a definition in the file of this number
pub record Placed : Type 0 where
  pub file : ℕ
  pub definition : Defined

-- the definitions of the file of this number, where it is there
abbrev pub placed_in : List NamedFile → ℕ → List Placed
placed_in files file =
    option_map_or (λ (tree : NamedFile). map (λ (d : Defined). record { file = file; definition = d }) (definitions_of tree.tree)) (slice_get files file) []

-- the definitions of files in their order
abbrev pub all_placed : List NamedFile → List ℕ → List Placed
all_placed files order = flat_map (placed_in files) order

-- inside a definition of the file of this number
abbrev pub site_in : List FileNames → Consts → ℕ → List ℕ → Site
site_in names consts file full = record { names = names; consts = consts; file = file; enclosing = Some full }

-- a struct of this full name and these entries, stable or not
abbrev pub struct_text : Site → List ℕ → List Entry → Bool → StructText
struct_text site full entries stable = record { site = site; full = full; entries = entries; stable = stable }

-- the response of the method of this full name, where it has one
abbrev pub response_texts : Site → List ℕ → Option (List Parameter) → List StructText
response_texts site full None = []
response_texts site full (Some parameters) = struct_text site (within full (codes "response")) (parameters_of parameters) false ∷ []

-- the request of a method of the interface of this full name, and its response
abbrev pub method_texts : Site → List ℕ → InterfaceItem → List StructText
method_texts site full (interface_items.Method m) =
    struct_text site (within (within full m.name.text) (codes "request")) (parameters_of m.request) false
    ∷ response_texts site (within full m.name.text) m.response
method_texts site full (interface_items.Const c) = []
method_texts site full (interface_items.Enum e) = []

-- the structs of a definition
abbrev pub struct_texts : Site → List ℕ → List Attribute → DefinitionItem → List StructText
struct_texts site full attributes (items.Struct item) = struct_text site full (fields_of item.members) (has_mark (codes "Stable") attributes) ∷ []
struct_texts site full attributes (items.Interface item) = flat_map (λ (m : InterfaceMember). method_texts site full m.item) item.members
struct_texts site full attributes (items.Union item) = []
struct_texts site full attributes (items.Enum item) = []
struct_texts site full attributes (items.Const item) = []

-- the union that a definition is, where it is one
abbrev pub union_texts : Site → List ℕ → List Attribute → DefinitionItem → List UnionText
union_texts site full attributes (items.Union item) = record { site = site; full = full; attributes = attributes; entries = union_fields_of item.fields } ∷ []
union_texts site full attributes (items.Struct item) = []
union_texts site full attributes (items.Interface item) = []
union_texts site full attributes (items.Enum item) = []
union_texts site full attributes (items.Const item) = []

-- the interface that a definition is, where it is one
abbrev pub interface_texts : Site → List ℕ → List Attribute → DefinitionItem → List InterfaceText
interface_texts site full attributes (items.Interface item) =
    record {
      site = site;
      full = full;
      entries = methods_of item.members;
      replies = flat_map (λ (m : InterfaceMember). reply_of m.item) item.members;
      marks = flat_map (λ (m : InterfaceMember). marks_of m.attributes m.item) item.members;
      stable = has_mark (codes "Stable") attributes;
    }
    ∷ []
interface_texts site full attributes (items.Struct item) = []
interface_texts site full attributes (items.Union item) = []
interface_texts site full attributes (items.Enum item) = []
interface_texts site full attributes (items.Const item) = []

-- the tables of definitions have their structs, unions and interfaces as they are written, where so many rows stand before definitions,
-- and no others
pub record AreAsWritten (rows : List FileRows) (names : List FileNames) (consts : Consts) (ones : List Placed) (draft : Draft) : Type 0 where
  pub structs :
      ArePaired (IsStruct rows)
      (flat_map (λ (p : Placed).
      struct_texts (site_in names consts p.file p.definition.full) p.definition.full p.definition.attributes p.definition.item) ones) draft.structs
  pub unions :
      ArePaired (IsUnion rows)
      (flat_map (λ (p : Placed).
      union_texts (site_in names consts p.file p.definition.full) p.definition.full p.definition.attributes p.definition.item) ones) draft.unions
  pub interfaces :
      ArePaired IsInterface
      (flat_map (λ (p : Placed).
      interface_texts (site_in names consts p.file p.definition.full) p.definition.full p.definition.attributes p.definition.item) ones) draft.interfaces
