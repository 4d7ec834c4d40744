-- That the rows of enums and constants are as they are written.
use Rattle.std.specs.Prelude.{ℕ, ℤ, pos, ◌+ℤ◌, ◌≡◌, if◌then◌else◌, codes, List, [], ◌∷◌, Option, Some, None}
use Rattle.std.specs.List.{flat_map}
use Rattle.mojom_ast.specs.declared.names.Value.{Value}
use Rattle.mojom_ast.specs.declared.attributes.Attribute.{Attribute}
use Rattle.mojom_ast.specs.declared.definitions.DefinitionItem.{DefinitionItem}
use Rattle.mojom_ast.specs.declared.definitions.DefinitionItem.TheVariants as items
use Rattle.mojom_ast.specs.declared.definitions.Enumerator.{Enumerator}
use Rattle.module_resolver.specs.declared.file_names.FileNames.{FileNames}
use Rattle.const_eval.specs.declared.consts.Consts.{Consts}
use Rattle.const_meanings.specs.Known.{NumberValue}
use Rattle.mj_schema.specs.declared.rows.MemberRow.{MemberRow}
use Rattle.mj_schema.specs.declared.rows.EnumRow.{EnumRow}
use Rattle.draft_rows.specs.declared.draft.Draft.{Draft}
use Rattle.written_laws.specs.Entries.{has_mark}
use Rattle.written_laws.specs.Values.{Site, IsValue}
use Rattle.written_laws.specs.Rows.{ArePaired, Placed, site_in}

-- the number of an enumerator: the very number that is written or meant, and where none is written this one
abbrev pub IsNumber : Site → ℤ → Option Value → ℤ → Type 0
IsNumber site next None number = number ≡ next
IsNumber site next (Some value) number = IsValue site value (NumberValue number)

-- enumerators have these rows, where the first has this number if none is written: each other has the one after that of the one before
abbrev pub AreMembers : Site → ℤ → List Enumerator → List MemberRow → Type 0
AreMembers site next [] [] = Unit {0}
AreMembers site next (e ∷ es) (row ∷ rows) =
    (row.name ≡ e.name.text) × (IsNumber site next e.value row.number × AreMembers site (row.number +ℤ pos 1) es rows)
AreMembers site next _ _ = ⊥

-- the number of the first enumerator with `[Default]`, where enumerators have these rows
abbrev pub default_of : List Enumerator → List MemberRow → Option ℤ
default_of (e ∷ es) (row ∷ rows) = if has_mark (codes "Default") e.attributes then Some row.number else default_of es rows
default_of _ _ = None

-- what an enum is written as: where its enumerators stand, its full name, the attributes before it, and its enumerators
pub record EnumText : Type 0 where
  pub site : Site
  pub full : List ℕ
  pub attributes : List Attribute
  pub enumerators : List Enumerator

-- the row of an enum has its enumerators, the first of which is 0 if no number is written; it is extensible where `[Extensible]` stands,
-- its default is the first enumerator with `[Default]`, and it is stable where `[Stable]` stands
pub record IsEnum (text : EnumText) (row : EnumRow) : Type 0 where
  pub name : row.name ≡ text.full
  pub extensible : row.extensible ≡ has_mark (codes "Extensible") text.attributes
  pub members : AreMembers text.site (pos 0) text.enumerators row.members
  pub default : row.default ≡ default_of text.enumerators row.members
  pub stable : row.stable ≡ has_mark (codes "Stable") text.attributes

-- the enum that a definition is, where it is one
abbrev pub enum_texts : Site → List ℕ → List Attribute → DefinitionItem → List EnumText
enum_texts site full attributes (items.Enum item) =
    record { site = site; full = full; attributes = attributes; enumerators = item.enumerators } ∷ []
enum_texts site full attributes (items.Struct item) = []
enum_texts site full attributes (items.Union item) = []
enum_texts site full attributes (items.Interface item) = []
enum_texts site full attributes (items.Const item) = []

-- the table of enums has those of these definitions, and no others
abbrev pub AreEnums : List FileNames → Consts → List Placed → Draft → Type 0
AreEnums names consts ones draft =
    ArePaired IsEnum
    (flat_map (λ (p : Placed).
    enum_texts (site_in names consts p.file p.definition.full) p.definition.full p.definition.attributes p.definition.item) ones) draft.enums
