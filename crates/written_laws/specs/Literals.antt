-- That constants have the values that are written, and that these fit their kinds.
use Rattle.std.specs.Prelude.{ℕ, ◌≡◌, List, [], ◌∷◌}
use Rattle.std.specs.List.{flat_map}
use Rattle.mojom_ast.specs.declared.definitions.Const.{Const}
use Rattle.mojom_ast.specs.declared.definitions.DefinitionItem.{DefinitionItem}
use Rattle.mojom_ast.specs.declared.definitions.DefinitionItem.TheVariants as items
use Rattle.mojom_files.specs.Definitions.{Defined}
use Rattle.module_resolver.specs.declared.file_names.FileNames.{FileNames}
use Rattle.const_eval.specs.declared.consts.Consts.{Consts}
use Rattle.mj_schema.specs.declared.rows.ConstRow.{ConstRow}
use Rattle.draft_rows.specs.declared.counts.FileRows.{FileRows}
use Rattle.draft_rows.specs.declared.draft.Draft.{Draft}
use Rattle.written_laws.specs.Values.{Site, IsValue, known_of}
use Rattle.written_laws.specs.Kinds.{IsAsWritten}
use Rattle.written_laws.specs.Fits.{Fits}
use Rattle.written_laws.specs.Rows.{ArePaired, Placed}

-- what a constant is written as: where it stands, its full name, and the constant
pub record ConstText : Type 0 where
  pub site : Site
  pub full : List ℕ
  pub constant : Const

-- the row of a constant has its kind and the very value that is written or meant, which fits the kind
pub record IsConst (rows : List FileRows) (text : ConstText) (row : ConstRow) : Type 0 where
  pub name : row.name ≡ text.full
  pub kind : IsAsWritten rows text.site text.constant.kind.base text.constant.kind.nullable row.kind
  pub value : IsValue text.site text.constant.value (known_of row.value)
  pub fits : Fits row.kind row.value

-- a constant encloses nothing: what stands in it is looked up from outside
abbrev pub const_texts : List FileNames → Consts → ℕ → Defined → DefinitionItem → List ConstText
const_texts names consts file d (items.Const item) =
    record { site = record { names = names; consts = consts; file = file; enclosing = d.enclosing }; full = d.full; constant = item } ∷ []
const_texts names consts file d (items.Struct item) = []
const_texts names consts file d (items.Union item) = []
const_texts names consts file d (items.Enum item) = []
const_texts names consts file d (items.Interface item) = []

-- the table of constants has those of these definitions, where so many rows stand before definitions, and no others
abbrev pub AreConstants : List FileRows → List FileNames → Consts → List Placed → Draft → Type 0
AreConstants rows names consts ones draft =
    ArePaired (IsConst rows) (flat_map (λ (p : Placed). const_texts names consts p.file p.definition p.definition.item) ones) draft.consts
