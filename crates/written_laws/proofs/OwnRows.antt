-- Each definition has its row where as many rows end as stand before it.
use Rattle.std.proofs.Common.{◌≡◌, ◌+◌, ℕ, zero, suc, List, [], ◌∷◌, ◌++◌, length, refl, ◌∙◌, ap, subst, arith}
use Rattle.std.specs.Prelude.{◌==◌, Bool, true, false, cond, find, slice_get, Some, None, option_and_then}
use Rattle.std.proofs.lemmas.Bool.{eqb-true}
use Rattle.std.proofs.lemmas.Option.{same_Some, none-some}
use Rattle.mojom_ast.specs.declared.attributes.Attribute.{Attribute}
use Rattle.mojom_ast.specs.declared.definitions.DefinitionItem.{DefinitionItem}
use Rattle.mojom_ast.specs.declared.definitions.DefinitionItem.TheVariants as items
use Rattle.mojom_files.specs.declared.named_file.NamedFile.{NamedFile}
use Rattle.mojom_files.specs.Definitions.{Defined}
use Rattle.module_resolver.specs.declared.file_names.FileNames.{FileNames}
use Rattle.module_resolver.specs.declared.file_names.Names.{Names}
use Rattle.const_eval.specs.declared.consts.Consts.{Consts}
use Rattle.mj_schema.specs.declared.rows.DraftStruct.{DraftStruct}
use Rattle.mj_schema.specs.declared.rows.UnionRow.{UnionRow}
use Rattle.mj_schema.specs.declared.rows.EnumRow.{EnumRow}
use Rattle.mj_schema.specs.declared.rows.InterfaceRow.{InterfaceRow}
use Rattle.draft_rows.specs.declared.counts.Counts.{Counts}
use Rattle.draft_rows.specs.declared.counts.FileRows.{FileRows}
use Rattle.draft_rows.specs.declared.draft.Draft.{Draft}
use Rattle.kind_scope.specs.Scopes.{Scope, around}
use Rattle.draft_rows.specs.RowCounts.{after, after_all, no_rows, counts_before, definitions_at, rows_from, rows_of, rows_before}
use Rattle.draft_rows.specs.Drafts.{join, enclosed, draft_of_item, draft_of_definition, draft_of_all, draft_from, draft_of}
use Rattle.schema_laws.proofs.Places.{at_front, at_behind}
use Rattle.schema_laws.proofs.Totals.{AreBetween, item_between, all_between}
use Rattle.written_laws.specs.RowNames.{HasName, HasOwnRow, HaveOwnRows}

-- tables, the first row of which has a number

-- the row of a number has this full name
record Stands {A : Type 0} (name : A → List ℕ) (first : ℕ) (table : List A) (full : List ℕ) (number : ℕ) : Type 0 where
  place : ℕ
  row : A
  is : number ≡ first + place
  there : slice_get table place ≡ Some row
  named : name row ≡ full

front : {A : Type 0} (name : A → List ℕ) (first : ℕ) (xs ys : List A) (full : List ℕ) (number : ℕ) → Stands name first xs full number
    → Stands name first (xs ++ ys) full number
front name first xs ys full number at =
    record { place = at.place; row = at.row; is = at.is; there = at_front xs ys at.place at.row at.there; named = at.named }

behind : {A : Type 0} (name : A → List ℕ) (first later : ℕ) (xs ys : List A) (full : List ℕ) (number : ℕ) → later ≡ first + length xs
    → Stands name later ys full number → Stands name first (xs ++ ys) full number
behind name first later xs ys full number from at = record {
  place = length xs + at.place;
  row = at.row;
  is = omega (arith, from, at.is);
  there = at_behind xs ys (length xs + at.place) at.place refl ∙ at.there;
  named = at.named;
}

abbrev struct_name : DraftStruct → List ℕ
struct_name row = row.name

abbrev union_name : UnionRow → List ℕ
union_name row = row.name

abbrev enum_name : EnumRow → List ℕ
enum_name row = row.name

abbrev interface_name : InterfaceRow → List ℕ
interface_name row = row.name

-- a definition has its row in tables before which so many rows stand
abbrev StandsIn : Counts → Draft → Counts → List ℕ → DefinitionItem → Type 0
StandsIn base draft before full (items.Struct item) = Stands struct_name base.structs draft.structs full before.structs
StandsIn base draft before full (items.Union item) = Stands union_name base.unions draft.unions full before.unions
StandsIn base draft before full (items.Enum item) = Stands enum_name base.enums draft.enums full before.enums
StandsIn base draft before full (items.Interface item) = Stands interface_name base.interfaces draft.interfaces full before.interfaces
StandsIn base draft before full (items.Const item) = Unit {0}

in_front : (base : Counts) (one two : Draft) (before : Counts) (full : List ℕ) (item : DefinitionItem) → StandsIn base one before full item
    → StandsIn base (join one two) before full item
in_front base one two before full (items.Struct item) at = front struct_name base.structs one.structs two.structs full before.structs at
in_front base one two before full (items.Union item) at = front union_name base.unions one.unions two.unions full before.unions at
in_front base one two before full (items.Enum item) at = front enum_name base.enums one.enums two.enums full before.enums at
in_front base one two before full (items.Interface item) at =
    front interface_name base.interfaces one.interfaces two.interfaces full before.interfaces at
in_front base one two before full (items.Const item) at = tt

in_behind : (have : Type 0) (base later : Counts) (one two : Draft) (before : Counts) (full : List ℕ) (item : DefinitionItem)
    → AreBetween have base one later → StandsIn later two before full item → StandsIn base (join one two) before full item
in_behind have base later one two before full (items.Struct item) between at =
    behind struct_name base.structs later.structs one.structs two.structs full before.structs between.structs at
in_behind have base later one two before full (items.Union item) between at =
    behind union_name base.unions later.unions one.unions two.unions full before.unions between.unions at
in_behind have base later one two before full (items.Enum item) between at =
    behind enum_name base.enums later.enums one.enums two.enums full before.enums between.enums at
in_behind have base later one two before full (items.Interface item) between at =
    behind interface_name base.interfaces later.interfaces one.interfaces two.interfaces full before.interfaces between.interfaces at
in_behind have base later one two before full (items.Const item) between at = tt

-- definitions

item_stands : (rows : List FileRows) (scope : Scope) (counts : Counts) (full : List ℕ) (attributes : List Attribute) (item : DefinitionItem)
    → StandsIn counts (draft_of_item rows scope counts full attributes item) counts full item
item_stands rows scope counts full attributes (items.Struct item) =
    record { place = 0; row = _; is = omega arith; there = refl; named = refl }
item_stands rows scope counts full attributes (items.Union item) =
    record { place = 0; row = _; is = omega arith; there = refl; named = refl }
item_stands rows scope counts full attributes (items.Enum item) =
    record { place = 0; row = _; is = omega arith; there = refl; named = refl }
item_stands rows scope counts full attributes (items.Interface item) =
    record { place = 0; row = _; is = omega arith; there = refl; named = refl }
item_stands rows scope counts full attributes (items.Const item) = tt

all_stand : (rows : List FileRows) (scope : Scope) (counts : Counts) (ds : List Defined) (k : ℕ) (before : Counts) (d : Defined)
    → slice_get (counts_before counts ds) k ≡ Some before → slice_get ds k ≡ Some d
    → StandsIn counts (draft_of_all rows scope counts ds) before d.full d.item
all_stand rows scope counts [] k before d at is = absurd (none-some d is)
all_stand rows scope counts (one ∷ ds) zero before d at is =
    let later = draft_of_all rows scope (after counts one.item) ds in
    let here = draft_of_definition rows scope counts one in
    let stands = in_front counts here later counts one.full one.item
    (item_stands rows (enclosed scope one.enclosing) counts one.full one.attributes one.item) in
    subst (λ (c : Counts). StandsIn counts (join here later) c d.full d.item) (same_Some counts before at)
    (subst (λ (x : Defined). StandsIn counts (join here later) counts x.full x.item) (same_Some one d is) stands)
all_stand rows scope counts (one ∷ ds) (suc k) before d at is =
    let later = draft_of_all rows scope (after counts one.item) ds in
    let here = draft_of_definition rows scope counts one in
    in_behind _ counts (after counts one.item) here later before d.full d.item
    (item_between rows (enclosed scope one.enclosing) counts one.full one.attributes one.item)
    (all_stand rows scope (after counts one.item) ds k before d at is)

-- files

module _ (rows : List FileRows) (names : List FileNames) (consts : Consts) (files : List NamedFile) where
  -- the definitions of the file of this number
  abbrev here : ℕ → List Defined
  here number = definitions_at files number

  abbrev front_of : Counts → ℕ → Draft
  front_of counts number = draft_of_all rows (around names consts number None) counts (here number)

  abbrev back_of : Counts → ℕ → List ℕ → Draft
  back_of counts number numbers = draft_from rows names consts files (after_all counts (here number)) numbers

  -- one of the first file, or of another behind it
  either : (counts : Counts) (number : ℕ) (numbers : List ℕ) (file k : ℕ) (before : Counts) (d : Defined) → slice_get (here file) k ≡ Some d
      → (b : Bool) → (number == file) ≡ b
      → option_and_then (λ (r : FileRows). slice_get r.before k)
      (cond b (Some (record { file = number; before = counts_before counts (here number) }))
      (find (λ (r : FileRows). r.file == file) (rows_from files (after_all counts (here number)) numbers))) ≡ Some before
      → (rows_before (rows_from files (after_all counts (here number)) numbers) file k ≡ Some before
      → StandsIn (after_all counts (here number)) (back_of counts number numbers) before d.full d.item)
      → StandsIn counts (join (front_of counts number) (back_of counts number numbers)) before d.full d.item
  either counts number numbers file k before d is true same at rest =
      let there : slice_get (here number) k ≡ Some d = ap (λ (n : ℕ). slice_get (here n) k) (eqb-true number file same) ∙ is in
      in_front counts (front_of counts number) (back_of counts number numbers) before d.full d.item
      (all_stand rows (around names consts number None) counts (here number) k before d at there)
  either counts number numbers file k before d is false same at rest =
      in_behind _ counts (after_all counts (here number)) (front_of counts number) (back_of counts number numbers) before d.full d.item
      (all_between rows (around names consts number None) counts (here number)) (rest at)

  files_stand : (counts : Counts) (order : List ℕ) (file k : ℕ) (before : Counts) (d : Defined)
      → rows_before (rows_from files counts order) file k ≡ Some before → slice_get (here file) k ≡ Some d
      → StandsIn counts (draft_from rows names consts files counts order) before d.full d.item
  files_stand counts [] file k before d at is = absurd (none-some before at)
  files_stand counts (number ∷ numbers) file k before d at is =
      either counts number numbers file k before d is (number == file) refl at
      (λ later. files_stand (after_all counts (here number)) numbers file k before d later is)

-- where no rows stand before tables, places are numbers

from_start : {A : Type 0} (name : A → List ℕ) (table : List A) (full : List ℕ) (number : ℕ) → Stands name 0 table full number
    → HasName name table full number
from_start {A} name table full number at =
    let same : number ≡ at.place = omega (arith, at.is) in
    record { row = at.row; there = ap (λ (n : ℕ). slice_get table n) same ∙ at.there; is = at.named }

own_row : (draft : Draft) (before : Counts) (full : List ℕ) (item : DefinitionItem) → StandsIn no_rows draft before full item
    → HasOwnRow draft before full item
own_row draft before full (items.Struct item) at = from_start struct_name draft.structs full before.structs at
own_row draft before full (items.Union item) at = from_start union_name draft.unions full before.unions at
own_row draft before full (items.Enum item) at = from_start enum_name draft.enums full before.enums at
own_row draft before full (items.Interface item) at = from_start interface_name draft.interfaces full before.interfaces at
own_row draft before full (items.Const item) at = tt

-- each definition has its row
pub own_rows : (files : List NamedFile) (order : List ℕ) (names : Names) (consts : Consts)
    → HaveOwnRows files (rows_of files order) (draft_of names.files consts files order)
own_rows files order names consts file number before d at is =
    own_row (draft_of names.files consts files order) before d.full d.item
    (files_stand (rows_of files order) names.files consts files no_rows order file number before d at is)
