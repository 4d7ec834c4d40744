-- The rows before a definition are fewer than all rows.
use Rattle.std.proofs.Common.{◌≡◌, ℕ, zero, suc, ◌<◌, ◌≤◌, List, [], ◌∷◌, map, refl, sym, ◌∙◌, ap, subst, arith}
use Rattle.std.specs.Prelude.{◌==◌, cond, Bool, true, false, find, slice_get, Option, Some, None, option_and_then}
use Rattle.std.specs.Option.{option_map, option_map_or}
use Rattle.std.proofs.lemmas.Bool.{eqb-true}
use Rattle.std.proofs.lemmas.Option.{slice_get-map}
use Rattle.mojom_ast.specs.declared.definitions.DefinitionItem.{DefinitionItem}
use Rattle.mojom_ast.specs.declared.definitions.DefinitionItem.TheVariants as items
use Rattle.mojom_files.specs.declared.named_file.NamedFile.{NamedFile}
use Rattle.mojom_files.specs.Definitions.{Defined, definitions_of}
use Rattle.module_resolver.specs.declared.file_names.FileNames.{FileNames}
use Rattle.module_resolver.specs.declared.target.Target.{Target}
use Rattle.module_resolver.specs.declared.target.Target.TheVariants as targets
use Rattle.module_resolver.specs.declared.target.DefinitionSort.{DefinitionSort}
use Rattle.module_resolver.specs.declared.target.DefinitionSort.TheVariants as sorts
use Rattle.module_resolver.specs.LookUp.{sort_of}
use Rattle.module_resolver.specs.NamesOf.{sort_of_item, names_in, names_of}
use Rattle.mj_schema.specs.WellFormed.{RowCounts}
use Rattle.draft_rows.specs.declared.counts.Counts.{Counts}
use Rattle.draft_rows.specs.declared.counts.FileRows.{FileRows}
use Rattle.draft_rows.specs.RowCounts.{after, after_all, no_rows, counts_before, definitions_at, rows_from, rows_of, rows_before}
use Rattle.draft_rows.specs.Kinds.{rows_before_target}
use Rattle.schema_laws.proofs.Totals.{after_files}

-- there are no more rows than these
pub record AreBelow (counts : Counts) (total : RowCounts) : Type 0 where
  pub structs : counts.structs ≤ total.structs
  pub unions : counts.unions ≤ total.unions
  pub enums : counts.enums ≤ total.enums
  pub interfaces : counts.interfaces ≤ total.interfaces
  pub consts : counts.consts ≤ total.consts

pub before_item : (counts : Counts) (item : DefinitionItem) (total : RowCounts) → AreBelow (after counts item) total → AreBelow counts total
before_item counts (items.Struct item) total below = omega arith
before_item counts (items.Union item) total below = omega arith
before_item counts (items.Enum item) total below = omega arith
before_item counts (items.Interface item) total below = omega arith
before_item counts (items.Const item) total below = omega arith

pub before_all : (counts : Counts) (ds : List Defined) (total : RowCounts) → AreBelow (after_all counts ds) total → AreBelow counts total
before_all counts [] total below = below
before_all counts (d ∷ ds) total below = before_item counts d.item total (before_all (after counts d.item) ds total below)

pub before_files : (files : List NamedFile) (counts : Counts) (numbers : List ℕ) (total : RowCounts)
    → AreBelow (after_files files counts numbers) total
    → AreBelow counts total
before_files files counts [] total below = below
before_files files counts (number ∷ numbers) total below =
    before_all counts (definitions_at files number) total (before_files files (after_all counts (definitions_at files number)) numbers total below)

-- the row of a definition of this sort, before which so many rows stand, is there
abbrev pub IsRowThere : RowCounts → DefinitionSort → Counts → Type 0
IsRowThere total sorts.Struct before = before.structs < total.structs
IsRowThere total sorts.Union before = before.unions < total.unions
IsRowThere total sorts.Enum before = before.enums < total.enums
IsRowThere total sorts.Interface before = before.interfaces < total.interfaces
IsRowThere total sorts.Const before = before.consts < total.consts

pub item_there : (counts : Counts) (item : DefinitionItem) (total : RowCounts)
    → AreBelow (after counts item) total
    → IsRowThere total (sort_of_item item) counts
item_there counts (items.Struct item) total below = omega arith
item_there counts (items.Union item) total below = omega arith
item_there counts (items.Enum item) total below = omega arith
item_there counts (items.Interface item) total below = omega arith
item_there counts (items.Const item) total below = omega arith

-- what definitions are
abbrev pub sorts_in : List Defined → List DefinitionSort
sorts_in ds = map (λ (d : Defined). sort_of_item d.item) ds

same_there : (total : RowCounts) (sort other : DefinitionSort) (before counts : Counts)
    → Some sort ≡ Some other → Some before ≡ Some counts → IsRowThere total sort before
    → IsRowThere total other counts
same_there total sort other before counts e f there =
    let same : sort ≡ other = cc in
    let so_many : before ≡ counts = cc in
    subst (λ (s : DefinitionSort). IsRowThere total s counts) same (subst (λ (c : Counts). IsRowThere total sort c) so_many there)

there_at : (counts : Counts) (ds : List Defined) (total : RowCounts) (number : ℕ) (sort : DefinitionSort) (before : Counts)
    → AreBelow (after_all counts ds) total → slice_get (sorts_in ds) number ≡ Some sort → slice_get (counts_before counts ds) number ≡ Some before
    → IsRowThere total sort before
there_at counts [] total number sort before below is many = absurd cc
there_at counts (d ∷ ds) total zero sort before below is many =
    same_there total (sort_of_item d.item) sort counts before is many
    (item_there counts d.item total (before_all (after counts d.item) ds total below))
there_at counts (d ∷ ds) total (suc number) sort before below is many =
    there_at (after counts d.item) ds total number sort before below is many

there_found : (files : List NamedFile) (one : ℕ) (counts : Counts) (total : RowCounts) (file number : ℕ) (sort : DefinitionSort) (before : Counts)
    (later : Option FileRows) (b : Bool)
    → one == file ≡ b → AreBelow (after_all counts (definitions_at files one)) total
    → slice_get (sorts_in (definitions_at files file)) number ≡ Some sort
    → (option_and_then (λ (r : FileRows). slice_get r.before number) later ≡ Some before → IsRowThere total sort before)
    → option_and_then (λ (r : FileRows). slice_get r.before number)
    (cond b (Some (record { file = one; before = counts_before counts (definitions_at files one) })) later)
    ≡ Some before
    → IsRowThere total sort before
there_found files one counts total file number sort before later true e below is rest many =
    let same = eqb-true one file e in
    there_at counts (definitions_at files one) total number sort before below
    (subst (λ (k : ℕ). slice_get (sorts_in (definitions_at files k)) number ≡ Some sort) (sym same) is) many
there_found files one counts total file number sort before later false e below is rest many = rest many

-- the row of a definition of the files is there
pub there_in : (files : List NamedFile) (counts : Counts) (numbers : List ℕ) (total : RowCounts) (file number : ℕ) (sort : DefinitionSort) (before : Counts)
    → AreBelow (after_files files counts numbers) total → slice_get (sorts_in (definitions_at files file)) number ≡ Some sort
    → rows_before (rows_from files counts numbers) file number ≡ Some before
    → IsRowThere total sort before
there_in files counts [] total file number sort before below is many = absurd cc
there_in files counts (one ∷ numbers) total file number sort before below is many =
    there_found files one counts total file number sort before
    (find (λ (r : FileRows). r.file == file) (rows_from files (after_all counts (definitions_at files one)) numbers)) (one == file) refl
    (before_files files (after_all counts (definitions_at files one)) numbers total below) is
    (there_in files (after_all counts (definitions_at files one)) numbers total file number sort before below is) many

sorts_found : (files : List NamedFile) (order : List ℕ) (found : Option NamedFile) (number : ℕ) (sort : DefinitionSort)
    → option_and_then (λ (f : FileNames). slice_get f.sorts number) (option_map (names_in files order) found) ≡ Some sort
    → slice_get (sorts_in (option_map_or (λ (file : NamedFile). definitions_of file.tree) found [])) number ≡ Some sort
sorts_found files order None number sort is = absurd cc
sorts_found files order (Some file) number sort is = is

sort_at : (files : List NamedFile) (order : List ℕ) (file number : ℕ) (sort : DefinitionSort)
    → sort_of (names_of files order).files (targets.Definition file number) ≡ Some sort
    → slice_get (sorts_in (definitions_at files file)) number ≡ Some sort
sort_at files order file number sort is =
    sorts_found files order (slice_get files file) number sort
    (ap (λ (found : Option FileNames). option_and_then (λ (f : FileNames). slice_get f.sorts number) found)
    (sym (slice_get-map (names_in files order) files file))
    ∙ is)

-- where a name's definition has a number, its row is there
abbrev pub AreThere : List FileRows → List FileNames → RowCounts → Type 0
AreThere rows names total =
    (target : Target) (sort : DefinitionSort) (before : Counts) → sort_of names target ≡ Some sort → rows_before_target rows target ≡ Some before
    → IsRowThere total sort before

pub targets_there : (files : List NamedFile) (order : List ℕ) (total : RowCounts)
    → AreBelow (after_files files no_rows order) total
    → AreThere (rows_of files order) (names_of files order).files total
targets_there files order total below (targets.Definition file number) sort before is many =
    there_in files no_rows order total file number sort before below (sort_at files order file number sort is) many
targets_there files order total below (targets.Enumerator file number) sort before is many = absurd cc
