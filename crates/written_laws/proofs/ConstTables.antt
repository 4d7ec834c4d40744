-- The table of constants of files of which nothing is refused is as it is written.
use Rattle.std.proofs.Common.{◌≡◌, ℕ, List, [], ◌∷◌, refl, sym, subst, inl, inr}
use Rattle.std.specs.Prelude.{Option, Some, None}
use Rattle.std.specs.List.{flat_map}
use Rattle.std.specs.Option.{option_to_list}
use Rattle.std.proofs.lemmas.Grind.{flat_map-append}
use Rattle.std.proofs.lemmas.Option.{none-some}
use Rattle.mojom_ast.specs.declared.definitions.Const.{Const}
use Rattle.mojom_ast.specs.declared.definitions.DefinitionItem.{DefinitionItem}
use Rattle.mojom_ast.specs.declared.definitions.DefinitionItem.TheVariants as items
use Rattle.mojom_files.specs.declared.named_file.NamedFile.{NamedFile}
use Rattle.mojom_files.specs.Definitions.{Defined, definitions_of}
use Rattle.module_resolver.specs.declared.file_names.FileNames.{FileNames}
use Rattle.module_resolver.specs.declared.file_names.Names.{Names}
use Rattle.module_resolver.specs.NamesOf.{names_of}
use Rattle.const_eval.specs.declared.consts.Consts.{Consts}
use Rattle.mj_schema.specs.declared.rows.ConstRow.{ConstRow}
use Rattle.draft_rows.specs.declared.counts.Counts.{Counts}
use Rattle.draft_rows.specs.declared.counts.FileRows.{FileRows}
use Rattle.kind_scope.specs.Scopes.{around}
use Rattle.draft_rows.specs.RowCounts.{after, after_all, definitions_at, no_rows, rows_of}
use Rattle.draft_rows.specs.Rows.{const_row}
use Rattle.draft_rows.specs.Drafts.{draft_of_item, draft_of_definition, draft_of_all, draft_from, draft_of}
use Rattle.schema_laws.specs.Passed.{IsPassed}
use Rattle.schema_laws.proofs.Among.{IsAmong, place_of}
use Rattle.schema_laws.proofs.QuietFiles.{all_quiet}
use Rattle.schema_laws.proofs.Told.{IsConstAt}
use Rattle.schema_laws.proofs.ConstsHaveRows.{found_file, const_rows}
use Rattle.written_laws.specs.Rows.{ArePaired, Placed, placed_in, all_placed}
use Rattle.written_laws.specs.Literals.{ConstText, IsConst, const_texts, AreConstants}
use Rattle.written_laws.proofs.Pairs.{paired_append}
use Rattle.written_laws.proofs.Tables.{at_file, placed_same}
use Rattle.written_laws.proofs.Constants.{const_kept}

-- the constants of a definition
abbrev texts_of : List FileNames → Consts → Placed → List ConstText
texts_of names consts p = const_texts names consts p.file p.definition p.definition.item

module _ (rows : List FileRows) (names : List FileNames) (consts : Consts) where
  item_consts : (file : ℕ) (counts : Counts) (d : Defined) (item : DefinitionItem)
      → ((c : Const) → item ≡ items.Const c
      → ArePaired (IsConst rows) (const_texts names consts file d (items.Const c))
      (option_to_list (const_row rows (around names consts file d.enclosing) d.full c)))
      → ArePaired (IsConst rows) (const_texts names consts file d item)
      (draft_of_item rows (around names consts file d.enclosing) counts d.full d.attributes item).consts
  item_consts file counts d (items.Const item) has = has item refl
  item_consts file counts d (items.Struct item) has = tt
  item_consts file counts d (items.Union item) has = tt
  item_consts file counts d (items.Enum item) has = tt
  item_consts file counts d (items.Interface item) has = tt

  -- the constant has its row, which is as it is written
  abbrev pub KeepsConst : ℕ → Defined → Type 0
  KeepsConst file d =
      (c : Const) → d.item ≡ items.Const c
      → ArePaired (IsConst rows) (const_texts names consts file d (items.Const c))
      (option_to_list (const_row rows (around names consts file d.enclosing) d.full c))

  all_consts : (file : ℕ) (counts : Counts) (ds : List Defined) → ((d : Defined) → IsAmong ds d → KeepsConst file d)
      → ArePaired (IsConst rows) (flat_map (texts_of names consts) (at_file file ds)) (draft_of_all rows (around names consts file None) counts ds).consts
  all_consts file counts [] has = tt
  all_consts file counts (d ∷ ds) has =
      paired_append (IsConst rows) (texts_of names consts (record { file = file; definition = d })) (flat_map (texts_of names consts) (at_file file ds))
      (draft_of_definition rows (around names consts file None) counts d).consts
      (draft_of_all rows (around names consts file None) (after counts d.item) ds).consts
      (item_consts file counts d d.item (has d (inl refl))) (all_consts file (after counts d.item) ds (λ other among. has other (inr among)))

  files_consts : (files : List NamedFile) (counts : Counts) (numbers : List ℕ)
      → ((file : ℕ) (d : Defined) → IsAmong (definitions_at files file) d → KeepsConst file d)
      → AreConstants rows names consts (all_placed files numbers) (draft_from rows names consts files counts numbers)
  files_consts files counts [] each = tt
  files_consts files counts (file ∷ numbers) each =
      let ds = definitions_at files file in
      let one = subst
      (λ (ps : List Placed).
      ArePaired (IsConst rows) (flat_map (texts_of names consts) ps) (draft_of_all rows (around names consts file None) counts ds).consts)
      (placed_same files file) (all_consts file counts ds (each file)) in
      let rest = files_consts files (after_all counts ds) numbers each in
      subst (λ (ts : List ConstText). ArePaired (IsConst rows) ts (draft_from rows names consts files counts (file ∷ numbers)).consts)
      (sym (flat_map-append (texts_of names consts) (placed_in files file) (all_placed files numbers)))
      (paired_append (IsConst rows) (flat_map (texts_of names consts) (placed_in files file)) (flat_map (texts_of names consts) (all_placed files numbers))
      (draft_of_all rows (around names consts file None) counts ds).consts
      (draft_from rows names consts files (after_all counts ds) numbers).consts one rest)

consts_here : (files : List NamedFile) (order : List ℕ) (consts : Consts) → IsPassed files order (names_of files order) consts
    → AreConstants (rows_of files order) (names_of files order).files consts (all_placed files order) (draft_of (names_of files order).files consts files order)
consts_here files order consts passed =
    files_consts (rows_of files order) (names_of files order).files consts files no_rows order
    (λ file d among c is.
    let there = found_file files file d among in
    let at = place_of (definitions_of there.0.tree) d there.2 in
    let one : IsConstAt (definitions_of there.0.tree) at.place = record { definition = d; there = at.is; constant = c; is = is } in
    let has = const_rows files order (names_of files order) consts passed (rows_of files order) file d c d.full among is in
    kept (const_row (rows_of files order) (around (names_of files order).files consts file d.enclosing) d.full c) has.one has.is
    (λ row e. const_kept files order consts passed.evaluated.are (all_quiet files order consts passed) (rows_of files order) file there.0 there.1 at.place one
    d.full row e))
  where
    kept : {text : ConstText} (o : Option ConstRow) (row : ConstRow) → o ≡ Some row → ((r : ConstRow) → o ≡ Some r → IsConst (rows_of files order) text r)
        → ArePaired (IsConst (rows_of files order)) (text ∷ []) (option_to_list o)
    kept None row e each = absurd (none-some row e)
    kept (Some found) row e each = (each found refl, tt)

-- the constants of files that pass are as they are written, and fit their kinds
pub literals_fit : (files : List NamedFile) (order : List ℕ) (names : Names) (consts : Consts) → IsPassed files order names consts
    → AreConstants (rows_of files order) names.files consts (all_placed files order) (draft_of names.files consts files order)
literals_fit files order names consts passed =
    subst (λ (all : Names). AreConstants (rows_of files order) all.files consts (all_placed files order) (draft_of all.files consts files order))
    (sym passed.named.are)
    (consts_here files order consts (subst (λ (all : Names). IsPassed files order all consts) passed.named.are passed))
