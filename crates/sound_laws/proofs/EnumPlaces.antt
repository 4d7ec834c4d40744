-- The row of an enum stands where the numbers of rows say.
use Rattle.std.proofs.Common.{◌≡◌, ◌∙◌, ℕ, zero, suc, ◌+◌, Bool, true, false, cond, List, [], ◌∷◌, ◌++◌, length, refl, sym, ap, arith}
use Rattle.std.specs.Prelude.{◌==◌, find, slice_get, Option, Some, None, option_and_then}
use Rattle.std.proofs.lemmas.Bool.{eqb-true}
use Rattle.mojom_ast.specs.declared.definitions.DefinitionItem.{DefinitionItem}
use Rattle.mojom_ast.specs.declared.definitions.DefinitionItem.TheVariants as items
use Rattle.mojom_ast.specs.declared.definitions.Enum.{Enum}
use Rattle.mojom_files.specs.Definitions.{Defined}
use Rattle.mojom_files.specs.declared.named_file.NamedFile.{NamedFile}
use Rattle.module_resolver.specs.declared.file_names.FileNames.{FileNames}
use Rattle.const_eval.specs.declared.consts.Consts.{Consts}
use Rattle.mj_schema.specs.declared.rows.EnumRow.{EnumRow}
use Rattle.draft_rows.specs.Drafts.{draft_of_item, draft_of_definition, draft_of_all, draft_from, draft_of, enclosed}
use Rattle.kind_scope.specs.Scopes.{around, inside, Scope}
use Rattle.draft_rows.specs.RowCounts.{after, after_all, counts_before, definitions_at, no_rows, rows_before, rows_from, rows_of}
use Rattle.draft_rows.specs.Rows.{enum_row, valued}
use Rattle.draft_rows.specs.declared.counts.Counts.{Counts}
use Rattle.draft_rows.specs.declared.counts.FileRows.{FileRows}
use Rattle.schema_laws.proofs.Places.{at_behind, at_front}
use Rattle.schema_laws.proofs.Totals.{all_between, item_between}

-- the row of a definition that is an enum
abbrev pub enum_of : Scope → Defined → Enum → EnumRow
enum_of scope d item = enum_row d.full d.attributes (valued (inside (enclosed scope d.enclosing) d.full) item.enumerators)

-- a row that stands so far behind those before it
pub record StandsAt (before : ℕ) (rows : List EnumRow) (at : ℕ) (row : EnumRow) : Type 0 where
  pub more : ℕ
  pub is : at ≡ before + more
  pub there : slice_get rows more ≡ Some row

module _ (rows : List FileRows) (scope : Scope) where
  in_definitions : (counts c : Counts) (ds : List Defined) (k : ℕ) (d : Defined) (item : Enum) → slice_get ds k ≡ Some d → d.item ≡ items.Enum item
      → slice_get (counts_before counts ds) k ≡ Some c → StandsAt counts.enums (draft_of_all rows scope counts ds).enums c.enums (enum_of scope d item)
  in_definitions counts c [] k d item e is at = absurd cc
  in_definitions counts c (x ∷ ds) zero d item e is at =
      let same : x ≡ d = cc in
      let counted : counts ≡ c = cc in
      let rest = (draft_of_all rows scope (after counts x.item) ds).enums in
      let own : slice_get ((draft_of_definition rows scope counts d).enums ++ rest) 0 ≡ Some (enum_of scope d item) =
      ap (λ (i : DefinitionItem). slice_get ((draft_of_item rows (enclosed scope d.enclosing) counts d.full d.attributes i).enums ++ rest) 0) is in
      let number : c.enums ≡ counts.enums + 0 = ap (λ (c : Counts). c.enums) (sym counted) ∙ omega arith in
      record {
        more = 0;
        is = number;
        there = ap (λ (y : Defined). slice_get ((draft_of_definition rows scope counts y).enums ++ rest) 0) same ∙ own;
      }
  in_definitions counts c (x ∷ ds) (suc k) d item e is at =
      let inner = in_definitions (after counts x.item) c ds k d item e is at in
      let first = (draft_of_definition rows scope counts x).enums in
      let between = (item_between rows (enclosed scope x.enclosing) counts x.full x.attributes x.item).enums in
      let more = inner.is in
      record {
        more = length first + inner.more;
        is = omega (arith, between, more);
        there = at_behind first (draft_of_all rows scope (after counts x.item) ds).enums (length first + inner.more) inner.more refl ∙ inner.there;
      }

module _ (rows : List FileRows) (names : List FileNames) (consts : Consts) (files : List NamedFile) (file number : ℕ) (d : Defined) (item : Enum)
    (there : slice_get (definitions_at files file) number ≡ Some d) (is : d.item ≡ items.Enum item) where
  abbrev scope_of : ℕ → Scope
  scope_of file = around names consts file None

  in_files : (counts c : Counts) (numbers : List ℕ)
      → option_and_then (λ (r : FileRows). slice_get r.before number) (find (λ (r : FileRows). r.file == file) (rows_from files counts numbers)) ≡ Some c
      → StandsAt counts.enums (draft_from rows names consts files counts numbers).enums c.enums (enum_of (scope_of file) d item)
  in_files counts c [] e = absurd cc
  in_files counts c (n ∷ numbers) e = go (in_files (after_all counts (definitions_at files n)) c numbers) (n == file) refl e
    where
      here : List Defined
      here = definitions_at files n

      first : List EnumRow
      first = (draft_of_all rows (scope_of n) counts here).enums

      rest : List EnumRow
      rest = (draft_from rows names consts files (after_all counts here) numbers).enums

      go : (option_and_then (λ (r : FileRows). slice_get r.before number)
          (find (λ (r : FileRows). r.file == file) (rows_from files (after_all counts here) numbers)) ≡ Some c
          → StandsAt (after_all counts here).enums rest c.enums (enum_of (scope_of file) d item))
          → (b : Bool) → (n == file) ≡ b
          → option_and_then (λ (r : FileRows). slice_get r.before number)
          (cond b (Some (record { file = n; before = counts_before counts here }))
          (find (λ (r : FileRows). r.file == file) (rows_from files (after_all counts here) numbers))) ≡ Some c
          → StandsAt counts.enums (first ++ rest) c.enums (enum_of (scope_of file) d item)
      go later true same e =
          let equal : n ≡ file = eqb-true n file same in
          let at : slice_get here number ≡ Some d = ap (λ (m : ℕ). slice_get (definitions_at files m) number) equal ∙ there in
          let inner = in_definitions rows (scope_of n) counts c here number d item at is e in
          record {
            more = inner.more;
            is = inner.is;
            there = at_front first rest inner.more (enum_of (scope_of file) d item)
                (inner.there ∙ ap (λ (m : ℕ). let o : Option EnumRow = Some (enum_of (scope_of m) d item) in o) equal);
          }
      go later false same e =
          let inner = later e in
          let between = (all_between rows (scope_of n) counts here).enums in
          let more = inner.is in
          record {
            more = length first + inner.more;
            is = omega (arith, between, more);
            there = at_behind first rest (length first + inner.more) inner.more refl ∙ inner.there;
          }

-- the enum of this number in its file has its row there
pub enum_there : (names : List FileNames) (consts : Consts) (files : List NamedFile) (order : List ℕ) (file number : ℕ) (d : Defined) (item : Enum)
    → slice_get (definitions_at files file) number ≡ Some d → d.item ≡ items.Enum item → (c : Counts) → rows_before (rows_of files order) file number ≡ Some c
    → slice_get (draft_of names consts files order).enums c.enums ≡ Some (enum_of (around names consts file None) d item)
enum_there names consts files order file number d item there is c e =
    let s = in_files (rows_of files order) names consts files file number d item there is no_rows c order e in
    let at : c.enums ≡ s.more = let sum = s.is in omega (arith, sum) in
    ap (slice_get (draft_of names consts files order).enums) at ∙ s.there
