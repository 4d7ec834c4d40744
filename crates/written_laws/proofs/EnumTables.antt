-- The table of enums of files of which nothing is refused is as it is written.
use Rattle.std.proofs.Common.{◌≡◌, ℕ, ℤ, pos, ◌+ℤ◌, List, [], ◌∷◌, map, refl, sym, subst, inl, inr}
use Rattle.std.specs.Prelude.{Bool, true, false, cond, if◌then◌else◌, find, Some, None}
use Rattle.std.specs.List.{flat_map}
use Rattle.std.specs.Option.{option_map}
use Rattle.std.proofs.lemmas.Grind.{flat_map-append}
use Rattle.mojom_ast.specs.declared.definitions.Enumerator.{Enumerator}
use Rattle.mojom_ast.specs.declared.definitions.DefinitionItem.{DefinitionItem}
use Rattle.mojom_ast.specs.declared.definitions.DefinitionItem.TheVariants as items
use Rattle.mojom_files.specs.declared.named_file.NamedFile.{NamedFile}
use Rattle.mojom_files.specs.Definitions.{Defined, definitions_of, enumerators_of}
use Rattle.module_resolver.specs.declared.file_names.FileNames.{FileNames}
use Rattle.module_resolver.specs.declared.file_names.Names.{Names}
use Rattle.module_resolver.specs.NamesOf.{names_of}
use Rattle.const_eval.specs.declared.consts.Consts.{Consts}
use Rattle.draft_rows.specs.declared.counts.Counts.{Counts}
use Rattle.draft_rows.specs.declared.counts.FileRows.{FileRows}
use Rattle.kind_scope.specs.Attributes.{is_default}
use Rattle.kind_scope.specs.Scopes.{Scope, around}
use Rattle.draft_rows.specs.RowCounts.{after, after_all, definitions_at, no_rows, rows_of}
use Rattle.draft_rows.specs.Rows.{held_signed, Valued, number_at, valued_from, valued, member_row, default_in}
use Rattle.draft_rows.specs.Drafts.{draft_of_item, draft_of_definition, draft_of_all, draft_from, draft_of}
use Rattle.schema_laws.specs.Passed.{IsPassed}
use Rattle.schema_laws.proofs.Among.{IsAmong, each_at}
use Rattle.schema_laws.proofs.QuietFiles.{all_quiet}
use Rattle.schema_laws.proofs.ConstsHaveRows.{found_file}
use Rattle.written_laws.specs.Rows.{ArePaired, Placed, placed_in, all_placed, site_in}
use Rattle.written_laws.specs.Enums.{AreMembers, default_of, EnumText, IsEnum, enum_texts, AreEnums}
use Rattle.written_laws.proofs.Pairs.{paired_append}
use Rattle.written_laws.proofs.Tables.{at_file, placed_same}
use Rattle.written_laws.proofs.Enumerators.{HasMembers, file_members}

-- the enums of a definition
abbrev texts_of : List FileNames → Consts → Placed → List EnumText
texts_of names consts p =
    enum_texts (site_in names consts p.file p.definition.full) p.definition.full p.definition.attributes p.definition.item

-- the first enumerator with `[Default]`
default_same : (scope : Scope) (next : ℤ) (es : List Enumerator)
    → default_in (valued_from scope next es) ≡ default_of es (map member_row (valued_from scope next es))
default_same scope next [] = refl
default_same scope next (e ∷ es) =
    let number = number_at scope next e.value in
    let later = valued_from scope (held_signed (number +ℤ pos 1)) es in
    go (is_default e) (record { enumerator = e; number = number }) later es (default_same scope (held_signed (number +ℤ pos 1)) es)
  where
    go : (b : Bool) (one : Valued) (later : List Valued) (es : List Enumerator) → default_in later ≡ default_of es (map member_row later)
        → option_map (λ (v : Valued). v.number) (cond b (Some one) (find (λ (v : Valued). is_default v.enumerator) later))
        ≡ (if b then Some one.number else default_of es (map member_row later))
    go true one later es rest = refl
    go false one later es rest = rest

item_enums : (files : List NamedFile) (order : List ℕ) (consts : Consts) (file : ℕ) (rows : List FileRows) (counts : Counts) (d : Defined)
    (item : DefinitionItem)
    → d.item ≡ item → HasMembers (names_of files order).files consts file d
    → ArePaired IsEnum (enum_texts (site_in (names_of files order).files consts file d.full) d.full d.attributes item)
    (draft_of_item rows (around (names_of files order).files consts file d.enclosing) counts d.full d.attributes item).enums
item_enums files order consts file rows counts d (items.Enum item) is has =
    let site = site_in (names_of files order).files consts file d.full in
    let scope = around (names_of files order).files consts file (Some d.full) in
    let members = subst (λ (i : DefinitionItem). AreMembers site (pos 0) (enumerators_of i) (map member_row (valued scope (enumerators_of i)))) is has in
    let default = default_same scope (pos 0) item.enumerators in
    (record { name = refl; extensible = refl; members = members; default = default; stable = refl }, tt)
item_enums files order consts file rows counts d (items.Struct item) is has = tt
item_enums files order consts file rows counts d (items.Union item) is has = tt
item_enums files order consts file rows counts d (items.Interface item) is has = tt
item_enums files order consts file rows counts d (items.Const item) is has = tt

module _ (files : List NamedFile) (order : List ℕ) (consts : Consts) (rows : List FileRows)
    (each : (file : ℕ) (d : Defined) → IsAmong (definitions_at files file) d → HasMembers (names_of files order).files consts file d) where
  abbrev all_names : List FileNames
  all_names = (names_of files order).files

  all_enums : (file : ℕ) (counts : Counts) (ds : List Defined) → ((d : Defined) → IsAmong ds d → HasMembers (names_of files order).files consts file d)
      → ArePaired IsEnum (flat_map (texts_of all_names consts) (at_file file ds)) (draft_of_all rows (around all_names consts file None) counts ds).enums
  all_enums file counts [] has = tt
  all_enums file counts (d ∷ ds) has =
      paired_append IsEnum (texts_of all_names consts (record { file = file; definition = d })) (flat_map (texts_of all_names consts) (at_file file ds))
      (draft_of_definition rows (around all_names consts file None) counts d).enums
      (draft_of_all rows (around all_names consts file None) (after counts d.item) ds).enums
      (item_enums files order consts file rows counts d d.item refl (has d (inl refl)))
      (all_enums file (after counts d.item) ds (λ other among. has other (inr among)))

  files_enums : (counts : Counts) (numbers : List ℕ)
      → AreEnums all_names consts (all_placed files numbers) (draft_from rows all_names consts files counts numbers)
  files_enums counts [] = tt
  files_enums counts (file ∷ numbers) =
      let ds = definitions_at files file in
      let one = subst
      (λ (ps : List Placed). ArePaired IsEnum (flat_map (texts_of all_names consts) ps) (draft_of_all rows (around all_names consts file None) counts ds).enums)
      (placed_same files file) (all_enums file counts ds (each file)) in
      let rest = files_enums (after_all counts ds) numbers in
      subst (λ (ts : List EnumText). ArePaired IsEnum ts (draft_from rows all_names consts files counts (file ∷ numbers)).enums)
      (sym (flat_map-append (texts_of all_names consts) (placed_in files file) (all_placed files numbers)))
      (paired_append IsEnum (flat_map (texts_of all_names consts) (placed_in files file)) (flat_map (texts_of all_names consts) (all_placed files numbers))
      (draft_of_all rows (around all_names consts file None) counts ds).enums
      (draft_from rows all_names consts files (after_all counts ds) numbers).enums one rest)

enums_here : (files : List NamedFile) (order : List ℕ) (consts : Consts) → IsPassed files order (names_of files order) consts
    → AreEnums (names_of files order).files consts (all_placed files order) (draft_of (names_of files order).files consts files order)
enums_here files order consts passed =
    files_enums files order consts (rows_of files order)
    (λ file d among.
    let there = found_file files file d among in
    let all = file_members files order consts passed.evaluated.are (all_quiet files order consts passed) file there.0 there.1 in
    each_at (HasMembers (names_of files order).files consts file) (definitions_of there.0.tree) d all there.2)
    no_rows order

-- the enums of files that pass are as they are written
pub enumerators_are_as_written : (files : List NamedFile) (order : List ℕ) (names : Names) (consts : Consts) → IsPassed files order names consts
    → AreEnums names.files consts (all_placed files order) (draft_of names.files consts files order)
enumerators_are_as_written files order names consts passed =
    subst (λ (all : Names). AreEnums all.files consts (all_placed files order) (draft_of all.files consts files order)) (sym passed.named.are)
    (enums_here files order consts (subst (λ (all : Names). IsPassed files order all consts) passed.named.are passed))
