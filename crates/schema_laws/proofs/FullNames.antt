-- No two rows of a draft have one full name, but for the structs of methods.
use Rattle.std.proofs.Common.{◌≡◌, ℕ, ◌+◌, ◌≤◌, List, [], ◌∷◌, ◌++◌, map, length, refl, sym, ◌∙◌, ap, subst, arith}
use Rattle.std.specs.Prelude.{true, Option, Some, None, slice_get, option_and_then}
use Rattle.std.specs.List.{flat_map}
use Rattle.std.specs.Option.{option_map, option_map_or, option_to_list}
use Rattle.std.proofs.lemmas.Grind.{flat_map-append}
use Rattle.std.proofs.lemmas.List.{append-nil, map-append}
use Rattle.mj_base.specs.Texts.{are_distinct}
use Rattle.mojom_ast.specs.declared.attributes.Attribute.{Attribute}
use Rattle.mojom_ast.specs.declared.definitions.DefinitionItem.{DefinitionItem}
use Rattle.mojom_ast.specs.declared.definitions.DefinitionItem.TheVariants as items
use Rattle.mojom_files.specs.declared.named_file.NamedFile.{NamedFile}
use Rattle.mojom_files.specs.Definitions.{Defined, definitions_of}
use Rattle.module_resolver.specs.declared.file_names.FileNames.{FileNames}
use Rattle.module_resolver.specs.declared.file_names.Names.{Names}
use Rattle.name_refusals.specs.NameRefusals.{of_file, full_names, names_before, names_refusal}
use Rattle.const_eval.specs.declared.consts.Consts.{Consts}
use Rattle.mj_schema.specs.KindTrees.{KindTree}
use Rattle.mj_schema.specs.declared.rows.ConstRow.{ConstRow}
use Rattle.mj_schema.specs.declared.rows.EnumRow.{EnumRow}
use Rattle.mj_schema.specs.declared.rows.InterfaceRow.{InterfaceRow}
use Rattle.mj_schema.specs.declared.rows.Literal.{Literal}
use Rattle.mj_schema.specs.declared.rows.UnionRow.{UnionRow}
use Rattle.mj_schema.specs.WellFormed.{structs_of_methods}
use Rattle.draft_rows.specs.declared.counts.Counts.{Counts}
use Rattle.draft_rows.specs.declared.counts.FileRows.{FileRows}
use Rattle.draft_rows.specs.declared.draft.Draft.{Draft}
use Rattle.kind_scope.specs.Scopes.{Scope}
use Rattle.draft_rows.specs.RowCounts.{definitions_at, no_rows, rows_of}
use Rattle.draft_rows.specs.Kinds.{kind_of}
use Rattle.draft_rows.specs.Rows.{literal_in, const_with}
use Rattle.draft_rows.specs.Drafts.{join, enclosed, draft_of_item, draft_of_definition, draft_of}
use Rattle.schema_laws.specs.Passed.{IsPassed}
use Rattle.schema_laws.proofs.Tables.{named_drafts, draft_names}
use Rattle.schema_laws.proofs.Doubles.{times, times_append, distinct}
use Rattle.schema_laws.proofs.OneName.{one_name}
use Rattle.schema_laws.proofs.Numbering.{Lifts, in_files}
use Rattle.schema_laws.proofs.NamedStructs.{struct_name, struct_names, names_of_structs}

-- the full names of rows and of definitions

abbrev union_names : List UnionRow → List (List ℕ)
union_names rows = map (λ (row : UnionRow). row.name) rows

abbrev enum_names : List EnumRow → List (List ℕ)
enum_names rows = map (λ (row : EnumRow). row.name) rows

abbrev interface_names : List InterfaceRow → List (List ℕ)
interface_names rows = map (λ (row : InterfaceRow). row.name) rows

abbrev const_names : List ConstRow → List (List ℕ)
const_names rows = map (λ (row : ConstRow). row.name) rows

abbrev definition_names : List Defined → List (List ℕ)
definition_names ds = map (λ (d : Defined). d.full) ds

-- how often a text is the name of a row that is no struct
abbrev times_beside : List ℕ → Draft → ℕ
times_beside text draft =
    times text (union_names draft.unions)
    + (times text (enum_names draft.enums) + (times text (interface_names draft.interfaces) + times text (const_names draft.consts)))

-- no text is the name of more rows than of definitions
abbrev AreOnce : ℕ → Draft → List Defined → Type 0
AreOnce first draft ds = (text : List ℕ) → times text (struct_names ds) + times_beside text draft ≤ times text (definition_names ds)

-- how often a text is a name in two lists

times_map : {A : Type 0} (text : List ℕ) (name : A → List ℕ) (xs ys : List A)
    → times text (map name (xs ++ ys)) ≡ times text (map name xs) + times text (map name ys)
times_map text name xs ys = ap (times text) (map-append name xs ys) ∙ times_append text (map name xs) (map name ys)

times_structs : (text : List ℕ) (ds es : List Defined) → times text (struct_names (ds ++ es)) ≡ times text (struct_names ds) + times text (struct_names es)
times_structs text ds es =
    ap (times text) (flat_map-append (λ (d : Defined). struct_name d.full d.item) ds es) ∙ times_append text (struct_names ds) (struct_names es)

-- joined drafts
both_once : (first : ℕ) (one two : Draft) (ds es : List Defined) → AreOnce first one ds → AreOnce (first + length one.structs) two es
    → AreOnce first (join one two) (ds ++ es)
both_once first one two ds es a b text =
    let here = a text in
    let there = b text in
    let structs = times_structs text ds es in
    let unions = times_map text (λ (row : UnionRow). row.name) one.unions two.unions in
    let enums = times_map text (λ (row : EnumRow). row.name) one.enums two.enums in
    let interfaces = times_map text (λ (row : InterfaceRow). row.name) one.interfaces two.interfaces in
    let consts = times_map text (λ (row : ConstRow). row.name) one.consts two.consts in
    let definitions = times_map text (λ (d : Defined). d.full) ds es in
    omega (arith, here, there, structs, unions, enums, interfaces, consts, definitions)

-- a constant has no row, or one of its name
const_once : (text full : List ℕ) (kind : Option KindTree) (value : Option Literal)
    → times text (const_names (option_to_list (option_and_then (λ (k : KindTree). option_map (const_with full k) value) kind))) ≤ times text (full ∷ [])
const_once text full None value = omega arith
const_once text full (Some kind) None = omega arith
const_once text full (Some kind) (Some value) = omega arith

-- a definition has no row, or one of its name, beside structs of methods
item_once : (rows : List FileRows) (scope : Scope) (counts : Counts) (full : List ℕ) (attributes : List Attribute) (item : DefinitionItem) (text : List ℕ)
    → times text (struct_name full item) + times_beside text (draft_of_item rows scope counts full attributes item) ≤ times text (full ∷ [])
item_once rows scope counts full attributes (items.Struct item) text = omega arith
item_once rows scope counts full attributes (items.Union item) text = omega arith
item_once rows scope counts full attributes (items.Enum item) text = omega arith
item_once rows scope counts full attributes (items.Interface item) text = omega arith
item_once rows scope counts full attributes (items.Const item) text =
    let one = const_once text full (kind_of rows scope item.kind) (literal_in scope item.value) in omega (arith, one)

-- a definition of a file
each_once : (rows : List FileRows) (scope : Scope) (counts : Counts) (d : Defined) → AreOnce counts.structs (draft_of_definition rows scope counts d) (d ∷ [])
each_once rows scope counts d text =
    subst (λ (l : List (List ℕ)). times text l + times_beside text (draft_of_definition rows scope counts d) ≤ times text (d.full ∷ []))
    (sym (append-nil (struct_name d.full d.item)))
    (item_once rows (enclosed scope d.enclosing) counts d.full d.attributes d.item text)

lifts_once : Lifts AreOnce
lifts_once = record { none = λ first text. omega arith; both = both_once; each = each_once }

-- the names of the definitions of a file
names_of_file : (file : Option NamedFile)
    → definition_names (option_map_or (λ (f : NamedFile). definitions_of f.tree) file []) ≡ of_file full_names file
names_of_file None = refl
names_of_file (Some file) = refl

-- the full names of the definitions of files
names_of_files : (files : List NamedFile) (order : List ℕ) → definition_names (flat_map (definitions_at files) order) ≡ names_before files order
names_of_files files [] = refl
names_of_files files (number ∷ numbers) =
    let here = names_of_file (slice_get files number) in
    let rest = names_of_files files numbers in
    map-append (λ (d : Defined). d.full) (definitions_at files number) (flat_map (definitions_at files) numbers)
    ∙ ap (λ (l : List (List ℕ)). l ++ definition_names (flat_map (definitions_at files) numbers)) here
    ∙ ap (λ (l : List (List ℕ)). of_file full_names (slice_get files number) ++ l) rest

-- each text is the name of at most one row
once : (names : List FileNames) (consts : Consts) (files : List NamedFile) (order : List ℕ)
    → names_refusal files order ≡ None → (text : List ℕ) → times text (draft_names (draft_of names consts files order)) ≤ 1
once names consts files order none text =
    let draft = draft_of names consts files order in
    let ds = flat_map (definitions_at files) order in
    let structs = named_drafts (structs_of_methods draft.interfaces) 0 draft.structs in
    let rows = in_files AreOnce lifts_once (rows_of files order) names consts files no_rows order text in
    let struct_times : times text structs ≡ times text (struct_names ds) =
    ap (times text) (names_of_structs names consts files order) in
    let name_times : times text (definition_names ds) ≡ times text (names_before files order) = ap (times text) (names_of_files files order) in
    let one = one_name files order none text in
    let of_unions = union_names draft.unions in
    let of_enums = enum_names draft.enums in
    let of_interfaces = interface_names draft.interfaces in
    let of_consts = const_names draft.consts in
    let first = times_append text structs (of_unions ++ (of_enums ++ (of_interfaces ++ of_consts))) in
    let second = times_append text of_unions (of_enums ++ (of_interfaces ++ of_consts)) in
    let third = times_append text of_enums (of_interfaces ++ of_consts) in
    let fourth = times_append text of_interfaces of_consts in
    omega (arith, rows, struct_times, name_times, one, first, second, third, fourth)

-- no two rows of files that passed have one full name
pub distinct_names : (files : List NamedFile) (order : List ℕ) (names : Names) (consts : Consts) → IsPassed files order names consts
    → are_distinct (draft_names (draft_of names.files consts files order)) ≡ true
distinct_names files order names consts passed =
    distinct (draft_names (draft_of names.files consts files order))
    (λ (text : List ℕ). once names.files consts files order passed.named.none_refused text)
