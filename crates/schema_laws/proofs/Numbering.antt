-- The structs of a draft stand by their numbers: what holds of each definition's rows and is kept where rows are joined, holds of all rows.
use Rattle.std.proofs.Common.{◌≡◌, ℕ, ◌+◌, List, [], ◌∷◌, ◌++◌, length, refl, ap, subst, arith, length-append}
use Rattle.std.specs.Prelude.{codes, Option, Some, None}
use Rattle.std.specs.List.{flat_map}
use Rattle.std.specs.Option.{option_to_list}
use Rattle.std.proofs.lemmas.List.Sums.{sum_by-cons}
use Rattle.mojom_ast.specs.declared.attributes.Attribute.{Attribute}
use Rattle.mojom_ast.specs.declared.definitions.DefinitionItem.{DefinitionItem}
use Rattle.mojom_ast.specs.declared.definitions.DefinitionItem.TheVariants as items
use Rattle.mojom_ast.specs.declared.definitions.Method.{Method}
use Rattle.mojom_ast.specs.declared.definitions.Parameter.{Parameter}
use Rattle.mojom_files.specs.declared.named_file.NamedFile.{NamedFile}
use Rattle.mojom_files.specs.Definitions.{Defined}
use Rattle.mj_base.specs.Names.{within}
use Rattle.module_resolver.specs.declared.file_names.FileNames.{FileNames}
use Rattle.const_eval.specs.declared.consts.Consts.{Consts}
use Rattle.mj_schema.specs.declared.rows.DraftStruct.{DraftStruct}
use Rattle.draft_rows.specs.declared.counts.Counts.{Counts}
use Rattle.draft_rows.specs.declared.counts.FileRows.{FileRows}
use Rattle.draft_rows.specs.declared.draft.Draft.{Draft}
use Rattle.kind_scope.specs.Scopes.{Scope, inside, around}
use Rattle.draft_rows.specs.RowCounts.{methods_in, structs_with, structs_of, structs_of_all, after, after_all, definitions_at}
use Rattle.draft_rows.specs.Rows.{parameters_row, response_row, method_structs, structs_of_methods}
use Rattle.draft_rows.specs.Drafts.{empty, join, enclosed, draft_of_item, draft_of_definition, draft_of_all, draft_from}

-- a method has as many structs as are counted for it
pub structs_of_method : (rows : List FileRows) (scope : Scope) (full : List ℕ) (m : Method) → structs_of m ≡ length (method_structs rows scope full m)
structs_of_method rows scope full m = go (parameters_row rows scope (within full (codes "request")) m.request) m.response
  where
    go : (request : DraftStruct) (response : Option (List Parameter))
        → structs_with response ≡ length (request ∷ option_to_list (response_row rows scope (within full (codes "response")) response))
    go request None = refl
    go request (Some parameters) = refl

-- methods have as many structs as are counted for them
structs_of_each : (rows : List FileRows) (scope : Scope) (full : List ℕ) (ms : List Method)
    → structs_of_all ms ≡ length (structs_of_methods rows scope full ms)
structs_of_each rows scope full [] = refl
structs_of_each rows scope full (m ∷ ms) =
    let here = structs_of_method rows scope (within full m.name.text) m in
    let rest = structs_of_each rows scope full ms in
    let counted = sum_by-cons structs_of m ms in
    let listed = length-append (method_structs rows scope (within full m.name.text) m) (structs_of_methods rows scope full ms) in
    omega (arith, here, rest, counted, listed)

-- behind a definition stand as many more structs as its rows have
structs_after : (rows : List FileRows) (scope : Scope) (counts : Counts) (full : List ℕ) (attributes : List Attribute) (item : DefinitionItem)
    → (after counts item).structs ≡ counts.structs + length (draft_of_item rows scope counts full attributes item).structs
structs_after rows scope counts full attributes (items.Struct item) = refl
structs_after rows scope counts full attributes (items.Union item) = omega arith
structs_after rows scope counts full attributes (items.Enum item) = omega arith
structs_after rows scope counts full attributes (items.Interface item) =
    ap (λ (n : ℕ). counts.structs + n) (structs_of_each rows (inside scope full) full (methods_in item.members))
structs_after rows scope counts full attributes (items.Const item) = omega arith

-- the same of all definitions of a file
structs_after_all : (rows : List FileRows) (scope : Scope) (counts : Counts) (ds : List Defined)
    → (after_all counts ds).structs ≡ counts.structs + length (draft_of_all rows scope counts ds).structs
structs_after_all rows scope counts [] = omega arith
structs_after_all rows scope counts (d ∷ ds) =
    let here = structs_after rows (enclosed scope d.enclosing) counts d.full d.attributes d.item in
    let rest = structs_after_all rows scope (after counts d.item) ds in
    let listed = length-append (draft_of_definition rows scope counts d).structs (draft_of_all rows scope (after counts d.item) ds).structs in
    omega (arith, here, rest, listed)

-- what holds of rows of definitions, where the first struct has this number: of no rows, of joined rows, and of the rows of a definition
pub record Lifts (Good : ℕ → Draft → List Defined → Type 0) : Type 0 where
  pub none : (first : ℕ) → Good first empty []
  pub both : (first : ℕ) (one two : Draft) (ds es : List Defined)
      → Good first one ds → Good (first + length one.structs) two es
      → Good first (join one two) (ds ++ es)
  pub each : (rows : List FileRows) (scope : Scope) (counts : Counts) (d : Defined)
      → Good counts.structs (draft_of_definition rows scope counts d) (d ∷ [])

-- it holds of the rows of a file
in_file : (Good : ℕ → Draft → List Defined → Type 0) → Lifts Good
    → (rows : List FileRows) (scope : Scope) (counts : Counts) (ds : List Defined)
    → Good counts.structs (draft_of_all rows scope counts ds) ds
in_file Good lifts rows scope counts [] = lifts.none counts.structs
in_file Good lifts rows scope counts (d ∷ ds) =
    let more = structs_after rows (enclosed scope d.enclosing) counts d.full d.attributes d.item in
    let rest = in_file Good lifts rows scope (after counts d.item) ds in
    lifts.both counts.structs (draft_of_definition rows scope counts d) (draft_of_all rows scope (after counts d.item) ds) (d ∷ []) ds
    (lifts.each rows scope counts d)
    (subst (λ (n : ℕ). Good n (draft_of_all rows scope (after counts d.item) ds) ds) more rest)

-- it holds of the rows of all files
pub in_files : (Good : ℕ → Draft → List Defined → Type 0) → Lifts Good
    → (rows : List FileRows) (names : List FileNames) (consts : Consts) (files : List NamedFile) (counts : Counts) (order : List ℕ)
    → Good counts.structs (draft_from rows names consts files counts order) (flat_map (definitions_at files) order)
in_files Good lifts rows names consts files counts [] = lifts.none counts.structs
in_files Good lifts rows names consts files counts (number ∷ numbers) =
    let scope = around names consts number None in
    let ds = definitions_at files number in
    let later = draft_from rows names consts files (after_all counts ds) numbers in
    let more = structs_after_all rows scope counts ds in
    let rest = in_files Good lifts rows names consts files (after_all counts ds) numbers in
    lifts.both counts.structs (draft_of_all rows scope counts ds) later ds (flat_map (definitions_at files) numbers)
    (in_file Good lifts rows scope counts ds)
    (subst (λ (n : ℕ). Good n later (flat_map (definitions_at files) numbers)) more rest)
