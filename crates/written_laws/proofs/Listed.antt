-- Each row is listed once.
use Rattle.std.proofs.Common.{◌≡◌, ◌+◌, ℕ, zero, suc, List, [], ◌∷◌, ◌++◌, length, refl, sym, ◌∙◌, ap, inl, inr, arith, length-append}
use Rattle.std.specs.Prelude.{true, Option, Some, None, is_some}
use Rattle.std.specs.List.{range_with_len}
use Rattle.std.specs.Option.{option_to_list}
use Rattle.std.proofs.lemmas.Grind.{flat_map-append}
use Rattle.std.proofs.lemmas.List.Sums.{sum_by-cons}
use Rattle.mojom_ast.specs.declared.attributes.Attribute.{Attribute}
use Rattle.mojom_ast.specs.declared.definitions.DefinitionItem.{DefinitionItem}
use Rattle.mojom_ast.specs.declared.definitions.DefinitionItem.TheVariants as items
use Rattle.mojom_ast.specs.declared.definitions.Method.{Method}
use Rattle.mojom_ast.specs.declared.definitions.Parameter.{Parameter}
use Rattle.mojom_files.specs.declared.named_file.NamedFile.{NamedFile}
use Rattle.mojom_files.specs.Definitions.{Defined}
use Rattle.module_resolver.specs.declared.file_names.FileNames.{FileNames}
use Rattle.module_resolver.specs.declared.file_names.Names.{Names}
use Rattle.const_eval.specs.declared.consts.Consts.{Consts}
use Rattle.mj_schema.specs.declared.rows.ConstRow.{ConstRow}
use Rattle.mj_schema.specs.declared.rows.DefinitionRow.{DefinitionRow}
use Rattle.mj_schema.specs.declared.rows.RowSort.{RowSort}
use Rattle.mj_schema.specs.declared.rows.RowSort.TheVariants as sorts
use Rattle.draft_rows.specs.declared.counts.Counts.{Counts}
use Rattle.draft_rows.specs.declared.counts.FileRows.{FileRows}
use Rattle.draft_rows.specs.declared.draft.Draft.{Draft}
use Rattle.kind_scope.specs.Scopes.{Scope}
use Rattle.kind_scope.specs.Scopes.{inside, around}
use Rattle.draft_rows.specs.RowCounts.{methods_in, structs_with, structs_of, structs_of_all, after, after_all, definitions_at, no_rows, rows_of}
use Rattle.draft_rows.specs.Rows.{const_row}
use Rattle.draft_rows.specs.Drafts.{empty, join, response_order, method_order, methods_order, draft_of_item, enclosed, draft_of_definition, draft_of_all, draft_from, draft_of}
use Rattle.schema_laws.specs.Passed.{IsPassed}
use Rattle.schema_laws.proofs.Totals.{AreBetween, structs_length, item_between, HasRow, HaveRowsIn, all_between, HaveRows}
use Rattle.schema_laws.proofs.ConstsHaveRows.{have_rows}
use Rattle.mj_schema.specs.Sound.{number_in, numbers_in}
use Rattle.written_laws.specs.Listed.{rows_in, AreListed}

-- how many rows of a sort stand before
abbrev count_in : Counts → RowSort → ℕ
count_in counts sorts.Struct = counts.structs
count_in counts sorts.Union = counts.unions
count_in counts sorts.Enum = counts.enums
count_in counts sorts.Interface = counts.interfaces
count_in counts sorts.Const = counts.consts

-- the rows of each sort stand in the listing by their numbers, where so many stand before them
abbrev AreListedFrom : Counts → Draft → Type 0
AreListedFrom counts draft = (sort : RowSort) → numbers_in sort draft.order ≡ range_with_len (count_in counts sort) (rows_in draft sort)

ranges : (from n m : ℕ) → range_with_len from n ++ range_with_len (from + n) m ≡ range_with_len from (n + m)
ranges from zero m =
    let same : from + 0 ≡ from = omega arith in
    let sum : zero + m ≡ m = omega arith in
    ap (λ (k : ℕ). range_with_len k m) same ∙ ap (range_with_len from) (sym sum)
ranges from (suc n) m =
    let same : from + suc n ≡ from + 1 + n = omega arith in
    let sum : suc n + m ≡ suc (n + m) = omega arith in
    ap (λ (k : ℕ). from ∷ (range_with_len (from + 1) n ++ range_with_len k m)) same
    ∙ (ap (λ (ns : List ℕ). from ∷ ns) (ranges (from + 1) n m) ∙ ap (range_with_len from) (sym sum))

joined : (from middle n m : ℕ) (order more : List DefinitionRow) (sort : RowSort) → middle ≡ from + n
    → numbers_in sort order ≡ range_with_len from n → numbers_in sort more ≡ range_with_len middle m
    → numbers_in sort (order ++ more) ≡ range_with_len from (n + m)
joined from middle n m order more sort e one two =
    flat_map-append (number_in sort) order more
    ∙ (ap (λ (ns : List ℕ). ns ++ numbers_in sort more) one
    ∙ (ap (λ (ns : List ℕ). range_with_len from n ++ ns) (two ∙ ap (λ (k : ℕ). range_with_len k m) e) ∙ ranges from n m))

long : {A : Type 0} (from : ℕ) (xs ys : List A) → range_with_len from (length xs + length ys) ≡ range_with_len from (length (xs ++ ys))
long from xs ys = ap (range_with_len from) (sym (length-append xs ys))

join_listed : (has : Type 0) (before middle : Counts) (one two : Draft) → has → AreBetween has before one middle
    → AreListedFrom before one → AreListedFrom middle two → AreListedFrom before (join one two)
join_listed has before middle one two is b a c sorts.Struct =
    joined before.structs middle.structs (length one.structs) (length two.structs) one.order two.order sorts.Struct b.structs (a sorts.Struct) (c sorts.Struct)
    ∙ long before.structs one.structs two.structs
join_listed has before middle one two is b a c sorts.Union =
    joined before.unions middle.unions (length one.unions) (length two.unions) one.order two.order sorts.Union b.unions (a sorts.Union) (c sorts.Union)
    ∙ long before.unions one.unions two.unions
join_listed has before middle one two is b a c sorts.Enum =
    joined before.enums middle.enums (length one.enums) (length two.enums) one.order two.order sorts.Enum b.enums (a sorts.Enum) (c sorts.Enum)
    ∙ long before.enums one.enums two.enums
join_listed has before middle one two is b a c sorts.Interface =
    joined before.interfaces middle.interfaces (length one.interfaces) (length two.interfaces) one.order two.order sorts.Interface b.interfaces
    (a sorts.Interface) (c sorts.Interface)
    ∙ long before.interfaces one.interfaces two.interfaces
join_listed has before middle one two is b a c sorts.Const =
    joined before.consts middle.consts (length one.consts) (length two.consts) one.order two.order sorts.Const (b.consts is) (a sorts.Const) (c sorts.Const)
    ∙ long before.consts one.consts two.consts

-- methods

response_listed : (first : ℕ) (response : Option (List Parameter))
    → first ∷ numbers_in sorts.Struct (response_order first response) ≡ range_with_len first (structs_with response)
response_listed first None = refl
response_listed first (Some parameters) = refl

-- the structs of methods
methods_listed : (first : ℕ) (ms : List Method) → numbers_in sorts.Struct (methods_order first ms) ≡ range_with_len first (structs_of_all ms)
methods_listed first [] = refl
methods_listed first (m ∷ ms) =
    joined first (first + structs_of m) (structs_of m) (structs_of_all ms) (method_order first m) (methods_order (first + structs_of m) ms) sorts.Struct refl
    (response_listed first m.response) (methods_listed (first + structs_of m) ms)
    ∙ ap (range_with_len first) (sym (sum_by-cons structs_of m ms))

response_alone : (sort : RowSort) → ((number : ℕ) → number_in sort (record { sort = sorts.Struct; number = number }) ≡ []) → (first : ℕ)
    (response : Option (List Parameter)) → numbers_in sort (response_order first response) ≡ []
response_alone sort none first None = refl
response_alone sort none first (Some parameters) = ap (λ (ns : List ℕ). ns ++ []) (none (first + 1))

-- no row of another sort
methods_alone : (sort : RowSort) → ((number : ℕ) → number_in sort (record { sort = sorts.Struct; number = number }) ≡ []) → (first : ℕ) (ms : List Method)
    → numbers_in sort (methods_order first ms) ≡ []
methods_alone sort none first [] = refl
methods_alone sort none first (m ∷ ms) =
    flat_map-append (number_in sort) (method_order first m) (methods_order (first + structs_of m) ms)
    ∙ (ap (λ (ns : List ℕ). ns ++ numbers_in sort (methods_order (first + structs_of m) ms)) here ∙ methods_alone sort none (first + structs_of m) ms)
  where
    here : numbers_in sort (method_order first m) ≡ []
    here = ap (λ (ns : List ℕ). ns ++ numbers_in sort (response_order first m.response)) (none first) ∙ response_alone sort none first m.response

-- definitions

const_listed : (number : ℕ) (found : Option ConstRow) → is_some found ≡ true → number ∷ [] ≡ range_with_len number (length (option_to_list found))
const_listed number None has = absurd cc
const_listed number (Some row) has = refl

item_listed : (rows : List FileRows) (scope : Scope) (counts : Counts) (full : List ℕ) (attributes : List Attribute) (item : DefinitionItem)
    → HasRow rows scope full item → AreListedFrom counts (draft_of_item rows scope counts full attributes item)
item_listed rows scope counts full attributes (items.Struct item) has sorts.Struct = refl
item_listed rows scope counts full attributes (items.Struct item) has sorts.Union = refl
item_listed rows scope counts full attributes (items.Struct item) has sorts.Enum = refl
item_listed rows scope counts full attributes (items.Struct item) has sorts.Interface = refl
item_listed rows scope counts full attributes (items.Struct item) has sorts.Const = refl
item_listed rows scope counts full attributes (items.Union item) has sorts.Struct = refl
item_listed rows scope counts full attributes (items.Union item) has sorts.Union = refl
item_listed rows scope counts full attributes (items.Union item) has sorts.Enum = refl
item_listed rows scope counts full attributes (items.Union item) has sorts.Interface = refl
item_listed rows scope counts full attributes (items.Union item) has sorts.Const = refl
item_listed rows scope counts full attributes (items.Enum item) has sorts.Struct = refl
item_listed rows scope counts full attributes (items.Enum item) has sorts.Union = refl
item_listed rows scope counts full attributes (items.Enum item) has sorts.Enum = refl
item_listed rows scope counts full attributes (items.Enum item) has sorts.Interface = refl
item_listed rows scope counts full attributes (items.Enum item) has sorts.Const = refl
item_listed rows scope counts full attributes (items.Interface item) has sorts.Struct =
    methods_listed counts.structs (methods_in item.members)
    ∙ ap (range_with_len counts.structs) (sym (structs_length rows (inside scope full) full (methods_in item.members)))
item_listed rows scope counts full attributes (items.Interface item) has sorts.Union =
    methods_alone sorts.Union (λ number. refl) counts.structs (methods_in item.members)
item_listed rows scope counts full attributes (items.Interface item) has sorts.Enum =
    methods_alone sorts.Enum (λ number. refl) counts.structs (methods_in item.members)
item_listed rows scope counts full attributes (items.Interface item) has sorts.Interface =
    ap (λ (ns : List ℕ). counts.interfaces ∷ ns) (methods_alone sorts.Interface (λ number. refl) counts.structs (methods_in item.members))
item_listed rows scope counts full attributes (items.Interface item) has sorts.Const =
    methods_alone sorts.Const (λ number. refl) counts.structs (methods_in item.members)
item_listed rows scope counts full attributes (items.Const item) has sorts.Struct = refl
item_listed rows scope counts full attributes (items.Const item) has sorts.Union = refl
item_listed rows scope counts full attributes (items.Const item) has sorts.Enum = refl
item_listed rows scope counts full attributes (items.Const item) has sorts.Interface = refl
item_listed rows scope counts full attributes (items.Const item) has sorts.Const = const_listed counts.consts (const_row rows scope full item) has

-- files

none_listed : (counts : Counts) → AreListedFrom counts empty
none_listed counts sorts.Struct = refl
none_listed counts sorts.Union = refl
none_listed counts sorts.Enum = refl
none_listed counts sorts.Interface = refl
none_listed counts sorts.Const = refl

all_listed : (rows : List FileRows) (scope : Scope) (counts : Counts) (ds : List Defined) → HaveRowsIn rows scope ds
    → AreListedFrom counts (draft_of_all rows scope counts ds)
all_listed rows scope counts [] has = none_listed counts
all_listed rows scope counts (d ∷ ds) has =
    join_listed (HasRow rows (enclosed scope d.enclosing) d.full d.item) counts (after counts d.item) (draft_of_definition rows scope counts d)
    (draft_of_all rows scope (after counts d.item) ds) (has d (inl refl))
    (item_between rows (enclosed scope d.enclosing) counts d.full d.attributes d.item)
    (item_listed rows (enclosed scope d.enclosing) counts d.full d.attributes d.item (has d (inl refl)))
    (all_listed rows scope (after counts d.item) ds (λ e among. has e (inr among)))

files_listed : (rows : List FileRows) (names : List FileNames) (consts : Consts) (files : List NamedFile) (counts : Counts) (numbers : List ℕ)
    → HaveRows rows names consts files numbers → AreListedFrom counts (draft_from rows names consts files counts numbers)
files_listed rows names consts files counts [] has = none_listed counts
files_listed rows names consts files counts (number ∷ numbers) has =
    let scope = around names consts number None in
    let ds = definitions_at files number in
    join_listed (HaveRowsIn rows scope ds) counts (after_all counts ds) (draft_of_all rows scope counts ds)
    (draft_from rows names consts files (after_all counts ds) numbers) (has number (inl refl)) (all_between rows scope counts ds)
    (all_listed rows scope counts ds (has number (inl refl)))
    (files_listed rows names consts files (after_all counts ds) numbers (λ other among. has other (inr among)))

from_none : (draft : Draft) → AreListedFrom no_rows draft → AreListed draft
from_none draft listed sorts.Struct = listed sorts.Struct
from_none draft listed sorts.Union = listed sorts.Union
from_none draft listed sorts.Enum = listed sorts.Enum
from_none draft listed sorts.Interface = listed sorts.Interface
from_none draft listed sorts.Const = listed sorts.Const

pub listed_once : (files : List NamedFile) (order : List ℕ) (names : Names) (consts : Consts) → IsPassed files order names consts
    → AreListed (draft_of names.files consts files order)
listed_once files order names consts passed =
    from_none (draft_of names.files consts files order)
    (files_listed (rows_of files order) names.files consts files no_rows order (have_rows files order names consts passed))
