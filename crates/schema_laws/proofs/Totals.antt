-- How many rows tables have: as many as are counted.
use Rattle.std.proofs.Common.{◌≡◌, ℕ, ◌+◌, List, [], ◌∷◌, ◌++◌, length, refl, inl, inr, arith, length-append}
use Rattle.std.specs.Prelude.{codes, true, Option, Some, None}
use Rattle.std.specs.Option.{is_some, option_to_list}
use Rattle.std.proofs.lemmas.List.Sums.{sum_by-cons}
use Rattle.mojom_ast.specs.declared.attributes.Attribute.{Attribute}
use Rattle.mojom_ast.specs.declared.definitions.DefinitionItem.{DefinitionItem}
use Rattle.mojom_ast.specs.declared.definitions.DefinitionItem.TheVariants as items
use Rattle.mojom_ast.specs.declared.definitions.Method.{Method}
use Rattle.mojom_ast.specs.declared.definitions.Parameter.{Parameter}
use Rattle.mojom_files.specs.declared.named_file.NamedFile.{NamedFile}
use Rattle.mojom_files.specs.Definitions.{Defined}
use Rattle.mj_base.specs.Names.{within}
use Rattle.module_resolver.specs.declared.file_names.FileNames.{FileNames}
use Rattle.const_eval.specs.declared.consts.Consts.{Consts}
use Rattle.draft_rows.specs.declared.counts.Counts.{Counts}
use Rattle.draft_rows.specs.declared.counts.FileRows.{FileRows}
use Rattle.draft_rows.specs.declared.draft.Draft.{Draft}
use Rattle.kind_scope.specs.Scopes.{Scope, inside, around}
use Rattle.draft_rows.specs.RowCounts.{methods_in, structs_with, structs_of, structs_of_all, after, after_all, definitions_at}
use Rattle.draft_rows.specs.Rows.{const_row, response_row, method_structs, structs_of_methods}
use Rattle.draft_rows.specs.Drafts.{empty, join, draft_of_item, enclosed, draft_of_definition, draft_of_all, draft_from}
use Rattle.schema_laws.proofs.Among.{IsAmong}

-- so many rows, and those of the files of these numbers
abbrev pub after_files : List NamedFile → Counts → List ℕ → Counts
after_files files counts [] = counts
after_files files counts (number ∷ numbers) = after_files files (after_all counts (definitions_at files number)) numbers

-- so many rows as stand before tables, and those of the tables; of constants where they have their rows
pub record AreBetween (have : Type 0) (before : Counts) (draft : Draft) (behind : Counts) : Type 0 where
  pub structs : behind.structs ≡ before.structs + length draft.structs
  pub unions : behind.unions ≡ before.unions + length draft.unions
  pub enums : behind.enums ≡ before.enums + length draft.enums
  pub interfaces : behind.interfaces ≡ before.interfaces + length draft.interfaces
  pub consts : have → behind.consts ≡ before.consts + length draft.consts

none_between : (have : Type 0) (counts : Counts) → AreBetween have counts empty counts
none_between have counts = omega arith

joined : {A : Type 0} (xs ys : List A) (before middle behind : ℕ)
    → middle ≡ before + length xs → behind ≡ middle + length ys
    → behind ≡ before + length (xs ++ ys)
joined xs ys before middle behind one two = let long = length-append xs ys in omega (arith, long, one, two)

join_between : (have first second : Type 0) (before middle behind : Counts) (one two : Draft)
    → (have → first) → (have → second) → AreBetween first before one middle → AreBetween second middle two behind
    → AreBetween have before (join one two) behind
join_between have first second before middle behind one two to_first to_second a b = record {
  structs = joined one.structs two.structs before.structs middle.structs behind.structs a.structs b.structs;
  unions = joined one.unions two.unions before.unions middle.unions behind.unions a.unions b.unions;
  enums = joined one.enums two.enums before.enums middle.enums behind.enums a.enums b.enums;
  interfaces = joined one.interfaces two.interfaces before.interfaces middle.interfaces behind.interfaces a.interfaces b.interfaces;
  consts = λ has. joined one.consts two.consts before.consts middle.consts behind.consts (a.consts (to_first has)) (b.consts (to_second has));
}

-- methods

response_length : (rows : List FileRows) (scope : Scope) (full : List ℕ) (response : Option (List Parameter))
    → 1 + length (option_to_list (response_row rows scope full response)) ≡ structs_with response
response_length rows scope full None = refl
response_length rows scope full (Some parameters) = refl

pub method_length : (rows : List FileRows) (scope : Scope) (full : List ℕ) (m : Method)
    → length (method_structs rows scope full m) ≡ structs_of m
method_length rows scope full m =
    let response = response_length rows scope (within full (codes "response")) m.response in
    omega (arith, response)

-- there are as many structs of methods as are counted
pub structs_length : (rows : List FileRows) (scope : Scope) (full : List ℕ) (methods : List Method)
    → length (structs_of_methods rows scope full methods) ≡ structs_of_all methods
structs_length rows scope full [] = refl
structs_length rows scope full (m ∷ ms) =
    let here = method_length rows scope (within full m.name.text) m in
    let later = structs_length rows scope full ms in
    let long = length-append (method_structs rows scope (within full m.name.text) m) (structs_of_methods rows scope full ms) in
    let sum = sum_by-cons structs_of m ms in
    omega (arith, here, later, long, sum)

-- definitions

-- where the definition is a constant, it has a row
abbrev pub HasRow : List FileRows → Scope → List ℕ → DefinitionItem → Type 0
HasRow rows scope full (items.Const c) = is_some (const_row rows scope full c) ≡ true
HasRow rows scope full _ = Unit {0}

one_row : {A : Type 0} (found : Option A) → is_some found ≡ true → length (option_to_list found) ≡ 1
one_row None has = absurd cc
one_row (Some row) has = refl

-- the tables of a definition have the rows that are counted
pub item_between : (rows : List FileRows) (scope : Scope) (counts : Counts) (full : List ℕ) (attributes : List Attribute) (item : DefinitionItem)
    → AreBetween (HasRow rows scope full item) counts (draft_of_item rows scope counts full attributes item) (after counts item)
item_between rows scope counts full attributes (items.Struct item) = omega arith
item_between rows scope counts full attributes (items.Union item) = omega arith
item_between rows scope counts full attributes (items.Enum item) = omega arith
item_between rows scope counts full attributes (items.Interface item) =
    let long = structs_length rows (inside scope full) full (methods_in item.members) in
    omega (arith, long)
item_between rows scope counts full attributes (items.Const item) = record {
  structs = omega arith;
  unions = omega arith;
  enums = omega arith;
  interfaces = omega arith;
  consts = λ has. let one = one_row (const_row rows scope full item) has in omega (arith, one);
}

-- each constant among these definitions has a row
abbrev pub HaveRowsIn : List FileRows → Scope → List Defined → Type 0
HaveRowsIn rows scope ds = (d : Defined) → IsAmong ds d → HasRow rows (enclosed scope d.enclosing) d.full d.item

-- the same of definitions of a file
pub all_between : (rows : List FileRows) (scope : Scope) (counts : Counts) (ds : List Defined)
    → AreBetween (HaveRowsIn rows scope ds) counts (draft_of_all rows scope counts ds) (after_all counts ds)
all_between rows scope counts [] = none_between (HaveRowsIn rows scope []) counts
all_between rows scope counts (d ∷ ds) =
    join_between (HaveRowsIn rows scope (d ∷ ds)) (HasRow rows (enclosed scope d.enclosing) d.full d.item) (HaveRowsIn rows scope ds) counts
    (after counts d.item) (after_all (after counts d.item) ds) (draft_of_definition rows scope counts d)
    (draft_of_all rows scope (after counts d.item) ds) (λ has. has d (inl refl)) (λ has e among. has e (inr among))
    (item_between rows (enclosed scope d.enclosing) counts d.full d.attributes d.item) (all_between rows scope (after counts d.item) ds)

-- each constant of the files of these numbers has a row
abbrev pub HaveRows : List FileRows → List FileNames → Consts → List NamedFile → List ℕ → Type 0
HaveRows rows names consts files numbers =
    (number : ℕ) → IsAmong numbers number → HaveRowsIn rows (around names consts number None) (definitions_at files number)

-- the same of files
pub files_between : (rows : List FileRows) (names : List FileNames) (consts : Consts) (files : List NamedFile) (counts : Counts) (numbers : List ℕ)
    → AreBetween (HaveRows rows names consts files numbers) counts (draft_from rows names consts files counts numbers)
    (after_files files counts numbers)
files_between rows names consts files counts [] = none_between (HaveRows rows names consts files []) counts
files_between rows names consts files counts (number ∷ numbers) =
    join_between (HaveRows rows names consts files (number ∷ numbers))
    (HaveRowsIn rows (around names consts number None) (definitions_at files number)) (HaveRows rows names consts files numbers) counts
    (after_all counts (definitions_at files number)) (after_files files counts (number ∷ numbers))
    (draft_of_all rows (around names consts number None) counts (definitions_at files number))
    (draft_from rows names consts files (after_all counts (definitions_at files number)) numbers) (λ has. has number (inl refl))
    (λ has other among. has other (inr among)) (all_between rows (around names consts number None) counts (definitions_at files number))
    (files_between rows names consts files (after_all counts (definitions_at files number)) numbers)
