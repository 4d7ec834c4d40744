-- Each row that the tables of files name is there.
use Rattle.std.proofs.Common.{◌≡◌, ℕ, ◌+◌, ◌≤◌, List, [], ◌∷◌, ◌++◌, map, refl, sym, ◌∙◌, ap, subst, arith}
use Rattle.std.specs.Prelude.{codes, nat_lt, Bool, true, false, Option, Some, None}
use Rattle.std.specs.Option.{option_to_list}
use Rattle.std.specs.List.{list_all, flat_map}
use Rattle.std.proofs.lemmas.Bool.{lt-ltb, and_from}
use Rattle.std.proofs.lemmas.Grind.{flat_map-append}
use Rattle.std.proofs.lemmas.List.{map-append}
use Rattle.mojom_ast.specs.declared.attributes.Attribute.{Attribute}
use Rattle.mojom_ast.specs.declared.definitions.DefinitionItem.{DefinitionItem}
use Rattle.mojom_ast.specs.declared.definitions.DefinitionItem.TheVariants as items
use Rattle.mojom_ast.specs.declared.definitions.Interface.{Interface}
use Rattle.mojom_ast.specs.declared.definitions.Method.{Method}
use Rattle.mojom_ast.specs.declared.definitions.Parameter.{Parameter}
use Rattle.mojom_files.specs.declared.named_file.NamedFile.{NamedFile}
use Rattle.mojom_files.specs.Definitions.{Defined}
use Rattle.mj_base.specs.Names.{within}
use Rattle.module_resolver.specs.declared.file_names.FileNames.{FileNames}
use Rattle.module_resolver.specs.declared.file_names.Names.{Names}
use Rattle.module_resolver.specs.NamesOf.{names_of}
use Rattle.const_eval.specs.declared.consts.Consts.{Consts}
use Rattle.mj_schema.specs.KindTrees.{KindTree}
use Rattle.mj_schema.specs.WellFormed.{RowCounts, are_within, is_row, has_structs}
use Rattle.mj_schema.specs.declared.rows.ConstRow.{ConstRow}
use Rattle.mj_schema.specs.declared.rows.DraftField.{DraftField}
use Rattle.mj_schema.specs.declared.rows.DraftStruct.{DraftStruct}
use Rattle.mj_schema.specs.declared.rows.InterfaceRow.{InterfaceRow}
use Rattle.mj_schema.specs.declared.rows.UnionFieldRow.{UnionFieldRow}
use Rattle.mj_schema.specs.declared.rows.UnionRow.{UnionRow}
use Rattle.draft_rows.specs.declared.counts.Counts.{Counts}
use Rattle.draft_rows.specs.declared.counts.FileRows.{FileRows}
use Rattle.draft_rows.specs.declared.draft.Draft.{Draft}
use Rattle.kind_scope.specs.Scopes.{Scope, inside, around}
use Rattle.kind_scope.specs.Members.{Member, field_of, union_field_of, parameter_of, numbered, along_ordinals}
use Rattle.draft_rows.specs.RowCounts.{methods_in, structs_of_all, after, after_all, no_rows, definitions_at, rows_of}
use Rattle.draft_rows.specs.InterfaceVersions.{interface_version}
use Rattle.draft_rows.specs.Rows.{is_stable, struct_row, union_row, response_row, method_structs, structs_of_methods, interface_row}
use Rattle.draft_rows.specs.Drafts.{empty, join, methods_order, draft_of_interface, draft_of_item, enclosed, draft_of_definition, draft_of_all, draft_from}
use Rattle.draft_rows.specs.Drafts.{draft_of}
use Rattle.schema_laws.specs.Passed.{IsPassed}
use Rattle.schema_laws.proofs.Tables.{draft_kinds, draft_counts}
use Rattle.schema_laws.proofs.Totals.{after_files, AreBetween, HaveRows, files_between}
use Rattle.schema_laws.proofs.Below.{AreBelow, before_all, before_files, AreThere, targets_there}
use Rattle.schema_laws.proofs.KindsWithin.{fields_within, union_fields_within, const_within}
use Rattle.schema_laws.proofs.MethodRows.{both_pass, methods_there, methods_ordered}

-- the kinds of a struct's fields
abbrev pub struct_kinds : DraftStruct → List KindTree
struct_kinds row = map (λ (f : DraftField). f.kind) row.fields

-- the kinds of a union's fields
abbrev pub union_kinds : UnionRow → List KindTree
union_kinds row = map (λ (f : UnionFieldRow). f.kind) row.fields

-- each row that tables name is among so many
pub record AreRowsThere (total : RowCounts) (draft : Draft) : Type 0 where
  pub structs : list_all (are_within total) (flat_map struct_kinds draft.structs) ≡ true
  pub unions : list_all (are_within total) (flat_map union_kinds draft.unions) ≡ true
  pub consts : list_all (are_within total) (map (λ (row : ConstRow). row.kind) draft.consts) ≡ true
  pub methods : list_all (λ (row : InterfaceRow). list_all (has_structs total.structs) row.methods) draft.interfaces ≡ true
  pub order : list_all (is_row total) draft.order ≡ true

none_there : (total : RowCounts) → AreRowsThere total empty
none_there total = record { structs = refl; unions = refl; consts = refl; methods = refl; order = refl }

flat_pass : {A B : Type 0} (test : B → Bool) (f : A → List B) (xs ys : List A)
    → list_all test (flat_map f xs) ≡ true → list_all test (flat_map f ys) ≡ true
    → list_all test (flat_map f (xs ++ ys)) ≡ true
flat_pass test f xs ys one two = ap (list_all test) (flat_map-append f xs ys) ∙ both_pass test (flat_map f xs) (flat_map f ys) one two

map_pass : {A B : Type 0} (test : B → Bool) (f : A → B) (xs ys : List A)
    → list_all test (map f xs) ≡ true → list_all test (map f ys) ≡ true
    → list_all test (map f (xs ++ ys)) ≡ true
map_pass test f xs ys one two = ap (list_all test) (map-append f xs ys) ∙ both_pass test (map f xs) (map f ys) one two

join_there : (total : RowCounts) (one two : Draft) → AreRowsThere total one → AreRowsThere total two → AreRowsThere total (join one two)
join_there total one two a b = record {
  structs = flat_pass (are_within total) struct_kinds one.structs two.structs a.structs b.structs;
  unions = flat_pass (are_within total) union_kinds one.unions two.unions a.unions b.unions;
  consts = map_pass (are_within total) (λ (row : ConstRow). row.kind) one.consts two.consts a.consts b.consts;
  methods = both_pass (λ (row : InterfaceRow). list_all (has_structs total.structs) row.methods) one.interfaces two.interfaces a.methods b.methods;
  order = both_pass (is_row total) one.order two.order a.order b.order;
}

-- methods

one_struct : (rows : List FileRows) (scope : Scope) (total : RowCounts) (full : List ℕ) (stable : Bool) (members : List Member) (rest : List DraftStruct)
    → AreThere rows scope.names total → list_all (are_within total) (flat_map struct_kinds rest) ≡ true
    → list_all (are_within total) (flat_map struct_kinds (struct_row rows scope full stable members ∷ rest)) ≡ true
one_struct rows scope total full stable members rest there later =
    both_pass (are_within total) (struct_kinds (struct_row rows scope full stable members)) (flat_map struct_kinds rest)
    (fields_within rows scope total (along_ordinals (numbered members)) there) later

response_kinds : (rows : List FileRows) (scope : Scope) (total : RowCounts) (full : List ℕ) (response : Option (List Parameter))
    → AreThere rows scope.names total
    → list_all (are_within total) (flat_map struct_kinds (option_to_list (response_row rows scope full response))) ≡ true
response_kinds rows scope total full None there = refl
response_kinds rows scope total full (Some parameters) there = one_struct rows scope total full false (map parameter_of parameters) [] there refl

method_kinds : (rows : List FileRows) (scope : Scope) (total : RowCounts) (full : List ℕ) (m : Method)
    → AreThere rows scope.names total
    → list_all (are_within total) (flat_map struct_kinds (method_structs rows scope full m)) ≡ true
method_kinds rows scope total full m there =
    one_struct rows scope total (within full (codes "request")) false (map parameter_of m.request)
    (option_to_list (response_row rows scope (within full (codes "response")) m.response)) there
    (response_kinds rows scope total (within full (codes "response")) m.response there)

methods_kinds : (rows : List FileRows) (scope : Scope) (total : RowCounts) (full : List ℕ) (methods : List Method)
    → AreThere rows scope.names total
    → list_all (are_within total) (flat_map struct_kinds (structs_of_methods rows scope full methods)) ≡ true
methods_kinds rows scope total full [] there = refl
methods_kinds rows scope total full (m ∷ ms) there =
    flat_pass (are_within total) struct_kinds (method_structs rows scope (within full m.name.text) m) (structs_of_methods rows scope full ms)
    (method_kinds rows scope total (within full m.name.text) m there) (methods_kinds rows scope total full ms there)

-- definitions

one_ordered : (number count : ℕ) → number + 1 ≤ count → nat_lt number count ≡ true
one_ordered number count below = lt-ltb number count (omega arith)

interface_there : (rows : List FileRows) (scope : Scope) (total : RowCounts) (counts : Counts) (full : List ℕ) (attributes : List Attribute)
    (item : Interface)
    → AreThere rows scope.names total → counts.structs + structs_of_all (methods_in item.members) ≤ total.structs
    → counts.interfaces + 1 ≤ total.interfaces
    → AreRowsThere total (draft_of_interface rows scope counts full attributes item)
interface_there rows scope total counts full attributes item there structs interfaces = record {
  structs = methods_kinds rows scope total full (methods_in item.members) there;
  unions = refl;
  consts = refl;
  methods =
      and_from (list_all (has_structs total.structs)
      (interface_row full counts.structs (methods_in item.members) (interface_version scope item.members) (is_stable attributes)).methods) true
      (methods_there 0 counts.structs total.structs (methods_in item.members) structs) refl;
  order =
      and_from (nat_lt counts.interfaces total.interfaces) (list_all (is_row total) (methods_order counts.structs (methods_in item.members)))
      (one_ordered counts.interfaces total.interfaces interfaces) (methods_ordered total counts.structs (methods_in item.members) structs);
}

-- each row that the tables of a definition name is there
pub item_rows : (rows : List FileRows) (scope : Scope) (total : RowCounts) (counts : Counts) (full : List ℕ) (attributes : List Attribute)
    (item : DefinitionItem)
    → AreThere rows scope.names total → AreBelow (after counts item) total
    → AreRowsThere total (draft_of_item rows scope counts full attributes item)
item_rows rows scope total counts full attributes (items.Struct item) there below = record {
  structs = one_struct rows (inside scope full) total full (is_stable attributes) (flat_map field_of item.members) [] there refl;
  unions = refl;
  consts = refl;
  methods = refl;
  order = and_from (nat_lt counts.structs total.structs) true (one_ordered counts.structs total.structs below.structs) refl;
}
item_rows rows scope total counts full attributes (items.Union item) there below = record {
  structs = refl;
  unions =
      both_pass (are_within total) (union_kinds (union_row rows (inside scope full) full attributes (map union_field_of item.fields))) []
      (union_fields_within rows (inside scope full) total (numbered (map union_field_of item.fields)) there) refl;
  consts = refl;
  methods = refl;
  order = and_from (nat_lt counts.unions total.unions) true (one_ordered counts.unions total.unions below.unions) refl;
}
item_rows rows scope total counts full attributes (items.Enum item) there below = record {
  structs = refl;
  unions = refl;
  consts = refl;
  methods = refl;
  order = and_from (nat_lt counts.enums total.enums) true (one_ordered counts.enums total.enums below.enums) refl;
}
item_rows rows scope total counts full attributes (items.Interface item) there below =
    interface_there rows (inside scope full) total counts full attributes item there below.structs below.interfaces
item_rows rows scope total counts full attributes (items.Const item) there below = record {
  structs = refl;
  unions = refl;
  consts = const_within rows scope total full item there;
  methods = refl;
  order = and_from (nat_lt counts.consts total.consts) true (one_ordered counts.consts total.consts below.consts) refl;
}

-- the same of definitions of a file
pub all_rows : (rows : List FileRows) (scope : Scope) (total : RowCounts) (counts : Counts) (ds : List Defined)
    → AreThere rows scope.names total → AreBelow (after_all counts ds) total
    → AreRowsThere total (draft_of_all rows scope counts ds)
all_rows rows scope total counts [] there below = none_there total
all_rows rows scope total counts (d ∷ ds) there below =
    join_there total (draft_of_definition rows scope counts d) (draft_of_all rows scope (after counts d.item) ds)
    (item_rows rows (enclosed scope d.enclosing) total counts d.full d.attributes d.item there (before_all (after counts d.item) ds total below))
    (all_rows rows scope total (after counts d.item) ds there below)

-- the same of files
pub files_rows : (rows : List FileRows) (names : List FileNames) (consts : Consts) (files : List NamedFile) (total : RowCounts) (counts : Counts)
    (numbers : List ℕ)
    → AreThere rows names total → AreBelow (after_files files counts numbers) total
    → AreRowsThere total (draft_from rows names consts files counts numbers)
files_rows rows names consts files total counts [] there below = none_there total
files_rows rows names consts files total counts (number ∷ numbers) there below =
    join_there total (draft_of_all rows (around names consts number None) counts (definitions_at files number))
    (draft_from rows names consts files (after_all counts (definitions_at files number)) numbers)
    (all_rows rows (around names consts number None) total counts (definitions_at files number) there
    (before_files files (after_all counts (definitions_at files number)) numbers total below))
    (files_rows rows names consts files total (after_all counts (definitions_at files number)) numbers there below)

-- the whole

all_below : (have : Type 0) (behind : Counts) (draft : Draft) → AreBetween have no_rows draft behind → have → AreBelow behind (draft_counts draft)
all_below have behind draft between has = let consts = between.consts has in omega (arith, between, consts)

-- the tables of files have as many rows as are counted, of constants where each has a row
pub draft_between : (files : List NamedFile) (order : List ℕ) (names : List FileNames) (consts : Consts)
    → AreBetween (HaveRows (rows_of files order) names consts files order) no_rows (draft_of names consts files order) (after_files files no_rows order)
draft_between files order names consts = files_between (rows_of files order) names consts files no_rows order

-- where each constant has a row, each row that the tables of files name is there
pub draft_rows : (files : List NamedFile) (order : List ℕ) (names : Names) (consts : Consts)
    → names ≡ names_of files order → HaveRows (rows_of files order) names.files consts files order
    → AreRowsThere (draft_counts (draft_of names.files consts files order)) (draft_of names.files consts files order)
draft_rows files order names consts are has =
    files_rows (rows_of files order) names.files consts files (draft_counts (draft_of names.files consts files order)) no_rows order
    (subst (λ (n : Names). AreThere (rows_of files order) n.files (draft_counts (draft_of names.files consts files order))) (sym are)
    (targets_there files order (draft_counts (draft_of names.files consts files order)) below))
    below
  where
    below : AreBelow (after_files files no_rows order) (draft_counts (draft_of names.files consts files order))
    below =
        all_below (HaveRows (rows_of files order) names.files consts files order) (after_files files no_rows order)
        (draft_of names.files consts files order) (draft_between files order names.files consts) has

-- the same of files of which no stage refuses anything
pub passed_rows : (files : List NamedFile) (order : List ℕ) (names : Names) (consts : Consts)
    → IsPassed files order names consts → HaveRows (rows_of files order) names.files consts files order
    → AreRowsThere (draft_counts (draft_of names.files consts files order)) (draft_of names.files consts files order)
passed_rows files order names consts passed has = draft_rows files order names consts passed.named.are has

-- the kinds of all fields and constants name rows that are there
pub kinds_there : (total : RowCounts) (draft : Draft) → AreRowsThere total draft → list_all (are_within total) (draft_kinds draft) ≡ true
kinds_there total draft there =
    both_pass (are_within total) (flat_map struct_kinds draft.structs)
    (flat_map union_kinds draft.unions ++ map (λ (row : ConstRow). row.kind) draft.consts) there.structs
    (both_pass (are_within total) (flat_map union_kinds draft.unions) (map (λ (row : ConstRow). row.kind) draft.consts) there.unions there.consts)
