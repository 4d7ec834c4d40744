-- Where nothing is refused, the rows of structs, unions, enums and interfaces have the members that they are to have.
use Rattle.std.proofs.Common.{◌≡◌, ℕ, List, [], ◌∷◌, ◌++◌, map, refl, ◌∙◌, arith}
use Rattle.std.specs.Prelude.{Bool, true, false, ◌&&◌, codes, Option, Some, None}
use Rattle.std.specs.List.{list_all, flat_map, AllByRecursion}
use Rattle.std.specs.Option.{option_to_list}
use Rattle.std.specs.Cmp.Derive.{both_true}
use Rattle.std.proofs.lemmas.List.Folds.{list_all-append}
use Rattle.mojom_ast.specs.declared.attributes.Attribute.{Attribute}
use Rattle.mojom_ast.specs.declared.definitions.DefinitionItem.{DefinitionItem}
use Rattle.mojom_ast.specs.declared.definitions.DefinitionItem.TheVariants as items
use Rattle.mojom_ast.specs.declared.definitions.InterfaceMember.{InterfaceMember}
use Rattle.mojom_ast.specs.declared.definitions.InterfaceItem.{InterfaceItem}
use Rattle.mojom_ast.specs.declared.definitions.InterfaceItem.TheVariants as interface_items
use Rattle.mojom_ast.specs.declared.definitions.Method.{Method}
use Rattle.mojom_ast.specs.declared.definitions.Parameter.{Parameter}
use Rattle.mojom_ast.specs.declared.names.Identifier.{Identifier}
use Rattle.mojom_files.specs.declared.named_file.NamedFile.{NamedFile}
use Rattle.mj_base.specs.Names.{within}
use Rattle.module_resolver.specs.declared.file_names.Names.{Names}
use Rattle.const_eval.specs.declared.consts.Consts.{Consts}
use Rattle.mj_schema.specs.WellFormed.{has_distinct_tags, has_distinct_ordinals, has_members}
use Rattle.draft_rows.specs.declared.counts.Counts.{Counts}
use Rattle.draft_rows.specs.declared.counts.FileRows.{FileRows}
use Rattle.draft_rows.specs.declared.draft.Draft.{Draft}
use Rattle.kind_refusals.specs.declared.list_sort.ListSort.TheVariants.{Fields, UnionFields, Methods, Parameters}
use Rattle.kind_scope.specs.Scopes.{Scope, inside, around}
use Rattle.kind_scope.specs.Members.{field_of, union_field_of, method_of, parameter_of}
use Rattle.kind_refusals.specs.KindRefusals.{refused_list, refused_parameters, refused_response, refused_in_item, refused_in_interface, refused_item}
use Rattle.draft_rows.specs.RowCounts.{method_among, methods_in, no_rows, rows_of}
use Rattle.draft_rows.specs.Rows.{is_stable, parameters_row, response_row, method_structs, structs_of_methods}
use Rattle.draft_rows.specs.Drafts.{empty, join, draft_of_item, draft_of}
use Rattle.schema_laws.specs.Passed.{IsPassed}
use Rattle.schema_laws.specs.Whole.{CanBeLaidOut}
use Rattle.schema_laws.proofs.Among.{each_append}
use Rattle.schema_laws.proofs.Quiet.{both_empty, quiet}
use Rattle.schema_laws.proofs.Lift.{lift}
use Rattle.schema_laws.proofs.Rising.{laid_out, none_double}
use Rattle.schema_laws.proofs.Different.{different_tags, different_ordinals}
use Rattle.schema_laws.proofs.Enums.{enum_members}

-- structs can be laid out, tags and ordinals stand once, and enums have members
pub record HaveMembers (draft : Draft) : Type 0 where
  pub structs : AllByRecursion CanBeLaidOut draft.structs
  pub unions : list_all has_distinct_tags draft.unions ≡ true
  pub enums : list_all has_members draft.enums ≡ true
  pub interfaces : list_all has_distinct_ordinals draft.interfaces ≡ true

-- methods

parameters_laid_out : (rows : List FileRows) (scope : Scope) (full : List ℕ) (owner : Identifier) (parameters : List Parameter)
    → refused_parameters scope owner parameters ≡ [] → CanBeLaidOut (parameters_row rows scope full parameters)
parameters_laid_out rows scope full owner parameters e =
    laid_out rows scope full false owner Parameters (map parameter_of parameters) refl (omega arith) e

response_laid_out : (rows : List FileRows) (scope : Scope) (full : List ℕ) (owner : Identifier) (response : Option (List Parameter))
    → refused_response scope owner response ≡ [] → AllByRecursion CanBeLaidOut (option_to_list (response_row rows scope full response))
response_laid_out rows scope full owner None e = tt
response_laid_out rows scope full owner (Some parameters) e = (parameters_laid_out rows scope full owner parameters e, tt)

method_laid_out : (rows : List FileRows) (scope : Scope) (full : List ℕ) (m : Method)
    → refused_parameters scope m.name m.request ++ refused_response scope m.name m.response ≡ []
    → AllByRecursion CanBeLaidOut (method_structs rows scope full m)
method_laid_out rows scope full m e =
    let parts = both_empty (refused_parameters scope m.name m.request) (refused_response scope m.name m.response) e in (
      parameters_laid_out rows scope (within full (codes "request")) m.name m.request parts.0,
      response_laid_out rows scope (within full (codes "response")) m.name m.response parts.1,
    )

item_laid_out : (rows : List FileRows) (scope : Scope) (full : List ℕ) (item : InterfaceItem) (ms : List InterfaceMember)
    → refused_in_item scope item ≡ [] → AllByRecursion CanBeLaidOut (structs_of_methods rows scope full (methods_in ms))
    → AllByRecursion CanBeLaidOut (structs_of_methods rows scope full (method_among item ++ methods_in ms))
item_laid_out rows scope full (interface_items.Method m) ms e rest =
    each_append CanBeLaidOut (method_structs rows scope (within full m.name.text) m) (structs_of_methods rows scope full (methods_in ms))
    (method_laid_out rows scope (within full m.name.text) m e) rest
item_laid_out rows scope full (interface_items.Const c) ms e rest = rest
item_laid_out rows scope full (interface_items.Enum c) ms e rest = rest

methods_laid_out : (rows : List FileRows) (scope : Scope) (full : List ℕ) (ms : List InterfaceMember)
    → flat_map (refused_in_interface scope) ms ≡ [] → AllByRecursion CanBeLaidOut (structs_of_methods rows scope full (methods_in ms))
methods_laid_out rows scope full [] e = tt
methods_laid_out rows scope full (m ∷ ms) e =
    let parts = both_empty (refused_in_interface scope m) (flat_map (refused_in_interface scope) ms) e in
    item_laid_out rows scope full m.item ms parts.0 (methods_laid_out rows scope full ms parts.1)

-- definitions

alone : {b : Bool} → b ≡ true → (b && true) ≡ true
alone e = both_true e refl

item_members : (rows : List FileRows) (scope : Scope) (counts : Counts) (full : List ℕ) (attributes : List Attribute) (item : DefinitionItem)
    → refused_item scope full item ≡ [] → HaveMembers (draft_of_item rows scope counts full attributes item)
item_members rows scope counts full attributes (items.Struct item) e = record {
  structs = (laid_out rows (inside scope full) full (is_stable attributes) item.name Fields (flat_map field_of item.members) refl (omega arith) e, tt);
  unions = refl;
  enums = refl;
  interfaces = refl;
}
item_members rows scope counts full attributes (items.Union item) e = record {
  structs = tt;
  unions = alone (different_tags rows (inside scope full) (map union_field_of item.fields)
      (none_double (inside scope full) item.name UnionFields (map union_field_of item.fields) e));
  enums = refl;
  interfaces = refl;
}
item_members rows scope counts full attributes (items.Enum item) e = record {
  structs = tt;
  unions = refl;
  enums = alone (enum_members (inside scope full) scope full attributes item e);
  interfaces = refl;
}
item_members rows scope counts full attributes (items.Interface item) e =
    let methods = refused_list (inside scope full) item.name Methods (flat_map method_of item.members) in
    let parts = both_empty methods (flat_map (refused_in_interface (inside scope full)) item.members) e in
    let distinct = none_double (inside scope full) item.name Methods (flat_map method_of item.members) parts.0 in
    record {
      structs = methods_laid_out rows (inside scope full) full item.members parts.1;
      unions = refl;
      enums = refl;
      interfaces = alone (different_ordinals item.members counts.structs distinct);
    }
item_members rows scope counts full attributes (items.Const item) e = record { structs = tt; unions = refl; enums = refl; interfaces = refl }

-- files

none_there : HaveMembers empty
none_there = record { structs = tt; unions = refl; enums = refl; interfaces = refl }

all_of : {A : Type 0} (test : A → Bool) (xs ys : List A) → list_all test xs ≡ true → list_all test ys ≡ true → list_all test (xs ++ ys) ≡ true
all_of test xs ys one two = list_all-append test xs ys ∙ both_true one two

joined : (one two : Draft) → HaveMembers one → HaveMembers two → HaveMembers (join one two)
joined one two a b = record {
  structs = each_append CanBeLaidOut one.structs two.structs a.structs b.structs;
  unions = all_of has_distinct_tags one.unions two.unions a.unions b.unions;
  enums = all_of has_members one.enums two.enums a.enums b.enums;
  interfaces = all_of has_distinct_ordinals one.interfaces two.interfaces a.interfaces b.interfaces;
}

pub have_members : (files : List NamedFile) (order : List ℕ) (names : Names) (consts : Consts) → IsPassed files order names consts
    → HaveMembers (draft_of names.files consts files order)
have_members files order names consts is =
    lift HaveMembers (rows_of files order) names.files consts files order none_there joined
    (λ number among counts d of.
    item_members (rows_of files order) (around names.files consts number d.enclosing) counts d.full d.attributes d.item
    (quiet names.files consts files order number d is.kinds among of))
    no_rows
