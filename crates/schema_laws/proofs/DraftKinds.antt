-- The kinds of tables where nothing is refused are allowed.
use Rattle.std.proofs.Common.{◌≡◌, ℕ, List, [], refl, ap, subst}
use Rattle.std.specs.Prelude.{Bool, true, false, not, map, length, codes, Option, Some, None, option_and_then}
use Rattle.std.specs.List.{AllByRecursion, flat_map, list_all}
use Rattle.std.specs.Option.{option_map, option_to_list}
use Rattle.mojom_ast.specs.TypeTrees.{TypeTree}
use Rattle.mojom_ast.specs.declared.names.Identifier.{Identifier}
use Rattle.mojom_ast.specs.declared.attributes.Attribute.{Attribute}
use Rattle.mojom_ast.specs.declared.definitions.Const.{Const}
use Rattle.mojom_ast.specs.declared.definitions.DefinitionItem.{DefinitionItem}
use Rattle.mojom_ast.specs.declared.definitions.DefinitionItem.TheVariants as items
use Rattle.mojom_ast.specs.declared.definitions.InterfaceMember.{InterfaceMember}
use Rattle.mojom_ast.specs.declared.definitions.InterfaceItem.{InterfaceItem}
use Rattle.mojom_ast.specs.declared.definitions.InterfaceItem.TheVariants as interface_items
use Rattle.mojom_ast.specs.declared.definitions.Method.{Method}
use Rattle.mojom_ast.specs.declared.definitions.Parameter.{Parameter}
use Rattle.mj_base.specs.Names.{within}
use Rattle.mojom_files.specs.Definitions.{Defined}
use Rattle.mojom_files.specs.declared.named_file.NamedFile.{NamedFile}
use Rattle.module_resolver.specs.declared.file_names.FileNames.{FileNames}
use Rattle.module_resolver.specs.declared.file_names.Names.{Names}
use Rattle.const_eval.specs.declared.consts.Consts.{Consts}
use Rattle.mj_schema.specs.KindTrees.{KindTree}
use Rattle.mj_schema.specs.Parts.{has_flag}
use Rattle.mj_schema.specs.WellFormed.{is_allowed, other_kinds}
use Rattle.mj_schema.specs.declared.rows.DraftField.{DraftField}
use Rattle.mj_schema.specs.declared.rows.DraftStruct.{DraftStruct}
use Rattle.mj_schema.specs.declared.rows.UnionFieldRow.{UnionFieldRow}
use Rattle.mj_schema.specs.declared.rows.UnionRow.{UnionRow}
use Rattle.mj_schema.specs.declared.rows.ConstRow.{ConstRow}
use Rattle.mj_schema.specs.declared.rows.Literal.{Literal}
use Rattle.draft_rows.specs.declared.counts.Counts.{Counts}
use Rattle.draft_rows.specs.declared.counts.FileRows.{FileRows}
use Rattle.draft_rows.specs.declared.draft.Draft.{Draft}
use Rattle.kind_refusals.specs.declared.list_sort.ListSort.{ListSort}
use Rattle.kind_refusals.specs.declared.list_sort.ListSort.TheVariants.{Fields, UnionFields, Parameters}
use Rattle.kind_scope.specs.Scopes.{Scope, inside, around}
use Rattle.kind_scope.specs.Members.{Member, Numbered, field_of, union_field_of, parameter_of, numbered, along_ordinals}
use Rattle.kind_refusals.specs.TypeRefusals.{refused_in_option, refused_in_member, refused_in_type}
use Rattle.kind_refusals.specs.KindRefusals.{limit_of, is_struct, refused_count, refused_numbers, refused_list, refused_parameters, refused_response, refused_in_item}
use Rattle.kind_refusals.specs.KindRefusals.{refused_in_interface, refused_item, refused_definition, kinds_refusal}
use Rattle.draft_rows.specs.RowCounts.{method_among, methods_in, rows_of, no_rows}
use Rattle.draft_rows.specs.Kinds.{kind_of}
use Rattle.draft_rows.specs.Rows.{kind_in, field_with, field_row, is_stable, struct_row, union_field_with, union_field_row, union_row, const_with, const_row, literal_in}
use Rattle.draft_rows.specs.Rows.{parameters_row, response_row, method_structs, structs_of_methods}
use Rattle.draft_rows.specs.Drafts.{empty, join, draft_of_item, draft_of_definition, draft_of}
use Rattle.schema_laws.specs.Passed.{IsPassed}
use Rattle.schema_laws.proofs.Among.{each_append}
use Rattle.schema_laws.proofs.Quiet.{both_empty, quiet}
use Rattle.schema_laws.proofs.Lift.{lift}
use Rattle.schema_laws.proofs.Tables.{draft_kinds}
use Rattle.schema_laws.proofs.Each.{all_empty, all_map, all_flat, all_so, all_found, all_along, all_numbered, all_tested}
use Rattle.schema_laws.proofs.Flagless.{no_flag}
use Rattle.schema_laws.proofs.Allowed.{allowed_base}

abbrev pub IsFieldAllowed : DraftField → Type 0
IsFieldAllowed field = is_allowed field.kind ≡ true

abbrev pub IsStructAllowed : DraftStruct → Type 0
IsStructAllowed row = AllByRecursion IsFieldAllowed row.fields

-- a kind that is allowed and has no flag
abbrev pub IsFlagless : KindTree → Type 0
IsFlagless kind = (is_allowed kind ≡ true) × (not (has_flag kind) ≡ true)

abbrev pub IsUnionFieldAllowed : UnionFieldRow → Type 0
IsUnionFieldAllowed field = IsFlagless field.kind

abbrev pub IsUnionAllowed : UnionRow → Type 0
IsUnionAllowed row = AllByRecursion IsUnionFieldAllowed row.fields

abbrev pub IsConstAllowed : ConstRow → Type 0
IsConstAllowed row = IsFlagless row.kind

-- the kinds of all fields, and of all constants, are allowed, and only fields of structs have flags
pub record AreAllowed (draft : Draft) : Type 0 where
  pub structs : AllByRecursion IsStructAllowed draft.structs
  pub unions : AllByRecursion IsUnionAllowed draft.unions
  pub consts : AllByRecursion IsConstAllowed draft.consts

pub empty_allowed : AreAllowed empty
empty_allowed = record { structs = tt; unions = tt; consts = tt }

pub join_allowed : (one two : Draft) → AreAllowed one → AreAllowed two → AreAllowed (join one two)
join_allowed one two a b = record {
  structs = each_append IsStructAllowed one.structs two.structs a.structs b.structs;
  unions = each_append IsUnionAllowed one.unions two.unions a.unions b.unions;
  consts = each_append IsConstAllowed one.consts two.consts a.consts b.consts;
}

-- nothing is refused in the type of a member: of a struct or a list of parameters, or of a union
abbrev pub IsQuiet : Scope → (field : Bool) → Member → Type 0
IsQuiet scope field member = refused_in_member scope field member ≡ []

module _ (rows : List FileRows) (scope : Scope) where
  kind_allowed : (name : Identifier) (kind : Option TypeTree) (k : KindTree) → refused_in_option scope name true kind ≡ []
      → kind_in rows scope kind ≡ Some k → is_allowed k ≡ true
  kind_allowed name None k e is = absurd cc
  kind_allowed name (Some type) k e is = allowed_base rows scope name true type.base type.nullable e k is

  -- a type that isn't that of a field of a struct or of a parameter
  type_flagless : (name : Identifier) (type : TypeTree) (k : KindTree) → refused_in_type scope name false type ≡ []
      → kind_of rows scope type ≡ Some k → IsFlagless k
  type_flagless name type k e is =
      let none = no_flag rows scope name type.base type.nullable e k is in
      (allowed_base rows scope name false type.base type.nullable e k is, ap not none)

  kind_flagless : (name : Identifier) (kind : Option TypeTree) (k : KindTree) → refused_in_option scope name false kind ≡ []
      → kind_in rows scope kind ≡ Some k → IsFlagless k
  kind_flagless name None k e is = absurd cc
  kind_flagless name (Some type) k e is = type_flagless name type k e is

  field_is : (member : Member) (found : Option KindTree) (field : DraftField) → option_map (field_with scope member) found ≡ Some field
      → ((k : KindTree) → found ≡ Some k → is_allowed k ≡ true) → IsFieldAllowed field
  field_is member None field e is = absurd cc
  field_is member (Some k) field e is = let same : field_with scope member k ≡ field = cc in subst IsFieldAllowed same (is k refl)

  field_allowed : (one : Numbered) (field : DraftField) → IsQuiet scope true one.member → field_row rows scope one ≡ Some field
      → IsFieldAllowed field
  field_allowed one field e is =
      field_is one.member (kind_in rows scope one.member.kind) field is (λ k found. kind_allowed one.member.name one.member.kind k e found)

  struct_allowed : (full : List ℕ) (stable : Bool) (members : List Member) → AllByRecursion (IsQuiet scope true) members
      → IsStructAllowed (struct_row rows scope full stable members)
  struct_allowed full stable members all =
      let each = all_numbered (IsQuiet scope true) 0 members all in
      let sorted = all_along (λ (one : Numbered). IsQuiet scope true one.member) (λ (one : Numbered). one.ordinal) (numbered members) each in
      all_found (λ (one : Numbered). IsQuiet scope true one.member) IsFieldAllowed (field_row rows scope) field_allowed
      (along_ordinals (numbered members)) sorted

  union_field_is : (one : Numbered) (found : Option KindTree) (field : UnionFieldRow) → option_map (union_field_with one) found ≡ Some field
      → ((k : KindTree) → found ≡ Some k → IsFlagless k) → IsUnionFieldAllowed field
  union_field_is one None field e is = absurd cc
  union_field_is one (Some k) field e is = let same : union_field_with one k ≡ field = cc in subst IsUnionFieldAllowed same (is k refl)

  union_field_allowed : (one : Numbered) (field : UnionFieldRow) → IsQuiet scope false one.member → union_field_row rows scope one ≡ Some field
      → IsUnionFieldAllowed field
  union_field_allowed one field e is =
      union_field_is one (kind_in rows scope one.member.kind) field is (λ k found. kind_flagless one.member.name one.member.kind k e found)

  union_allowed : (full : List ℕ) (attributes : List Attribute) (members : List Member) → AllByRecursion (IsQuiet scope false) members
      → IsUnionAllowed (union_row rows scope full attributes members)
  union_allowed full attributes members all =
      let each = all_numbered (IsQuiet scope false) 0 members all in
      all_found (λ (one : Numbered). IsQuiet scope false one.member) IsUnionFieldAllowed (union_field_row rows scope) union_field_allowed
      (numbered members) each

  -- nothing is refused in the types of a list of which nothing is refused
  pub list_quiet : (owner : Identifier) (sort : ListSort) (members : List Member) → refused_list scope owner sort members ≡ []
      → AllByRecursion (IsQuiet scope (is_struct sort)) members
  list_quiet owner sort members e =
      let one = both_empty (refused_count scope owner (limit_of sort) (length members)) _ e in
      let two = both_empty (flat_map (refused_in_member scope (is_struct sort)) members) (refused_numbers scope owner sort (numbered members)) one.1 in
      all_empty (refused_in_member scope (is_struct sort)) members two.0

  -- methods

  parameters_allowed : (full : List ℕ) (owner : Identifier) (parameters : List Parameter) → refused_parameters scope owner parameters ≡ []
      → IsStructAllowed (parameters_row rows scope full parameters)
  parameters_allowed full owner parameters e =
      struct_allowed full false (map parameter_of parameters) (list_quiet owner Parameters (map parameter_of parameters) e)

  response_allowed : (full : List ℕ) (owner : Identifier) (response : Option (List Parameter)) → refused_response scope owner response ≡ []
      → AllByRecursion IsStructAllowed (option_to_list (response_row rows scope full response))
  response_allowed full owner None e = tt
  response_allowed full owner (Some parameters) e = (parameters_allowed full owner parameters e, tt)

  item_structs_allowed : (full : List ℕ) (item : InterfaceItem) → refused_in_item scope item ≡ []
      → AllByRecursion (λ (m : Method). AllByRecursion IsStructAllowed (method_structs rows scope (within full m.name.text) m)) (method_among item)
  item_structs_allowed full (interface_items.Method m) e =
      let parts = both_empty (refused_parameters scope m.name m.request) (refused_response scope m.name m.response) e in
      let one = parameters_allowed (within (within full m.name.text) (codes "request")) m.name m.request parts.0 in
      let two = response_allowed (within (within full m.name.text) (codes "response")) m.name m.response parts.1 in
      ((one, two), tt)
  item_structs_allowed full (interface_items.Const c) e = tt
  item_structs_allowed full (interface_items.Enum c) e = tt

  methods_allowed : (full : List ℕ) (members : List InterfaceMember) → flat_map (refused_in_interface scope) members ≡ []
      → AllByRecursion IsStructAllowed (structs_of_methods rows scope full (methods_in members))
  methods_allowed full members e =
      let each = all_empty (refused_in_interface scope) members e in
      let methods = all_so (λ (m : InterfaceMember). refused_in_interface scope m ≡ [])
      (λ (m : InterfaceMember).
      AllByRecursion (λ (m : Method). AllByRecursion IsStructAllowed (method_structs rows scope (within full m.name.text) m)) (method_among m.item))
      (λ m quiet. item_structs_allowed full m.item quiet) members each in
      all_flat IsStructAllowed (λ (m : Method). method_structs rows scope (within full m.name.text) m) (methods_in members)
      (all_flat (λ (m : Method). AllByRecursion IsStructAllowed (method_structs rows scope (within full m.name.text) m))
      (λ (m : InterfaceMember). method_among m.item) members methods)

  -- constants

  const_is : (full : List ℕ) (found : Option KindTree) (value : Option Literal) → ((k : KindTree) → found ≡ Some k → IsFlagless k)
      → AllByRecursion IsConstAllowed (option_to_list (option_and_then (λ (k : KindTree). option_map (const_with full k) value) found))
  const_is full None value is = tt
  const_is full (Some k) None is = tt
  const_is full (Some k) (Some literal) is = (is k refl, tt)

  const_allowed : (full : List ℕ) (c : Const) → refused_in_type scope c.name false c.kind ≡ []
      → AllByRecursion IsConstAllowed (option_to_list (const_row rows scope full c))
  const_allowed full c e =
      const_is full (kind_of rows scope c.kind) (literal_in scope c.value) (λ k is. type_flagless c.name c.kind k e is)

item_allowed : (rows : List FileRows) (scope : Scope) (counts : Counts) (full : List ℕ) (attributes : List Attribute) (item : DefinitionItem)
    → refused_item scope full item ≡ [] → AreAllowed (draft_of_item rows scope counts full attributes item)
item_allowed rows scope counts full attributes (items.Struct item) e =
    let quiet = list_quiet rows (inside scope full) item.name Fields (flat_map field_of item.members) e in
    record {
      structs = (struct_allowed rows (inside scope full) full (is_stable attributes) (flat_map field_of item.members) quiet, tt);
      unions = tt;
      consts = tt;
    }
item_allowed rows scope counts full attributes (items.Union item) e =
    let quiet = list_quiet rows (inside scope full) item.name UnionFields (map union_field_of item.fields) e in
    record { structs = tt; unions = (union_allowed rows (inside scope full) full attributes (map union_field_of item.fields) quiet, tt); consts = tt }
item_allowed rows scope counts full attributes (items.Enum item) e = record { structs = tt; unions = tt; consts = tt }
item_allowed rows scope counts full attributes (items.Interface item) e =
    let parts = both_empty _ (flat_map (refused_in_interface (inside scope full)) item.members) e in
    record { structs = methods_allowed rows (inside scope full) full item.members parts.1; unions = tt; consts = tt }
item_allowed rows scope counts full attributes (items.Const item) e =
    record { structs = tt; unions = tt; consts = const_allowed rows scope full item e }

-- the tables of a definition of which nothing is refused have kinds that are allowed
pub definition_allowed : (rows : List FileRows) (names : List FileNames) (consts : Consts) (number : ℕ) (counts : Counts) (d : Defined)
    → refused_definition names consts number d ≡ [] → AreAllowed (draft_of_definition rows (around names consts number None) counts d)
definition_allowed rows names consts number counts d e =
    item_allowed rows (around names consts number d.enclosing) counts d.full d.attributes d.item e

-- what holds of the kind of each field holds of all the kinds of structs
struct_kinds : (Good : KindTree → Type 0) (structs : List DraftStruct)
    → AllByRecursion (λ (row : DraftStruct). AllByRecursion (λ (field : DraftField). Good field.kind) row.fields) structs
    → AllByRecursion Good (flat_map (λ (row : DraftStruct). map (λ (field : DraftField). field.kind) row.fields) structs)
struct_kinds Good structs all =
    all_flat Good (λ (row : DraftStruct). map (λ (field : DraftField). field.kind) row.fields) structs
    (all_so (λ (row : DraftStruct). AllByRecursion (λ (field : DraftField). Good field.kind) row.fields)
    (λ (row : DraftStruct). AllByRecursion Good (map (λ (field : DraftField). field.kind) row.fields))
    (λ row each. all_map Good (λ (field : DraftField). field.kind) row.fields each) structs all)

-- the same of the kinds of unions and constants
kinds_of_others : (draft : Draft) → AreAllowed draft → AllByRecursion IsFlagless (other_kinds draft.unions draft.consts)
kinds_of_others draft are =
    let unions = all_flat IsFlagless (λ (row : UnionRow). map (λ (field : UnionFieldRow). field.kind) row.fields) draft.unions
    (all_so IsUnionAllowed (λ (row : UnionRow). AllByRecursion IsFlagless (map (λ (field : UnionFieldRow). field.kind) row.fields))
    (λ row all. all_map IsFlagless (λ (field : UnionFieldRow). field.kind) row.fields all) draft.unions are.unions) in
    each_append IsFlagless _ _ unions (all_map IsFlagless (λ (row : ConstRow). row.kind) draft.consts are.consts)

-- the kinds of tables are allowed, and those of unions and constants have no flag
pub record AreKinds (draft : Draft) : Type 0 where
  pub allowed : list_all is_allowed (draft_kinds draft) ≡ true
  pub flags : list_all (λ (kind : KindTree). not (has_flag kind)) (other_kinds draft.unions draft.consts) ≡ true

pub kinds_allowed : (draft : Draft) → AreAllowed draft → AreKinds draft
kinds_allowed draft are =
    let Good : KindTree → Type 0 = λ k. is_allowed k ≡ true in
    let structs = struct_kinds Good draft.structs are.structs in
    let others = kinds_of_others draft are in
    let kinds = other_kinds draft.unions draft.consts in
    record {
      allowed = all_tested is_allowed (draft_kinds draft) (each_append Good _ kinds structs (all_so IsFlagless Good (λ k is. is.0) kinds others));
      flags = all_tested (λ (kind : KindTree). not (has_flag kind)) kinds
          (all_so IsFlagless (λ (kind : KindTree). not (has_flag kind) ≡ true) (λ k is. is.1) kinds others);
    }

-- the tables of files of which nothing is refused
pub files_allowed : (names : List FileNames) (consts : Consts) (files : List NamedFile) (order : List ℕ) → kinds_refusal names consts files order ≡ None
    → AreAllowed (draft_of names consts files order)
files_allowed names consts files order none =
    lift AreAllowed (rows_of files order) names consts files order empty_allowed join_allowed
    (λ number among counts d of.
    definition_allowed (rows_of files order) names consts number counts d (quiet names consts files order number d none among of))
    no_rows

-- the kinds of the tables of files of which no stage refuses anything are allowed, and only fields of structs have flags
pub allowed : (files : List NamedFile) (order : List ℕ) (names : Names) (consts : Consts) → IsPassed files order names consts
    → AreKinds (draft_of names.files consts files order)
allowed files order names consts passed =
    kinds_allowed (draft_of names.files consts files order) (files_allowed names.files consts files order passed.kinds)
