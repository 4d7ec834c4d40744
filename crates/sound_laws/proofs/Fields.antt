-- The fields and the members of the tables of files of which nothing is refused.
use Rattle.std.proofs.Common.{◌≡◌, ◌+◌, ℕ, zero, suc, pos, Bool, true, false, List, [], ◌∷◌, length, map, refl, ap, subst, ◌∙◌, inl}
use Rattle.std.proofs.Common.{inr}
use Rattle.std.specs.Prelude.{codes, if◌then◌else◌, Option, Some, None, slice_get}
use Rattle.std.specs.List.{AllByRecursion, flat_map}
use Rattle.std.specs.Option.{option_map_or, option_to_list}
use Rattle.mojom_ast.specs.declared.attributes.Attribute.{Attribute}
use Rattle.mojom_ast.specs.declared.definitions.DefinitionItem.{DefinitionItem}
use Rattle.mojom_ast.specs.declared.definitions.DefinitionItem.TheVariants as items
use Rattle.mojom_ast.specs.declared.definitions.InterfaceItem.{InterfaceItem}
use Rattle.mojom_ast.specs.declared.definitions.InterfaceItem.TheVariants as interface_items
use Rattle.mojom_ast.specs.declared.definitions.InterfaceMember.{InterfaceMember}
use Rattle.mojom_ast.specs.declared.definitions.Method.{Method}
use Rattle.mojom_ast.specs.declared.definitions.Parameter.{Parameter}
use Rattle.mojom_ast.specs.declared.definitions.StructItem.{StructItem}
use Rattle.mojom_ast.specs.declared.definitions.StructItem.TheVariants as struct_items
use Rattle.mojom_ast.specs.declared.definitions.StructMember.{StructMember}
use Rattle.mojom_ast.specs.declared.names.Identifier.{Identifier}
use Rattle.mojom_files.specs.Definitions.{Defined, definitions_of}
use Rattle.mj_base.specs.Names.{within}
use Rattle.mojom_files.specs.declared.named_file.NamedFile.{NamedFile}
use Rattle.name_refusals.specs.NameRefusals.{of_file}
use Rattle.module_resolver.specs.declared.file_names.Names.{Names}
use Rattle.const_eval.specs.Evaluated.{refused_in as refused_values, refused_things}
use Rattle.const_eval.specs.Refused.{Site}
use Rattle.const_eval.specs.Refused as values_refused
use Rattle.const_eval.specs.Things.{numbered as numbered_things, things_at, things_from}
use Rattle.const_eval.specs.declared.consts.Consts.{Consts}
use Rattle.const_eval.specs.declared.file_things.FileThings.{FileThings}
use Rattle.mj_schema.specs.KindTrees.{KindTree}
use Rattle.mj_schema.specs.declared.rows.DraftStruct.{DraftStruct}
use Rattle.mj_schema.specs.declared.rows.EnumRow.{EnumRow}
use Rattle.mj_schema.specs.declared.rows.Literal.{Literal}
use Rattle.mj_schema.specs.declared.rows.MemberRow.{MemberRow}
use Rattle.draft_rows.specs.Drafts.{empty, join, draft_of_item, draft_of}
use Rattle.kind_scope.specs.Scopes.{around, inside, Scope}
use Rattle.kind_refusals.specs.KindRefusals.{is_struct, limit_of, refused_count, refused_in_interface, refused_in_item, refused_item, refused_list}
use Rattle.kind_refusals.specs.KindRefusals.{refused_numbers, refused_parameters, refused_response, refused_struct}
use Rattle.kind_scope.specs.Members.{Member, Numbered, field_in, field_of, numbered, parameter_of, along_ordinals}
use Rattle.kind_refusals.specs.OrdinalRefusals.{refused_doubles, refused_late}
use Rattle.draft_rows.specs.RowCounts.{definitions_at, method_among, methods_in, no_rows, rows_of}
use Rattle.draft_rows.specs.Rows.{Valued, field_row, is_stable, member_row, method_structs, parameters_row, response_row, struct_row, structs_of_methods, valued}
use Rattle.kind_refusals.specs.TypeRefusals.{refused_in_member}
use Rattle.draft_rows.specs.declared.counts.Counts.{Counts}
use Rattle.draft_rows.specs.declared.counts.FileRows.{FileRows}
use Rattle.draft_rows.specs.declared.draft.Draft.{Draft}
use Rattle.kind_refusals.specs.declared.list_sort.ListSort.{ListSort}
use Rattle.kind_refusals.specs.declared.list_sort.ListSort.TheVariants.{Fields, Parameters}
use Rattle.schema_laws.specs.Passed.{IsPassed}
use Rattle.schema_laws.proofs.Among.{IsAmong, each_append}
use Rattle.schema_laws.proofs.Each.{all_along, all_empty, all_flat, all_found, all_map, all_numbered, all_so}
use Rattle.schema_laws.proofs.Lift.{lift}
use Rattle.schema_laws.proofs.Quiet.{both_empty, quiet, quiet_consts}
use Rattle.mj_schema.specs.Sound.{in_bits}
use Rattle.sound_laws.proofs.Defaults.{IsFine, HasDefault, NamesHold, field_default, field_fine, site_of, values_fit}

-- ## Tables

abbrev pub StructFine : (KindTree → Literal → Type 0) → DraftStruct → Type 0
StructFine Other row = AllByRecursion (IsFine Other) row.fields

abbrev pub EnumFits : EnumRow → Type 0
EnumFits row = AllByRecursion (λ (m : MemberRow). in_bits true 32 m.number ≡ true) row.members

-- what is asked of the fields and the members of tables
pub record AreFine (Other : KindTree → Literal → Type 0) (draft : Draft) : Type 0 where
  pub structs : AllByRecursion (StructFine Other) draft.structs
  pub enums : AllByRecursion EnumFits draft.enums

none_fine : (Other : KindTree → Literal → Type 0) → AreFine Other empty
none_fine Other = record { structs = tt; enums = tt }

join_fine : (Other : KindTree → Literal → Type 0) (one two : Draft) → AreFine Other one → AreFine Other two → AreFine Other (join one two)
join_fine Other one two a b = record {
  structs = each_append (StructFine Other) one.structs two.structs a.structs b.structs;
  enums = each_append EnumFits one.enums two.enums a.enums b.enums;
}

-- lists of which two things hold
both_hold : {A : Type 0} (P Q : A → Type 0) (xs : List A) → AllByRecursion P xs → AllByRecursion Q xs → AllByRecursion (λ x. P x × Q x) xs
both_hold P Q [] a b = tt
both_hold P Q (x ∷ xs) a b = ((a.0, b.0), both_hold P Q xs a.1 b.1)

module _ (Other : KindTree → Literal → Type 0) (rows : List FileRows) (scope : Scope) where
  -- nothing is refused of late members of a list
  late_quiet : (owner : Identifier) (sort : ListSort) (members : List Member) → is_struct sort ≡ true → refused_list scope owner sort members ≡ []
      → AllByRecursion (λ (one : Numbered). refused_late scope one ≡ []) (numbered members)
  late_quiet owner sort members is e = of (is_struct sort) is numbers.1
    where
      numbers : (refused_doubles scope (numbered members) ≡ [])
          × ((if is_struct sort then refused_struct scope owner (numbered members) else []) ≡ [])
      numbers =
          both_empty (refused_doubles scope (numbered members)) (if is_struct sort then refused_struct scope owner (numbered members) else [])
          (both_empty (flat_map (refused_in_member scope (is_struct sort)) members) (refused_numbers scope owner sort (numbered members))
          (both_empty (refused_count scope owner (limit_of sort) (length members)) _ e).1).1

      of : (b : Bool) → b ≡ true → (if b then refused_struct scope owner (numbered members) else []) ≡ []
          → AllByRecursion (λ (one : Numbered). refused_late scope one ≡ []) (numbered members)
      of false is e = absurd cc
      of true is e = all_empty (refused_late scope) (numbered members) (both_empty _ (flat_map (refused_late scope) (numbered members)) e).1

  -- the struct of a list of which nothing is refused, with defaults of their kinds
  struct_fine : (full : List ℕ) (stable : Bool) (owner : Identifier) (sort : ListSort) (members : List Member) → is_struct sort ≡ true
      → refused_list scope owner sort members ≡ [] → AllByRecursion (HasDefault Other rows scope) members
      → StructFine Other (struct_row rows scope full stable members)
  struct_fine full stable owner sort members is e given =
      let Good : Numbered → Type 0 = λ one. (refused_late scope one ≡ []) × HasDefault Other rows scope one.member in
      let each = both_hold (λ (one : Numbered). refused_late scope one ≡ []) (λ (one : Numbered). HasDefault Other rows scope one.member) (numbered members)
      (late_quiet owner sort members is e) (all_numbered (HasDefault Other rows scope) 0 members given) in
      all_found Good (IsFine Other) (field_row rows scope) (field_fine Other rows scope) (along_ordinals (numbered members))
      (all_along Good (λ (one : Numbered). one.ordinal) (numbered members) each)

  -- parameters have no defaults
  parameters_given : (parameters : List Parameter) → AllByRecursion (HasDefault Other rows scope) (map parameter_of parameters)
  parameters_given [] = tt
  parameters_given (p ∷ ps) = ((λ k literal found e. absurd cc), parameters_given ps)

  parameters_fine : (full : List ℕ) (owner : Identifier) (parameters : List Parameter) → refused_parameters scope owner parameters ≡ []
      → StructFine Other (parameters_row rows scope full parameters)
  parameters_fine full owner parameters e = struct_fine full false owner Parameters (map parameter_of parameters) refl e (parameters_given parameters)

  response_fine : (full : List ℕ) (owner : Identifier) (response : Option (List Parameter)) → refused_response scope owner response ≡ []
      → AllByRecursion (StructFine Other) (option_to_list (response_row rows scope full response))
  response_fine full owner None e = tt
  response_fine full owner (Some parameters) e = (parameters_fine full owner parameters e, tt)

  item_structs_fine : (full : List ℕ) (item : InterfaceItem) → refused_in_item scope item ≡ []
      → AllByRecursion (λ (m : Method). AllByRecursion (StructFine Other) (method_structs rows scope (within full m.name.text) m)) (method_among item)
  item_structs_fine full (interface_items.Method m) e =
      let parts = both_empty (refused_parameters scope m.name m.request) (refused_response scope m.name m.response) e in
      let one = parameters_fine (within (within full m.name.text) (codes "request")) m.name m.request parts.0 in
      let two = response_fine (within (within full m.name.text) (codes "response")) m.name m.response parts.1 in
      ((one, two), tt)
  item_structs_fine full (interface_items.Const c) e = tt
  item_structs_fine full (interface_items.Enum c) e = tt

  methods_fine : (full : List ℕ) (members : List InterfaceMember) → flat_map (refused_in_interface scope) members ≡ []
      → AllByRecursion (StructFine Other) (structs_of_methods rows scope full (methods_in members))
  methods_fine full members e =
      let methods = all_so (λ (m : InterfaceMember). refused_in_interface scope m ≡ [])
      (λ (m : InterfaceMember).
      AllByRecursion (λ (m : Method). AllByRecursion (StructFine Other) (method_structs rows scope (within full m.name.text) m)) (method_among m.item))
      (λ m none. item_structs_fine full m.item none) members (all_empty (refused_in_interface scope) members e) in
      all_flat (StructFine Other) (λ (m : Method). method_structs rows scope (within full m.name.text) m) (methods_in members)
      (all_flat (λ (m : Method). AllByRecursion (StructFine Other) (method_structs rows scope (within full m.name.text) m))
      (λ (m : InterfaceMember). method_among m.item) members methods)

  -- the fields of a struct of whose values nothing is refused
  member_given : NamesHold Other rows scope → (attributes : List Attribute) (item : StructItem)
      → values_refused.refused_field (site_of scope) scope.enclosing attributes item ≡ []
      → AllByRecursion (HasDefault Other rows scope) (field_in attributes item)
  member_given hold attributes (struct_items.Field f) e =
      let parts = both_empty (values_refused.refused_versions (site_of scope) scope.enclosing f.name attributes) _ e in
      let rest = both_empty (values_refused.refused_lengths scope.file f.kind.base)
      (values_refused.refused_default (site_of scope) scope.enclosing f f.default) parts.1 in
      ((λ k literal found given. field_default Other rows scope hold f k literal found rest.1 given), tt)
  member_given hold attributes (struct_items.Const c) e = tt
  member_given hold attributes (struct_items.Enum c) e = tt

  members_given : NamesHold Other rows scope → (members : List StructMember)
      → flat_map (values_refused.refused_struct_member (site_of scope) scope.enclosing) members ≡ []
      → AllByRecursion (HasDefault Other rows scope) (flat_map field_of members)
  members_given hold members e =
      all_flat (HasDefault Other rows scope) field_of members
      (all_so (λ (m : StructMember). values_refused.refused_struct_member (site_of scope) scope.enclosing m ≡ [])
      (λ (m : StructMember). AllByRecursion (HasDefault Other rows scope) (field_of m))
      (λ m none. member_given hold m.attributes m.item none) members
      (all_empty (values_refused.refused_struct_member (site_of scope) scope.enclosing) members e))

-- ## Definitions

numbers_fit : (scope : Scope) (ones : List Valued) → AllByRecursion (λ (v : Valued). in_bits true 32 v.number ≡ true) ones
    → AllByRecursion (λ (m : MemberRow). in_bits true 32 m.number ≡ true) (map member_row ones)
numbers_fit scope ones fit = all_map (λ (m : MemberRow). in_bits true 32 m.number ≡ true) member_row ones fit

item_fine : (Other : KindTree → Literal → Type 0) (rows : List FileRows) (scope : Scope) (counts : Counts) (full : List ℕ) (attributes : List Attribute)
    (item : DefinitionItem) (thing : ℕ) → NamesHold Other rows (inside scope full) → refused_item scope full item ≡ []
    → values_refused.refused_item (site_of scope) thing (Some full) item ≡ []
    → AreFine Other (draft_of_item rows scope counts full attributes item)
item_fine Other rows scope counts full attributes (items.Struct item) thing hold e v =
    let given = members_given Other rows (inside scope full) hold item.members
    (both_empty (flat_map (values_refused.refused_struct_member (site_of scope) (Some full)) item.members) _ v).0 in
    record {
      structs = (struct_fine Other rows (inside scope full) full (is_stable attributes) item.name Fields (flat_map field_of item.members) refl e given, tt);
      enums = tt;
    }
item_fine Other rows scope counts full attributes (items.Union item) thing hold e v = record { structs = tt; enums = tt }
item_fine Other rows scope counts full attributes (items.Enum item) thing hold e v = record {
  structs = tt;
  enums = (
    numbers_fit scope (valued (inside scope full) item.enumerators)
        (values_fit (inside scope full) (pos 0) item.enumerators refl),
    tt,
  );
}
item_fine Other rows scope counts full attributes (items.Interface item) thing hold e v =
    let parts = both_empty _ (flat_map (refused_in_interface (inside scope full)) item.members) e in
    record { structs = methods_fine Other rows (inside scope full) full item.members parts.1; enums = tt }
item_fine Other rows scope counts full attributes (items.Const item) thing hold e v = record { structs = tt; enums = tt }

-- ## Files

-- where a file is, its things are
things_there : (first : ℕ) (files : List NamedFile) (n : ℕ) (file : NamedFile) → slice_get files n ≡ Some file
    → (things : FileThings) × (slice_get (things_from first files) n ≡ Some things)
things_there first [] n file e = absurd cc
things_there first (f ∷ files) zero file e = (things_at first (definitions_of f.tree), refl)
things_there first (f ∷ files) (suc n) file e = things_there (things_at first (definitions_of f.tree)).end files n file e

-- of a list of definitions of which nothing is refused, nothing is of one
one_quiet : (site : Site) (first : ℕ) (ds : List Defined) (d : Defined) → numbered_things (values_refused.refused_definition site) first ds ≡ []
    → IsAmong ds d → (thing : ℕ) × (values_refused.refused_definition site thing d ≡ [])
one_quiet site first [] d e among = absurd among
one_quiet site first (x ∷ ds) d e (inl same) = (
  first,
  subst (λ (d : Defined). values_refused.refused_definition site first d ≡ []) same
      (both_empty (values_refused.refused_definition site first x) _ e).0,
)
one_quiet site first (x ∷ ds) d e (inr among) =
    one_quiet site (first + 1) ds d (both_empty (values_refused.refused_definition site first x) _ e).1 among

module _ (files : List NamedFile) (order : List ℕ) (names : Names) (consts : Consts) (passed : IsPassed files order names consts) where
  -- nothing is refused of the values of a definition
  values_quiet : (number : ℕ) (d : Defined) → IsAmong order number → IsAmong (definitions_at files number) d
      → (thing : ℕ) × (values_refused.refused_definition (record { consts = consts; names = names.files; file = number }) thing d ≡ [])
  values_quiet number d among of =
      go (slice_get files number) refl (quiet_consts names.files consts files order number passed.evaluated.none among) of
    where
      at : Site
      at = record { consts = consts; names = names.files; file = number }

      there : (file : NamedFile) (o : Option FileThings) (things : FileThings) → o ≡ Some things → option_map_or (refused_things at file) o [] ≡ []
          → IsAmong (definitions_of file.tree) d → (thing : ℕ) × (values_refused.refused_definition at thing d ≡ [])
      there file None things is e among = absurd cc
      there file (Some t) things is e among =
          one_quiet at t.definitions (definitions_of file.tree) d
          (both_empty (numbered_things (values_refused.refused_definition at) t.definitions (definitions_of file.tree)) _ e).0 among

      go : (o : Option NamedFile) → slice_get files number ≡ o → of_file (refused_values at) o ≡ []
          → IsAmong (option_map_or (λ (file : NamedFile). definitions_of file.tree) o []) d
          → (thing : ℕ) × (values_refused.refused_definition at thing d ≡ [])
      go None is e among = absurd among
      go (Some file) is e among =
          let things = things_there 0 files number file is in
          let found : slice_get consts.files number ≡ Some things.0 =
          ap (λ (ts : List FileThings). slice_get ts number) passed.evaluated.are.files_are ∙ things.1 in
          there file (slice_get consts.files number) things.0 found e among

  -- the tables of files of which nothing is refused
  pub files_fine : (Other : KindTree → Literal → Type 0)
      → ((number : ℕ) (enclosing : Option (List ℕ)) → NamesHold Other (rows_of files order) (around names.files consts number enclosing))
      → AreFine Other (draft_of names.files consts files order)
  files_fine Other hold =
      lift (AreFine Other) (rows_of files order) names.files consts files order (none_fine Other) (join_fine Other)
      (λ number among counts d of.
      let values = values_quiet number d among of in
      item_fine Other (rows_of files order) (around names.files consts number d.enclosing) counts d.full d.attributes d.item values.0
      (hold number (Some d.full))
      (quiet names.files consts files order number d passed.kinds among of)
      (both_empty (values_refused.refused_versions (record { consts = consts; names = names.files; file = number })
      d.enclosing d.name d.attributes) _ values.1).1)
      no_rows
