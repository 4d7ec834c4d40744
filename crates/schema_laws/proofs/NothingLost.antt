-- Of files of which nothing is refused no field, no field of a union and no parameter is lost: each has a kind.
use Rattle.std.proofs.Common.{◌≡◌, ℕ, List, [], ◌∷◌, ◌++◌}
use Rattle.std.specs.Prelude.{true, false, map, Option, Some, None}
use Rattle.std.specs.List.{AllByRecursion, flat_map}
use Rattle.mojom_ast.specs.declared.definitions.DefinitionItem.{DefinitionItem}
use Rattle.mojom_ast.specs.declared.definitions.DefinitionItem.TheVariants as items
use Rattle.mojom_ast.specs.declared.definitions.StructMember.{StructMember}
use Rattle.mojom_ast.specs.declared.definitions.StructItem.{StructItem}
use Rattle.mojom_ast.specs.declared.definitions.StructItem.TheVariants as struct_items
use Rattle.mojom_ast.specs.declared.definitions.UnionField.{UnionField}
use Rattle.mojom_ast.specs.declared.definitions.InterfaceMember.{InterfaceMember}
use Rattle.mojom_ast.specs.declared.definitions.InterfaceItem.{InterfaceItem}
use Rattle.mojom_ast.specs.declared.definitions.InterfaceItem.TheVariants as interface_items
use Rattle.mojom_ast.specs.declared.definitions.Parameter.{Parameter}
use Rattle.mojom_ast.specs.declared.names.Identifier.{Identifier}
use Rattle.mojom_ast.specs.declared.attributes.Attribute.{Attribute}
use Rattle.mojom_files.specs.Definitions.{Defined}
use Rattle.module_resolver.specs.declared.target.Target.TheVariants as targets
use Rattle.module_resolver.specs.declared.target.DefinitionSort.{DefinitionSort}
use Rattle.module_resolver.specs.declared.file_names.FileNames.{FileNames}
use Rattle.module_resolver.specs.LookUp.{sort_of}
use Rattle.name_refusals.specs.Uses.{Use, response_of, uses_in_type, uses_in_option, uses_in_attributes, uses_in_field, uses_in_struct, uses_in_union, uses_in_parameter, uses_in_method, uses_in_interface, uses_in_item, uses_of}
use Rattle.name_refusals.specs.NameRefusals.{refused_uses}
use Rattle.const_eval.specs.declared.consts.Consts.{Consts}
use Rattle.draft_rows.specs.declared.counts.Counts.{Counts}
use Rattle.draft_rows.specs.declared.counts.FileRows.{FileRows}
use Rattle.kind_refusals.specs.declared.list_sort.ListSort.TheVariants.{Fields, UnionFields, Parameters}
use Rattle.draft_rows.specs.RowCounts.{rows_before}
use Rattle.kind_scope.specs.Scopes.{Scope, around}
use Rattle.kind_scope.specs.Members.{Member, field_in, field_of, union_field_of, parameter_of}
use Rattle.kind_refusals.specs.KindRefusals.{refused_parameters, refused_response, refused_in_item, refused_in_interface, refused_item, refused_definition}
use Rattle.draft_rows.specs.Rows.{kind_in}
use Rattle.schema_laws.proofs.Among.{each_append}
use Rattle.schema_laws.proofs.Quiet.{both_empty}
use Rattle.schema_laws.proofs.Each.{all_empty}
use Rattle.schema_laws.proofs.DraftKinds.{IsQuiet, list_quiet}
use Rattle.schema_laws.proofs.Kinded.{Has, uses_apart, has_kind}

-- the parameters of a method
abbrev pub typed_in_item : InterfaceItem → List Member
typed_in_item (interface_items.Method m) = map parameter_of m.request ++ map parameter_of (response_of m.response)
typed_in_item (interface_items.Const c) = []
typed_in_item (interface_items.Enum e) = []

-- the members of a definition that have types: fields of a struct, fields of a union, and parameters
abbrev pub typed_members : DefinitionItem → List Member
typed_members (items.Struct item) = flat_map field_of item.members
typed_members (items.Union item) = map union_field_of item.fields
typed_members (items.Enum item) = []
typed_members (items.Interface item) = flat_map (λ (m : InterfaceMember). typed_in_item m.item) item.members
typed_members (items.Const item) = []

-- a member has a kind
abbrev pub IsKept : List FileRows → Scope → Member → Type 0
IsKept rows scope member = Has (kind_in rows scope member.kind)

uses_each : {A : Type 0} (names : List FileNames) (file : ℕ) (say : A → List Use) (xs : List A) → refused_uses names file (flat_map say xs) ≡ []
    → AllByRecursion (λ x. refused_uses names file (say x) ≡ []) xs
uses_each names file say [] e = tt
uses_each names file say (x ∷ xs) e =
    let parts = uses_apart names file (say x) (flat_map say xs) e in (parts.0, uses_each names file say xs parts.1)

pub all_before : {A : Type 0} (P : A → Type 0) (xs ys : List A) → AllByRecursion P (xs ++ ys) → AllByRecursion P xs × AllByRecursion P ys
all_before P [] ys all = (tt, all)
all_before P (x ∷ xs) ys all = let rest = all_before P xs ys all.1 in ((all.0, rest.0), rest.1)

-- what holds of what each makes, by what holds of each
so_flat : {A B : Type 0} (R : A → Type 0) (P Q : B → Type 0) (f : A → List B) → ((x : A) → R x → AllByRecursion P (f x) → AllByRecursion Q (f x))
    → (xs : List A) → AllByRecursion R xs → AllByRecursion P (flat_map f xs) → AllByRecursion Q (flat_map f xs)
so_flat R P Q f so [] each all = tt
so_flat R P Q f so (x ∷ xs) each all =
    let parts = all_before P (f x) (flat_map f xs) all in
    each_append Q (f x) (flat_map f xs) (so x each.0 parts.0) (so_flat R P Q f so xs each.1 parts.1)

so_map : {A B : Type 0} (R : A → Type 0) (P Q : B → Type 0) (f : A → B) → ((x : A) → R x → P (f x) → Q (f x)) → (xs : List A) → AllByRecursion R xs
    → AllByRecursion P (map f xs) → AllByRecursion Q (map f xs)
so_map R P Q f so [] each all = tt
so_map R P Q f so (x ∷ xs) each all = (so x each.0 all.0, so_map R P Q f so xs each.1 all.1)

module _ (rows : List FileRows) (scope : Scope)
    (there : (file number : ℕ) (sort : DefinitionSort) → sort_of scope.names (targets.Definition file number) ≡ Some sort
    → (counts : Counts) × (rows_before rows file number ≡ Some counts)) where
  field_kept : (attributes : List Attribute) (item : StructItem) → refused_uses scope.names scope.file (uses_in_field scope.enclosing attributes item) ≡ []
      → AllByRecursion (IsQuiet scope true) (field_in attributes item) → AllByRecursion (IsKept rows scope) (field_in attributes item)
  field_kept attributes (struct_items.Field f) e quiet =
      let one = uses_apart scope.names scope.file (uses_in_attributes scope.enclosing attributes) _ e in
      let two = uses_apart scope.names scope.file (uses_in_type scope.enclosing f.kind.base) (uses_in_option scope.enclosing f.default) one.1 in
      (has_kind rows scope there f.name true f.kind.base f.kind.nullable two.0 quiet.0, tt)
  field_kept attributes (struct_items.Const c) e quiet = tt
  field_kept attributes (struct_items.Enum c) e quiet = tt

  fields_kept : (members : List StructMember) → refused_uses scope.names scope.file (flat_map (uses_in_struct scope.enclosing) members) ≡ []
      → AllByRecursion (IsQuiet scope true) (flat_map field_of members) → AllByRecursion (IsKept rows scope) (flat_map field_of members)
  fields_kept members e quiet =
      so_flat (λ (m : StructMember). refused_uses scope.names scope.file (uses_in_struct scope.enclosing m) ≡ []) (IsQuiet scope true) (IsKept rows scope)
      field_of (λ m none all. field_kept m.attributes m.item none all) members
      (uses_each scope.names scope.file (uses_in_struct scope.enclosing) members e) quiet

  union_field_kept : (f : UnionField) → refused_uses scope.names scope.file (uses_in_union scope.enclosing f) ≡ [] → IsQuiet scope false (union_field_of f)
      → IsKept rows scope (union_field_of f)
  union_field_kept f e quiet =
      let parts = uses_apart scope.names scope.file (uses_in_attributes scope.enclosing f.attributes) (uses_in_type scope.enclosing f.kind.base) e in
      has_kind rows scope there f.name false f.kind.base f.kind.nullable parts.1 quiet

  union_fields_kept : (fields : List UnionField) → refused_uses scope.names scope.file (flat_map (uses_in_union scope.enclosing) fields) ≡ []
      → AllByRecursion (IsQuiet scope false) (map union_field_of fields) → AllByRecursion (IsKept rows scope) (map union_field_of fields)
  union_fields_kept fields e quiet =
      so_map (λ (f : UnionField). refused_uses scope.names scope.file (uses_in_union scope.enclosing f) ≡ []) (IsQuiet scope false) (IsKept rows scope)
      union_field_of union_field_kept fields (uses_each scope.names scope.file (uses_in_union scope.enclosing) fields e) quiet

  parameter_kept : (p : Parameter) → refused_uses scope.names scope.file (uses_in_parameter scope.enclosing p) ≡ [] → IsQuiet scope true (parameter_of p)
      → IsKept rows scope (parameter_of p)
  parameter_kept p e quiet =
      let parts = uses_apart scope.names scope.file (uses_in_attributes scope.enclosing p.attributes) (uses_in_type scope.enclosing p.kind.base) e in
      has_kind rows scope there p.name true p.kind.base p.kind.nullable parts.1 quiet

  parameters_kept : (owner : Identifier) (parameters : List Parameter)
      → refused_uses scope.names scope.file (flat_map (uses_in_parameter scope.enclosing) parameters) ≡ []
      → refused_parameters scope owner parameters ≡ [] → AllByRecursion (IsKept rows scope) (map parameter_of parameters)
  parameters_kept owner parameters e none =
      so_map (λ (p : Parameter). refused_uses scope.names scope.file (uses_in_parameter scope.enclosing p) ≡ []) (IsQuiet scope true) (IsKept rows scope)
      parameter_of parameter_kept parameters (uses_each scope.names scope.file (uses_in_parameter scope.enclosing) parameters e)
      (list_quiet rows scope owner Parameters (map parameter_of parameters) none)

  response_kept : (owner : Identifier) (response : Option (List Parameter))
      → refused_uses scope.names scope.file (flat_map (uses_in_parameter scope.enclosing) (response_of response)) ≡ []
      → refused_response scope owner response ≡ [] → AllByRecursion (IsKept rows scope) (map parameter_of (response_of response))
  response_kept owner None e none = tt
  response_kept owner (Some parameters) e none = parameters_kept owner parameters e none

  method_kept : (attributes : List Attribute) (item : InterfaceItem) → refused_uses scope.names scope.file (uses_in_method scope.enclosing attributes item) ≡ []
      → refused_in_item scope item ≡ [] → AllByRecursion (IsKept rows scope) (typed_in_item item)
  method_kept attributes (interface_items.Method m) e none =
      let one = uses_apart scope.names scope.file (uses_in_attributes scope.enclosing attributes) _ e in
      let two = uses_apart scope.names scope.file (flat_map (uses_in_parameter scope.enclosing) m.request)
      (flat_map (uses_in_parameter scope.enclosing) (response_of m.response)) one.1 in
      let parts = both_empty (refused_parameters scope m.name m.request) (refused_response scope m.name m.response) none in
      each_append (IsKept rows scope) (map parameter_of m.request) (map parameter_of (response_of m.response))
      (parameters_kept m.name m.request two.0 parts.0) (response_kept m.name m.response two.1 parts.1)
  method_kept attributes (interface_items.Const c) e none = tt
  method_kept attributes (interface_items.Enum c) e none = tt

  methods_kept : (members : List InterfaceMember)
      → AllByRecursion (λ (m : InterfaceMember). refused_uses scope.names scope.file (uses_in_interface scope.enclosing m) ≡ []) members
      → AllByRecursion (λ (m : InterfaceMember). refused_in_interface scope m ≡ []) members
      → AllByRecursion (IsKept rows scope) (flat_map (λ (m : InterfaceMember). typed_in_item m.item) members)
  methods_kept [] e none = tt
  methods_kept (m ∷ ms) e none =
      each_append (IsKept rows scope) (typed_in_item m.item) (flat_map (λ (m : InterfaceMember). typed_in_item m.item) ms)
      (method_kept m.attributes m.item e.0 none.0) (methods_kept ms e.1 none.1)

item_kept : (rows : List FileRows) (names : List FileNames) (consts : Consts) (number : ℕ) (d : Defined) (item : DefinitionItem)
    → ((file place : ℕ) (sort : DefinitionSort) → sort_of names (targets.Definition file place) ≡ Some sort
    → (counts : Counts) × (rows_before rows file place ≡ Some counts))
    → refused_uses names number (uses_in_item d item) ≡ [] → refused_item (around names consts number d.enclosing) d.full item ≡ []
    → AllByRecursion (IsKept rows (around names consts number (Some d.full))) (typed_members item)
item_kept rows names consts number d (items.Struct item) there e none =
    let scope = around names consts number (Some d.full) in
    fields_kept rows scope there item.members e (list_quiet rows scope item.name Fields (flat_map field_of item.members) none)
item_kept rows names consts number d (items.Union item) there e none =
    let scope = around names consts number (Some d.full) in
    union_fields_kept rows scope there item.fields e (list_quiet rows scope item.name UnionFields (map union_field_of item.fields) none)
item_kept rows names consts number d (items.Enum item) there e none = tt
item_kept rows names consts number d (items.Interface item) there e none =
    let scope = around names consts number (Some d.full) in
    let parts = both_empty _ (flat_map (refused_in_interface scope) item.members) none in
    methods_kept rows scope there item.members (uses_each names number (uses_in_interface (Some d.full)) item.members e)
    (all_empty (refused_in_interface scope) item.members parts.1)
item_kept rows names consts number d (items.Const item) there e none = tt

-- each member of a definition of which nothing is refused, and that uses no name of which anything is, has a kind
pub nothing_lost : (rows : List FileRows) (names : List FileNames) (consts : Consts) (number : ℕ) (d : Defined)
    → ((file place : ℕ) (sort : DefinitionSort) → sort_of names (targets.Definition file place) ≡ Some sort
    → (counts : Counts) × (rows_before rows file place ≡ Some counts))
    → refused_uses names number (uses_of d) ≡ [] → refused_definition names consts number d ≡ []
    → AllByRecursion (IsKept rows (around names consts number (Some d.full))) (typed_members d.item)
nothing_lost rows names consts number d there e none =
    let parts = uses_apart names number (uses_in_attributes d.enclosing d.attributes) (uses_in_item d d.item) e in
    item_kept rows names consts number d d.item there parts.1 none
