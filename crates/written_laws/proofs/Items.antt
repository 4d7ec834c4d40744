-- The rows of a definition of which nothing is refused are as it is written.
use Rattle.std.proofs.Common.{◌≡◌, ◌+◌, ℕ, List, [], ◌∷◌, ◌++◌, map, refl, sym, ◌∙◌, ap, subst}
use Rattle.std.specs.Prelude.{Bool, false, codes, Option, Some, None, is_some}
use Rattle.std.specs.List.{AllByRecursion, flat_map}
use Rattle.std.specs.Option.{option_map, option_to_list}
use Rattle.mojom_ast.specs.declared.names.Identifier.{Identifier}
use Rattle.mojom_ast.specs.declared.attributes.Attribute.{Attribute}
use Rattle.mojom_ast.specs.declared.definitions.DefinitionItem.{DefinitionItem}
use Rattle.mojom_ast.specs.declared.definitions.DefinitionItem.TheVariants as items
use Rattle.mojom_ast.specs.declared.definitions.Method.{Method}
use Rattle.mojom_ast.specs.declared.definitions.InterfaceMember.{InterfaceMember}
use Rattle.mojom_ast.specs.declared.definitions.InterfaceItem.{InterfaceItem}
use Rattle.mojom_ast.specs.declared.definitions.InterfaceItem.TheVariants as interface_items
use Rattle.mojom_ast.specs.declared.definitions.Parameter.{Parameter}
use Rattle.mj_base.specs.Names.{within}
use Rattle.mojom_files.specs.Definitions.{Defined}
use Rattle.module_resolver.specs.declared.file_names.FileNames.{FileNames}
use Rattle.name_refusals.specs.NameRefusals.{refused_uses}
use Rattle.name_refusals.specs.Uses.{response_of, uses_in_attributes, uses_in_struct, uses_in_union, uses_in_parameter, uses_in_method, uses_in_interface, uses_in_item}
use Rattle.const_eval.specs.declared.consts.Consts.{Consts}
use Rattle.const_eval.specs.Refused.{refused_ordinals, refused_struct_member, refused_union_field, refused_parameter, refused_parameters, refused_interface_member, refused_method, refused_versions, refused_item, struct_members, union_members, interface_members, parameter_members, Member as Ordinal}
use Rattle.mj_schema.specs.declared.rows.MethodRow.{MethodRow}
use Rattle.draft_rows.specs.declared.counts.Counts.{Counts}
use Rattle.draft_rows.specs.declared.counts.FileRows.{FileRows}
use Rattle.draft_rows.specs.declared.draft.Draft.{Draft}
use Rattle.kind_refusals.specs.declared.list_sort.ListSort.TheVariants.{Fields, Methods, Parameters}
use Rattle.kind_scope.specs.Scopes.{Scope}
use Rattle.kind_scope.specs.Members.{field_of, union_field_of, method_in, method_of, parameter_of, held, ordinal_at, numbered_from}
use Rattle.kind_scope.specs.Scopes.{around}
use Rattle.kind_refusals.specs.KindRefusals.{refused_list, refused_in_interface, refused_in_item, refused_parameters as refused_kinds_of_parameters, refused_response, refused_item as refused_kinds}
use Rattle.draft_rows.specs.RowCounts.{method_among, methods_in, structs_of}
use Rattle.draft_rows.specs.InterfaceVersions.{interface_version}
use Rattle.draft_rows.specs.Rows.{is_stable, struct_row, union_row, parameters_row, response_row, method_structs, structs_of_methods, method_rows, interface_row}
use Rattle.draft_rows.specs.Drafts.{draft_of_item}
use Rattle.schema_laws.proofs.Quiet.{both_empty}
use Rattle.schema_laws.proofs.Each.{all_empty}
use Rattle.schema_laws.proofs.Kinded.{uses_apart}
use Rattle.schema_laws.proofs.NothingLost.{IsKept, typed_in_item, typed_members, all_before}
use Rattle.written_laws.specs.Entries.{Entry, Counted, counted, parameters_of, methods_of}
use Rattle.written_laws.specs.Values.{Site}
use Rattle.written_laws.specs.Rows.{ArePaired, StructText, struct_text, IsStruct, IsUnion, IsMethod, reply_of, marks_of, IsLatest, IsInterface, site_in, response_texts, method_texts, struct_texts, union_texts, interface_texts}
use Rattle.written_laws.proofs.Counts.{ordinal_part, counted_of, fields_same, union_fields_same, parameters_same, methods_same, field_ordinals, union_ordinals, parameter_ordinals, method_ordinals, counted_same}
use Rattle.written_laws.proofs.Fields.{AllKnown}
use Rattle.written_laws.proofs.InterfaceVersions.{latest_kept}
use Rattle.written_laws.proofs.Pairs.{paired_append}
use Rattle.written_laws.proofs.NamedKindsKept.{site_of}
use Rattle.written_laws.proofs.Structs.{struct_kept, union_kept}
use Rattle.written_laws.proofs.Members.{site, each_use, fields_quiet, union_fields_quiet, parameters_quiet}

-- the methods of an interface

method_paired : (attributes : List Attribute) (item : InterfaceItem) (ms : List InterfaceMember)
    → ((next first : ℕ) → ArePaired IsMethod (map counted_of (numbered_from next (flat_map method_of ms))) (method_rows next first (methods_in ms)))
    → (next first : ℕ)
    → ArePaired IsMethod (map counted_of (numbered_from next (method_in attributes item ++ flat_map method_of ms)))
    (method_rows next first (method_among item ++ methods_in ms))
method_paired attributes (interface_items.Method m) ms rest next first =
    (record { name = refl; ordinal = refl }, rest (held (ordinal_at next m.ordinal + 1)) (first + structs_of m))
method_paired attributes (interface_items.Const c) ms rest next first = rest next first
method_paired attributes (interface_items.Enum e) ms rest next first = rest next first

methods_paired : (ms : List InterfaceMember) (next first : ℕ)
    → ArePaired IsMethod (map counted_of (numbered_from next (flat_map method_of ms))) (method_rows next first (methods_in ms))
methods_paired [] next first = tt
methods_paired (m ∷ ms) next first = method_paired m.attributes m.item ms (methods_paired ms) next first

-- and which of them have responses

is_some_map : {A B : Type 0} (f : A → B) (o : Option A) → is_some (option_map f o) ≡ is_some o
is_some_map f None = refl
is_some_map f (Some a) = refl

abbrev replies : List MethodRow → List Bool
replies rows = map (λ (method : MethodRow). is_some method.response) rows

reply_same : (item : InterfaceItem) (ms : List InterfaceMember)
    → ((next first : ℕ) → replies (method_rows next first (methods_in ms)) ≡ flat_map (λ (m : InterfaceMember). reply_of m.item) ms) → (next first : ℕ)
    → replies (method_rows next first (method_among item ++ methods_in ms)) ≡ reply_of item ++ flat_map (λ (m : InterfaceMember). reply_of m.item) ms
reply_same (interface_items.Method m) ms rest next first =
    ap (λ (b : Bool). b ∷ replies (method_rows (held (ordinal_at next m.ordinal + 1)) (first + structs_of m) (methods_in ms)))
    (is_some_map (λ (parameters : List Parameter). first + 1) m.response)
    ∙ ap (λ (bs : List Bool). is_some m.response ∷ bs) (rest (held (ordinal_at next m.ordinal + 1)) (first + structs_of m))
reply_same (interface_items.Const c) ms rest next first = rest next first
reply_same (interface_items.Enum e) ms rest next first = rest next first

replies_same : (ms : List InterfaceMember) (next first : ℕ)
    → replies (method_rows next first (methods_in ms)) ≡ flat_map (λ (m : InterfaceMember). reply_of m.item) ms
replies_same [] next first = refl
replies_same (m ∷ ms) next first = reply_same m.item ms (replies_same ms) next first

interface_kept : (at : Site) (file : ℕ) (full : List ℕ) (first : ℕ) (members : List InterfaceMember) (version : ℕ) (stable : Bool)
    → IsLatest at (flat_map (λ (m : InterfaceMember). marks_of m.attributes m.item) members) version
    → refused_ordinals file 0 (interface_members members) ≡ []
    → IsInterface (record {
      site = at;
      full = full;
      entries = methods_of members;
      replies = flat_map (λ (m : InterfaceMember). reply_of m.item) members;
      marks = flat_map (λ (m : InterfaceMember). marks_of m.attributes m.item) members;
      stable = stable;
    }) (interface_row full first (methods_in members) version stable)
interface_kept at file full first members version stable latest e =
    let ordinals : refused_ordinals file 0 (map ordinal_part (flat_map method_of members)) ≡ [] =
    subst (λ (os : List Ordinal). refused_ordinals file 0 os ≡ []) (method_ordinals members) e in
    let all = subst (λ (cs : List Counted). ArePaired IsMethod cs (method_rows 0 first (methods_in members)))
    (counted_same file (flat_map method_of members) ordinals) (methods_paired members 0 first) in
    record {
      name = refl;
      methods = subst (λ (es : List Entry). ArePaired IsMethod (counted es) (method_rows 0 first (methods_in members))) (sym (methods_same members)) all;
      replies = replies_same members 0 first;
      version = latest;
      stable = refl;
    }

module _ (rows : List FileRows) (scope : Scope) (known : AllKnown scope) where
  abbrev none_refused : List Ordinal → Type 0
  none_refused members = refused_ordinals scope.file 0 members ≡ []

  parameters_kept : (full : List ℕ) (owner : Identifier) (ps : List Parameter) → refused_kinds_of_parameters scope owner ps ≡ []
      → refused_parameters (site scope) scope.enclosing ps ≡ []
      → refused_uses scope.names scope.file (flat_map (uses_in_parameter scope.enclosing) ps) ≡ [] → AllByRecursion (IsKept rows scope) (map parameter_of ps)
      → IsStruct rows (struct_text (site_of scope) full (parameters_of ps) false) (parameters_row rows scope full ps)
  parameters_kept full owner ps kinds values uses kept =
      let v = both_empty (flat_map (refused_parameter (site scope) scope.enclosing) ps) (refused_ordinals scope.file 0 (parameter_members ps)) values in
      let quiet = parameters_quiet scope ps (all_empty (refused_parameter (site scope) scope.enclosing) ps v.0)
      (each_use scope.names scope.file (uses_in_parameter scope.enclosing) ps uses) in
      subst (λ (es : List Entry). IsStruct rows (struct_text (site_of scope) full es false) (parameters_row rows scope full ps)) (sym (parameters_same ps))
      (struct_kept rows scope known full false owner Parameters (map parameter_of ps) refl kinds (subst none_refused (parameter_ordinals ps) v.1) kept quiet)

  response_kept : (full : List ℕ) (owner : Identifier) (response : Option (List Parameter)) → refused_response scope owner response ≡ []
      → refused_parameters (site scope) scope.enclosing (response_of response) ≡ []
      → refused_uses scope.names scope.file (flat_map (uses_in_parameter scope.enclosing) (response_of response)) ≡ []
      → AllByRecursion (IsKept rows scope) (map parameter_of (response_of response))
      → ArePaired (IsStruct rows) (response_texts (site_of scope) full response)
      (option_to_list (response_row rows scope (within full (codes "response")) response))
  response_kept full owner None kinds values uses kept = tt
  response_kept full owner (Some ps) kinds values uses kept =
      (parameters_kept (within full (codes "response")) owner ps kinds values uses kept, tt)

  method_kept : (full : List ℕ) (attributes : List Attribute) (item : InterfaceItem) (ms : List Method) (texts : List StructText)
      → refused_in_item scope item ≡ [] → refused_method (site scope) scope.enclosing attributes item ≡ []
      → refused_uses scope.names scope.file (uses_in_method scope.enclosing attributes item) ≡ [] → AllByRecursion (IsKept rows scope) (typed_in_item item)
      → ArePaired (IsStruct rows) texts (structs_of_methods rows scope full ms)
      → ArePaired (IsStruct rows) (method_texts (site_of scope) full item ++ texts) (structs_of_methods rows scope full (method_among item ++ ms))
  method_kept full attributes (interface_items.Method m) ms texts kinds values uses kept rest =
      let name = within full m.name.text in
      let k = both_empty (refused_kinds_of_parameters scope m.name m.request) (refused_response scope m.name m.response) kinds in
      let all = both_empty (refused_versions (site scope) scope.enclosing m.name attributes) _ values in
      let v = both_empty (refused_parameters (site scope) scope.enclosing m.request)
      (refused_parameters (site scope) scope.enclosing (response_of m.response)) all.1 in
      let one = uses_apart scope.names scope.file (uses_in_attributes scope.enclosing attributes) _ uses in
      let u = uses_apart scope.names scope.file (flat_map (uses_in_parameter scope.enclosing) m.request)
      (flat_map (uses_in_parameter scope.enclosing) (response_of m.response)) one.1 in
      let two = all_before (IsKept rows scope) (map parameter_of m.request) (map parameter_of (response_of m.response)) kept in
      let request = parameters_kept (within name (codes "request")) m.name m.request k.0 v.0 u.0 two.0 in
      let response = response_kept name m.name m.response k.1 v.1 u.1 two.1 in
      paired_append (IsStruct rows) (method_texts (site_of scope) full (interface_items.Method m)) texts (method_structs rows scope name m)
      (structs_of_methods rows scope full ms) (request, response) rest
  method_kept full attributes (interface_items.Const c) ms texts kinds values uses kept rest = rest
  method_kept full attributes (interface_items.Enum e) ms texts kinds values uses kept rest = rest

  methods_kept : (full : List ℕ) (members : List InterfaceMember) → AllByRecursion (λ (m : InterfaceMember). refused_in_interface scope m ≡ []) members
      → AllByRecursion (λ (m : InterfaceMember). refused_interface_member (site scope) scope.enclosing m ≡ []) members
      → AllByRecursion (λ (m : InterfaceMember). refused_uses scope.names scope.file (uses_in_interface scope.enclosing m) ≡ []) members
      → AllByRecursion (IsKept rows scope) (flat_map (λ (m : InterfaceMember). typed_in_item m.item) members)
      → ArePaired (IsStruct rows) (flat_map (λ (m : InterfaceMember). method_texts (site_of scope) full m.item) members)
      (structs_of_methods rows scope full (methods_in members))
  methods_kept full [] kinds values uses kept = tt
  methods_kept full (m ∷ ms) kinds values uses kept =
      let two = all_before (IsKept rows scope) (typed_in_item m.item) (flat_map (λ (m : InterfaceMember). typed_in_item m.item) ms) kept in
      method_kept full m.attributes m.item (methods_in ms) (flat_map (λ (m : InterfaceMember). method_texts (site_of scope) full m.item) ms)
      kinds.0 values.0 uses.0 two.0 (methods_kept full ms kinds.1 values.1 uses.1 two.1)

-- definitions

-- the tables of a definition are as it is written
pub record HasItem (rows : List FileRows) (names : List FileNames) (consts : Consts) (file : ℕ) (full : List ℕ) (attributes : List Attribute)
    (item : DefinitionItem) (draft : Draft) : Type 0 where
  pub structs : ArePaired (IsStruct rows) (struct_texts (site_in names consts file full) full attributes item) draft.structs
  pub unions : ArePaired (IsUnion rows) (union_texts (site_in names consts file full) full attributes item) draft.unions
  pub interfaces : ArePaired IsInterface (interface_texts (site_in names consts file full) full attributes item) draft.interfaces

module _ (rows : List FileRows) (names : List FileNames) (consts : Consts) (file : ℕ)
    (known : (full : List ℕ) → AllKnown (around names consts file (Some full))) where
  pub item_kept : (thing : ℕ) (d : Defined) (counts : Counts) (item : DefinitionItem)
      → refused_item (record { consts = consts; names = names; file = file }) thing (Some d.full) item ≡ []
      → refused_kinds (around names consts file d.enclosing) d.full item ≡ [] → refused_uses names file (uses_in_item d item) ≡ []
      → AllByRecursion (IsKept rows (around names consts file (Some d.full))) (typed_members item)
      → HasItem rows names consts file d.full d.attributes item (draft_of_item rows (around names consts file d.enclosing) counts d.full d.attributes item)
  item_kept thing d counts (items.Struct item) values kinds uses kept =
      let scope = around names consts file (Some d.full) in
      let ms = flat_map field_of item.members in
      let v = both_empty (flat_map (refused_struct_member (site scope) (Some d.full)) item.members)
      (refused_ordinals file 0 (struct_members item.members)) values in
      let quiet = fields_quiet scope item.members (all_empty (refused_struct_member (site scope) (Some d.full)) item.members v.0)
      (each_use names file (uses_in_struct (Some d.full)) item.members uses) in
      let ordinals = subst (λ (os : List Ordinal). refused_ordinals file 0 os ≡ []) (field_ordinals item.members) v.1 in
      let row = struct_kept rows scope (known d.full) d.full (is_stable d.attributes) item.name Fields ms refl kinds ordinals kept quiet in
      record {
        structs = (
          subst (λ (es : List Entry). IsStruct rows (struct_text (site_of scope) d.full es (is_stable d.attributes))
              (struct_row rows scope d.full (is_stable d.attributes) ms))
              (sym (fields_same item.members)) row,
          tt,
        );
        unions = tt;
        interfaces = tt;
      }
  item_kept thing d counts (items.Union item) values kinds uses kept =
      let scope = around names consts file (Some d.full) in
      let ms = map union_field_of item.fields in
      let v = both_empty (flat_map (refused_union_field (site scope) (Some d.full)) item.fields)
      (refused_ordinals file 0 (union_members item.fields)) values in
      let quiet = union_fields_quiet scope item.fields (all_empty (refused_union_field (site scope) (Some d.full)) item.fields v.0)
      (each_use names file (uses_in_union (Some d.full)) item.fields uses) in
      let ordinals = subst (λ (os : List Ordinal). refused_ordinals file 0 os ≡ []) (union_ordinals item.fields) v.1 in
      let row = union_kept rows scope d.full d.attributes ms ordinals kept quiet in
      record {
        structs = tt;
        unions = (
          subst (λ (es : List Entry). IsUnion rows (record { site = site_of scope; full = d.full; attributes = d.attributes; entries = es })
              (union_row rows scope d.full d.attributes ms))
              (sym (union_fields_same item.fields)) row,
          tt,
        );
        interfaces = tt;
      }
  item_kept thing d counts (items.Interface item) values kinds uses kept =
      let scope = around names consts file (Some d.full) in
      let v = both_empty (flat_map (refused_interface_member (site scope) (Some d.full)) item.members)
      (refused_ordinals file 0 (interface_members item.members)) values in
      let k = both_empty (refused_list scope item.name Methods (flat_map method_of item.members)) (flat_map (refused_in_interface scope) item.members) kinds in
      let quiet = all_empty (refused_interface_member (site scope) (Some d.full)) item.members v.0 in
      let used = each_use names file (uses_in_interface (Some d.full)) item.members uses in
      record {
        structs = methods_kept rows scope (known d.full) d.full item.members (all_empty (refused_in_interface scope) item.members k.1) quiet used kept;
        unions = tt;
        interfaces = (
          interface_kept (site_of scope) file d.full counts.structs item.members (interface_version scope item.members)
              (is_stable d.attributes) (latest_kept scope (known d.full) item.members quiet used) v.1,
          tt,
        );
      }
  item_kept thing d counts (items.Enum item) values kinds uses kept = record { structs = tt; unions = tt; interfaces = tt }
  item_kept thing d counts (items.Const item) values kinds uses kept = record { structs = tt; unions = tt; interfaces = tt }
