-- Where nothing is refused, ordinals are whole.
use Rattle.std.proofs.Common.{◌≡◌, ◌<◌, ℕ, List, [], ◌∷◌, length, map, refl, sym, subst}
use Rattle.std.specs.Prelude.{true, Option, Some, None}
use Rattle.std.specs.List.{AllByRecursion, flat_map}
use Rattle.mojom_ast.specs.declared.names.Identifier.{Identifier}
use Rattle.mojom_ast.specs.declared.attributes.Attribute.{Attribute}
use Rattle.mojom_ast.specs.declared.definitions.DefinitionItem.{DefinitionItem}
use Rattle.mojom_ast.specs.declared.definitions.DefinitionItem.TheVariants as items
use Rattle.mojom_ast.specs.declared.definitions.InterfaceMember.{InterfaceMember}
use Rattle.mojom_ast.specs.declared.definitions.InterfaceItem.{InterfaceItem}
use Rattle.mojom_ast.specs.declared.definitions.InterfaceItem.TheVariants as interface_items
use Rattle.mojom_ast.specs.declared.definitions.Parameter.{Parameter}
use Rattle.mojom_files.specs.declared.named_file.NamedFile.{NamedFile}
use Rattle.mojom_files.specs.Definitions.{Defined, definitions_of}
use Rattle.module_resolver.specs.declared.file_names.Names.{Names}
use Rattle.name_refusals.specs.Uses.{response_of}
use Rattle.const_eval.specs.declared.consts.Consts.{Consts}
use Rattle.const_eval.specs.Refused.{Site, Member as Ordinal, refused_ordinals, refused_struct_member, refused_union_field, refused_parameter, refused_parameters, refused_interface_member, refused_method, refused_versions, refused_item, struct_members, union_members, interface_members, parameter_members}
use Rattle.kind_refusals.specs.declared.list_sort.ListSort.{ListSort}
use Rattle.kind_refusals.specs.declared.list_sort.ListSort.TheVariants.{Fields, UnionFields, Methods, Parameters}
use Rattle.kind_scope.specs.Scopes.{Scope}
use Rattle.kind_scope.specs.Members.{Member, Numbered, field_of, union_field_of, method_of, parameter_of, numbered}
use Rattle.kind_refusals.specs.KindRefusals.{is_struct, refused_list, refused_in_interface, refused_in_item, refused_parameters as refused_kinds_of_parameters, refused_response, refused_item as refused_kinds}
use Rattle.kind_scope.specs.Scopes.{inside, around}
use Rattle.schema_laws.specs.Passed.{IsPassed}
use Rattle.schema_laws.proofs.Among.{each_append, each_where}
use Rattle.schema_laws.proofs.Quiet.{both_empty}
use Rattle.schema_laws.proofs.Each.{all_empty, all_map}
use Rattle.written_laws.specs.Entries.{OfEach, AreApart, parameters_of, response_list, parameter_lists}
use Rattle.written_laws.specs.Ordinals.{AreWhole, AreChoices, HasOrdinals}
use Rattle.written_laws.proofs.Apart.{distinct, apart}
use Rattle.written_laws.proofs.Along.{each_stands}
use Rattle.written_laws.proofs.Counts.{entry_of, ordinal_part, fields_same, union_fields_same, parameters_same, methods_same, field_ordinals, union_ordinals, parameter_ordinals, method_ordinals, ordinals_same, as_many, all_small}
use Rattle.written_laws.proofs.ListsQuiet.{quiet_list, quiet_struct}
use Rattle.written_laws.proofs.Definitions.{quiet_definition}

-- a list of members of which nothing is refused

pub whole : (scope : Scope) (owner : Identifier) (sort : ListSort) (ms : List Member) → is_struct sort ≡ true → refused_list scope owner sort ms ≡ []
    → refused_ordinals scope.file 0 (map ordinal_part ms) ≡ [] → AreWhole (map entry_of ms)
whole scope owner sort ms is kinds values =
    let ones = numbered ms in
    let same = ordinals_same scope.file ms values in
    let differ = distinct ones (quiet_list scope owner sort ms kinds).distinct in
    let lacks = (quiet_struct scope owner sort ms is kinds).whole in
    let each = each_where (λ (one : Numbered). one.ordinal < length (map entry_of ms)) ones
    (λ one among. subst (λ (n : ℕ). one.ordinal < n) (as_many ms) (each_stands ones differ lacks one among).below) in
    record {
      below = subst (AllByRecursion (λ (ordinal : ℕ). ordinal < length (map entry_of ms))) (sym same)
          (all_map (λ (ordinal : ℕ). ordinal < length (map entry_of ms)) (λ (one : Numbered). one.ordinal) ones each);
      apart = subst AreApart (sym same) (apart ones differ);
    }

pub choices : (scope : Scope) (owner : Identifier) (sort : ListSort) (ms : List Member) → refused_list scope owner sort ms ≡ []
    → refused_ordinals scope.file 0 (map ordinal_part ms) ≡ [] → AreChoices (map entry_of ms)
choices scope owner sort ms kinds values =
    let same = ordinals_same scope.file ms values in
    let differ = distinct (numbered ms) (quiet_list scope owner sort ms kinds).distinct in
    record {
      small = all_small scope.file 0 ms values;
      apart = subst AreApart (sym same) (apart (numbered ms) differ);
    }

-- definitions

module _ (names : Names) (consts : Consts) (file : ℕ) (enclosing : Option (List ℕ)) (full : List ℕ) where
  abbrev site : Site
  site = record { consts = consts; names = names.files; file = file }

  abbrev scope : Scope
  scope = inside (around names.files consts file enclosing) full

  abbrev none_refused : List Ordinal → Type 0
  none_refused members = refused_ordinals file 0 members ≡ []

  parameters_whole : (owner : Identifier) (ps : List Parameter) → refused_kinds_of_parameters scope owner ps ≡ []
      → refused_parameters site (Some full) ps ≡ [] → AreWhole (parameters_of ps)
  parameters_whole owner ps kinds values =
      let quiet = (both_empty (flat_map (refused_parameter site (Some full)) ps) (refused_ordinals file 0 (parameter_members ps)) values).1 in
      subst AreWhole (sym (parameters_same ps))
      (whole scope owner Parameters (map parameter_of ps) refl kinds (subst none_refused (parameter_ordinals ps) quiet))

  response_whole : (owner : Identifier) (response : Option (List Parameter)) → refused_response scope owner response ≡ []
      → refused_parameters site (Some full) (response_of response) ≡ [] → AllByRecursion AreWhole (response_list response)
  response_whole owner None kinds values = tt
  response_whole owner (Some ps) kinds values = (parameters_whole owner ps kinds values, tt)

  method_whole : (attributes : List Attribute) (item : InterfaceItem) → refused_in_item scope item ≡ []
      → refused_method site (Some full) attributes item ≡ [] → AllByRecursion AreWhole (parameter_lists item)
  method_whole attributes (interface_items.Method m) kinds values =
      let k = both_empty (refused_kinds_of_parameters scope m.name m.request) (refused_response scope m.name m.response) kinds in
      let all = both_empty (refused_versions site (Some full) m.name attributes) _ values in
      let v = both_empty (refused_parameters site (Some full) m.request) (refused_parameters site (Some full) (response_of m.response)) all.1 in
      (parameters_whole m.name m.request k.0 v.0, response_whole m.name m.response k.1 v.1)
  method_whole attributes (interface_items.Const c) kinds values = tt
  method_whole attributes (interface_items.Enum e) kinds values = tt

  methods_whole : (members : List InterfaceMember) → AllByRecursion (λ (m : InterfaceMember). refused_in_interface scope m ≡ []) members
      → AllByRecursion (λ (m : InterfaceMember). refused_interface_member site (Some full) m ≡ []) members
      → AllByRecursion AreWhole (flat_map (λ (m : InterfaceMember). parameter_lists m.item) members)
  methods_whole [] kinds values = tt
  methods_whole (m ∷ ms) kinds values =
      each_append AreWhole (parameter_lists m.item) (flat_map (λ (m : InterfaceMember). parameter_lists m.item) ms)
      (method_whole m.attributes m.item kinds.0 values.0) (methods_whole ms kinds.1 values.1)

  item_whole : (thing : ℕ) (item : DefinitionItem) → refused_item site thing (Some full) item ≡ []
      → refused_kinds (around names.files consts file enclosing) full item ≡ [] → HasOrdinals item
  item_whole thing (items.Struct item) values kinds =
      let quiet = (both_empty (flat_map (refused_struct_member site (Some full)) item.members)
      (refused_ordinals file 0 (struct_members item.members)) values).1 in
      let fields = whole scope item.name Fields (flat_map field_of item.members) refl kinds (subst none_refused (field_ordinals item.members) quiet) in
      record { structs = (subst AreWhole (sym (fields_same item.members)) fields, tt); choices = tt }
  item_whole thing (items.Union item) values kinds =
      let quiet = (both_empty (flat_map (refused_union_field site (Some full)) item.fields) (refused_ordinals file 0 (union_members item.fields)) values).1 in
      let fields = choices scope item.name UnionFields (map union_field_of item.fields) kinds (subst none_refused (union_ordinals item.fields) quiet) in
      record { structs = tt; choices = (subst AreChoices (sym (union_fields_same item.fields)) fields, tt) }
  item_whole thing (items.Interface item) values kinds =
      let v = both_empty (flat_map (refused_interface_member site (Some full)) item.members)
      (refused_ordinals file 0 (interface_members item.members)) values in
      let k = both_empty (refused_list scope item.name Methods (flat_map method_of item.members)) (flat_map (refused_in_interface scope) item.members) kinds in
      let methods = choices scope item.name Methods (flat_map method_of item.members) k.0 (subst none_refused (method_ordinals item.members) v.1) in
      record {
        structs = methods_whole item.members (all_empty (refused_in_interface scope) item.members k.1)
            (all_empty (refused_interface_member site (Some full)) item.members v.0);
        choices = (subst AreChoices (sym (methods_same item.members)) methods, tt);
      }
  item_whole thing (items.Enum item) values kinds = record { structs = tt; choices = tt }
  item_whole thing (items.Const item) values kinds = record { structs = tt; choices = tt }

-- files

pub ordinals_whole : (files : List NamedFile) (order : List ℕ) (names : Names) (consts : Consts) → IsPassed files order names consts
    → OfEach files HasOrdinals
ordinals_whole files order names consts passed file tree is =
    each_where (λ (d : Defined). HasOrdinals d.item) (definitions_of tree.tree)
    (λ d among.
    let q = quiet_definition files order names consts passed file tree is d among in
    let values = (both_empty (refused_versions (site names consts file d.enclosing d.full) d.enclosing d.name d.attributes) _ q.values).1 in
    item_whole names consts file d.enclosing d.full q.thing d.item values q.kinds)
