-- Where nothing is refused, lists are short and their names differ.
use Rattle.std.proofs.Common.{◌≡◌, ◌≤◌, ℕ, List, [], ◌∷◌, length, map, sym, ◌∙◌, ap, subst, arith}
use Rattle.std.specs.Prelude.{nat_lt, Option, Some, None}
use Rattle.std.specs.List.{AllByRecursion, flat_map}
use Rattle.std.proofs.lemmas.Bool.{ltb-false}
use Rattle.std.proofs.lemmas.List.{length-map}
use Rattle.mojom_ast.specs.declared.names.Identifier.{Identifier}
use Rattle.mojom_ast.specs.declared.definitions.DefinitionItem.{DefinitionItem}
use Rattle.mojom_ast.specs.declared.definitions.DefinitionItem.TheVariants as items
use Rattle.mojom_ast.specs.declared.definitions.Enum.{Enum}
use Rattle.mojom_ast.specs.declared.definitions.StructMember.{StructMember}
use Rattle.mojom_ast.specs.declared.definitions.UnionField.{UnionField}
use Rattle.mojom_ast.specs.declared.definitions.InterfaceMember.{InterfaceMember}
use Rattle.mojom_ast.specs.declared.definitions.InterfaceItem.{InterfaceItem}
use Rattle.mojom_ast.specs.declared.definitions.InterfaceItem.TheVariants as interface_items
use Rattle.mojom_ast.specs.declared.definitions.Parameter.{Parameter}
use Rattle.mojom_ast.specs.declared.definitions.Enumerator.{Enumerator}
use Rattle.mojom_files.specs.declared.named_file.NamedFile.{NamedFile}
use Rattle.mojom_files.specs.Definitions.{Defined, definitions_of}
use Rattle.module_resolver.specs.declared.file_names.Names.{Names}
use Rattle.name_refusals.specs.Uses.{response_of}
use Rattle.name_refusals.specs.NameRefusals.{field_name, method_name, parameter_names, parameter_lists as resolver_lists, repeated_members}
use Rattle.const_eval.specs.declared.consts.Consts.{Consts}
use Rattle.kind_refusals.specs.declared.list_sort.ListSort.TheVariants.{Fields, UnionFields, Methods, Parameters}
use Rattle.kind_scope.specs.Scopes.{Scope}
use Rattle.kind_scope.specs.Members.{Member, field_of, union_field_of, method_of, parameter_of}
use Rattle.kind_refusals.specs.KindRefusals.{refused_count, refused_list, refused_in_interface, refused_in_item, refused_parameters, refused_response, refused_enum, refused_item}
use Rattle.kind_scope.specs.Scopes.{inside, around}
use Rattle.schema_laws.specs.Passed.{IsPassed}
use Rattle.schema_laws.proofs.Among.{each_append, each_where}
use Rattle.schema_laws.proofs.Quiet.{both_empty, none_where}
use Rattle.schema_laws.proofs.QuietFiles.{has_among}
use Rattle.schema_laws.proofs.Rowed.{in_order}
use Rattle.schema_laws.proofs.Each.{all_empty}
use Rattle.schema_laws.proofs.NothingLost.{all_before}
use Rattle.std.proofs.lemmas.Option.{none-some, slice_get_within}
use Rattle.written_laws.specs.Entries.{Entry, OfEach, AreApart, fields_of, union_fields_of, parameters_of, methods_of, response_list, parameter_lists}
use Rattle.written_laws.specs.Lists.{AreNames, names_of, HasNames}
use Rattle.written_laws.proofs.Counts.{entry_of, fields_same, union_fields_same, parameters_same, methods_same}
use Rattle.written_laws.proofs.ListsQuiet.{quiet_list}
use Rattle.written_laws.proofs.Names.{texts, members_apart, field_texts, union_texts, parameter_texts, method_texts, enumerator_texts, NoneRepeated, none_repeated}
use Rattle.written_laws.proofs.Definitions.{quiet_definition}

abbrev Named : List Entry → Type 0
Named entries = AreNames (names_of entries)

-- a list of few members whose names are not repeated
named : (entries : List Entry) (ms : List Member) (ids : List Identifier) → entries ≡ map entry_of ms → names_of entries ≡ texts ids → length ms ≤ 4096
    → repeated_members ids ≡ [] → Named entries
named entries ms ids same called few none = record {
  few = subst (λ (n : ℕ). n ≤ 4096)
      (sym (length-map entries (λ (e : Entry). e.name) ∙ (ap (λ (es : List Entry). length es) same ∙ length-map ms entry_of))) few;
  apart = subst AreApart (sym called) (members_apart ids none);
}

module _ (scope : Scope) where
  parameters_named : (owner : Identifier) (ps : List Parameter) → refused_parameters scope owner ps ≡ [] → repeated_members (parameter_names ps) ≡ []
      → Named (parameters_of ps)
  parameters_named owner ps kinds none =
      named (parameters_of ps) (map parameter_of ps) (parameter_names ps) (parameters_same ps) (parameter_texts ps)
      (quiet_list scope owner Parameters (map parameter_of ps) kinds).few none

  response_named : (owner : Identifier) (response : Option (List Parameter)) → refused_response scope owner response ≡ []
      → repeated_members (parameter_names (response_of response)) ≡ [] → AllByRecursion Named (response_list response)
  response_named owner None kinds none = tt
  response_named owner (Some ps) kinds none = (parameters_named owner ps kinds none, tt)

  abbrev Unrepeated : List (List Identifier) → Type 0
  Unrepeated lists = AllByRecursion (λ (names : List Identifier). repeated_members names ≡ []) lists

  method_named : (item : InterfaceItem) → refused_in_item scope item ≡ [] → Unrepeated (resolver_lists item) → AllByRecursion Named (parameter_lists item)
  method_named (interface_items.Method m) kinds none =
      let k = both_empty (refused_parameters scope m.name m.request) (refused_response scope m.name m.response) kinds in
      (parameters_named m.name m.request k.0 none.0, response_named m.name m.response k.1 none.1.0)
  method_named (interface_items.Const c) kinds none = tt
  method_named (interface_items.Enum e) kinds none = tt

  methods_named : (members : List InterfaceMember) → AllByRecursion (λ (m : InterfaceMember). refused_in_interface scope m ≡ []) members
      → Unrepeated (flat_map (λ (m : InterfaceMember). resolver_lists m.item) members)
      → AllByRecursion Named (flat_map (λ (m : InterfaceMember). parameter_lists m.item) members)
  methods_named [] kinds none = tt
  methods_named (m ∷ ms) kinds none =
      let two = all_before (λ (names : List Identifier). repeated_members names ≡ []) (resolver_lists m.item)
      (flat_map (λ (m : InterfaceMember). resolver_lists m.item) ms) none in
      each_append Named (parameter_lists m.item) (flat_map (λ (m : InterfaceMember). parameter_lists m.item) ms)
      (method_named m.item kinds.0 two.0) (methods_named ms kinds.1 two.1)

few_enumerators : (scope : Scope) (e : Enum) → refused_enum scope e ≡ [] → length e.enumerators ≤ 4096
few_enumerators scope e kinds =
    let parts = both_empty (refused_count scope e.name 4096 (length e.enumerators)) _ kinds in
    ltb-false 4096 (length e.enumerators) (none_where (nat_lt 4096 (length e.enumerators)) _ parts.0)

no_names : AreNames []
no_names = record { few = omega arith; apart = λ place other one at there. absurd (none-some one at) }

item_named : (outer : Scope) (full : List ℕ) (item : DefinitionItem) → refused_item outer full item ≡ [] → NoneRepeated item → HasNames item
item_named outer full (items.Struct item) kinds none =
    let ms = flat_map field_of item.members in
    let few = (quiet_list (inside outer full) item.name Fields ms kinds).few in
    record {
      structs = (
        named (fields_of item.members) ms (flat_map (λ (m : StructMember). field_name m.item) item.members) (fields_same item.members)
            (field_texts item.members) few none.0,
        tt,
      );
      choices = tt;
      enumerators = no_names;
    }
item_named outer full (items.Union item) kinds none =
    let ms = map union_field_of item.fields in
    let few = (quiet_list (inside outer full) item.name UnionFields ms kinds).few in
    record {
      structs = tt;
      choices = (
        named (union_fields_of item.fields) ms (map (λ (f : UnionField). f.name) item.fields) (union_fields_same item.fields)
            (union_texts item.fields) few none.0,
        tt,
      );
      enumerators = no_names;
    }
item_named outer full (items.Interface item) kinds none =
    let ms = flat_map method_of item.members in
    let k = both_empty (refused_list (inside outer full) item.name Methods ms) (flat_map (refused_in_interface (inside outer full)) item.members) kinds in
    let few = (quiet_list (inside outer full) item.name Methods ms k.0).few in
    record {
      structs = methods_named (inside outer full) item.members (all_empty (refused_in_interface (inside outer full)) item.members k.1) none.1;
      choices = (
        named (methods_of item.members) ms (flat_map (λ (m : InterfaceMember). method_name m.item) item.members) (methods_same item.members)
            (method_texts item.members) few none.0,
        tt,
      );
      enumerators = no_names;
    }
item_named outer full (items.Enum item) kinds none =
    let few = few_enumerators outer item kinds in
    record {
      structs = tt;
      choices = tt;
      enumerators = record {
        few = subst (λ (n : ℕ). n ≤ 4096) (sym (length-map item.enumerators (λ (e : Enumerator). e.name.text))) few;
        apart = subst AreApart (sym (enumerator_texts item.enumerators)) (members_apart (map (λ (e : Enumerator). e.name) item.enumerators) none.0);
      };
    }
item_named outer full (items.Const item) kinds none = record { structs = tt; choices = tt; enumerators = no_names }

pub names_differ : (files : List NamedFile) (order : List ℕ) (names : Names) (consts : Consts) → IsPassed files order names consts
    → OfEach files HasNames
names_differ files order names consts passed file tree is =
    each_where (λ (d : Defined). HasNames d.item) (definitions_of tree.tree)
    (λ d among.
    let there = has_among order file (in_order files order passed.ordered.is file (slice_get_within files file tree is)) in
    let quiet = quiet_definition files order names consts passed file tree is d among in
    item_named (around names.files consts file d.enclosing) d.full d.item quiet.kinds
    (none_repeated files order file tree d passed.named.none_refused there is among))
