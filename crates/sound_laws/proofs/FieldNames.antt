-- The names of the fields of each struct of files of which nothing is refused differ.
use Rattle.std.proofs.Common.{◌≡◌, ◌+◌, ℕ, List, [], ◌∷◌, ◌++◌, map, refl, sym, ap, ◌∙◌, subst}
use Rattle.std.specs.Prelude.{true, slice_get, Option, Some, None}
use Rattle.std.specs.List.{AllByRecursion, flat_map}
use Rattle.std.specs.Option.{option_map_or}
use Rattle.mj_base.specs.Texts.{are_distinct}
use Rattle.mojom_ast.specs.declared.definitions.DefinitionItem.{DefinitionItem}
use Rattle.mojom_ast.specs.declared.definitions.DefinitionItem.TheVariants as items
use Rattle.mojom_ast.specs.declared.definitions.InterfaceItem.{InterfaceItem}
use Rattle.mojom_ast.specs.declared.definitions.InterfaceItem.TheVariants as interface_items
use Rattle.mojom_ast.specs.declared.definitions.InterfaceMember.{InterfaceMember}
use Rattle.mojom_ast.specs.declared.definitions.Method.{Method}
use Rattle.mojom_ast.specs.declared.definitions.Parameter.{Parameter}
use Rattle.mojom_files.specs.declared.named_file.NamedFile.{NamedFile}
use Rattle.mojom_files.specs.Definitions.{Defined, definitions_of}
use Rattle.module_resolver.specs.declared.file_names.Names.{Names}
use Rattle.const_eval.specs.declared.consts.Consts.{Consts}
use Rattle.mj_schema.specs.declared.rows.DraftField.{DraftField}
use Rattle.mj_schema.specs.declared.rows.DraftStruct.{DraftStruct}
use Rattle.kind_scope.specs.Members.{Member, Numbered, field_of, parameter_of, held, ordinal_at, numbered_from, numbered}
use Rattle.draft_rows.specs.RowCounts.{method_among, methods_in, definitions_at}
use Rattle.draft_rows.specs.Drafts.{draft_of}
use Rattle.schema_laws.specs.Kept.{response_list, method_lists, struct_lists, names_along, field_names, all_definitions}
use Rattle.schema_laws.specs.Passed.{IsPassed}
use Rattle.schema_laws.proofs.Among.{each_append}
use Rattle.schema_laws.proofs.Each.{all_flat, all_map, all_so}
use Rattle.schema_laws.proofs.HasAll.{has_all}
use Rattle.schema_laws.proofs.NothingLost.{all_before}
use Rattle.written_laws.specs.Entries.{Entry, OfEach, fields_of, parameters_of, parameter_lists, response_list as entry_list}
use Rattle.written_laws.specs.Lists.{AreNames, HasNames, names_of}
use Rattle.written_laws.proofs.Counts.{entry_of, fields_same, parameters_same}
use Rattle.written_laws.proofs.Lists.{names_differ}
use Rattle.sound_laws.proofs.Distinct.{apart_distinct, along_distinct}

-- lists of members

numbered_names : (next : ℕ) (ms : List Member)
    → map (λ (one : Numbered). one.member.name.text) (numbered_from next ms) ≡ map (λ (m : Member). m.name.text) ms
numbered_names next [] = refl
numbered_names next (m ∷ ms) = ap (λ (ts : List (List ℕ)). m.name.text ∷ ts) (numbered_names (held (ordinal_at next m.ordinal + 1)) ms)

entry_names : (ms : List Member) → names_of (map entry_of ms) ≡ map (λ (m : Member). m.name.text) ms
entry_names [] = refl
entry_names (m ∷ ms) = ap (λ (ts : List (List ℕ)). m.name.text ∷ ts) (entry_names ms)

-- the names of members along their ordinals differ
abbrev Once : List Member → Type 0
Once ms = are_distinct (names_along ms) ≡ true

abbrev Named : List Entry → Type 0
Named entries = AreNames (names_of entries)

once : (entries : List Entry) (ms : List Member) → entries ≡ map entry_of ms → Named entries → Once ms
once entries ms same names =
    let written : are_distinct (map (λ (m : Member). m.name.text) ms) ≡ true =
    ap are_distinct (sym (entry_names ms))
    ∙ (ap (λ (es : List Entry). are_distinct (names_of es)) (sym same) ∙ apart_distinct (names_of entries) names.apart) in
    along_distinct Numbered (λ (one : Numbered). one.member.name.text) (λ (one : Numbered). one.ordinal) (numbered ms)
    (ap are_distinct (numbered_names 0 ms) ∙ written)

response_once : (response : Option (List Parameter)) → AllByRecursion Named (entry_list response) → AllByRecursion Once (response_list response)
response_once None has = tt
response_once (Some ps) has = (once (parameters_of ps) (map parameter_of ps) (parameters_same ps) has.0, tt)

method_once : (item : InterfaceItem) (ms : List Method) → AllByRecursion Named (parameter_lists item) → AllByRecursion Once (flat_map method_lists ms)
    → AllByRecursion Once (flat_map method_lists (method_among item ++ ms))
method_once (interface_items.Method m) ms has rest = (
  once (parameters_of m.request) (map parameter_of m.request) (parameters_same m.request) has.0,
  each_append Once (response_list m.response) (flat_map method_lists ms) (response_once m.response has.1) rest,
)
method_once (interface_items.Const c) ms has rest = rest
method_once (interface_items.Enum e) ms has rest = rest

methods_once : (members : List InterfaceMember) → AllByRecursion Named (flat_map (λ (m : InterfaceMember). parameter_lists m.item) members)
    → AllByRecursion Once (flat_map method_lists (methods_in members))
methods_once [] has = tt
methods_once (m ∷ ms) has =
    let two = all_before Named (parameter_lists m.item) (flat_map (λ (m : InterfaceMember). parameter_lists m.item) ms) has in
    method_once m.item (methods_in ms) two.0 (methods_once ms two.1)

item_once : (item : DefinitionItem) → HasNames item → AllByRecursion Once (struct_lists item)
item_once (items.Struct item) has = (once (fields_of item.members) (flat_map field_of item.members) (fields_same item.members) has.structs.0, tt)
item_once (items.Interface item) has = methods_once item.members has.structs
item_once (items.Union item) has = tt
item_once (items.Enum item) has = tt
item_once (items.Const item) has = tt

-- files

all_of : {A : Type 0} (P : A → Type 0) → ((x : A) → P x) → (xs : List A) → AllByRecursion P xs
all_of P each [] = tt
all_of P each (x ∷ xs) = (each x, all_of P each xs)

defined : (files : List NamedFile) → OfEach files HasNames → (file : ℕ) → AllByRecursion (λ (d : Defined). HasNames d.item) (definitions_at files file)
defined files has file = go (slice_get files file) refl
  where
    go : (o : Option NamedFile) → slice_get files file ≡ o
        → AllByRecursion (λ (d : Defined). HasNames d.item) (option_map_or (λ (f : NamedFile). definitions_of f.tree) o [])
    go None is = tt
    go (Some tree) is = has file tree is

unmapped : {A B : Type 0} (P : B → Type 0) (f : A → B) (xs : List A) → AllByRecursion P (map f xs) → AllByRecursion (λ x. P (f x)) xs
unmapped P f [] all = tt
unmapped P f (x ∷ xs) all = (all.0, unmapped P f xs all.1)

-- the names of the fields of a struct differ
abbrev pub FieldsOnce : DraftStruct → Type 0
FieldsOnce row = are_distinct (map (λ (field : DraftField). field.name) row.fields) ≡ true

pub fields_once : (files : List NamedFile) (order : List ℕ) (names : Names) (consts : Consts) → IsPassed files order names consts
    → AllByRecursion FieldsOnce (draft_of names.files consts files order).structs
fields_once files order names consts passed =
    let P : List (List ℕ) → Type 0 = λ ts. are_distinct ts ≡ true in
    let has = names_differ files order names consts passed in
    let ds = all_flat (λ (d : Defined). HasNames d.item) (definitions_at files) order
    (all_of (λ (file : ℕ). AllByRecursion (λ (d : Defined). HasNames d.item) (definitions_at files file)) (defined files has) order) in
    let lists = all_flat Once (λ (d : Defined). struct_lists d.item) (all_definitions files order)
    (all_so (λ (d : Defined). HasNames d.item) (λ (d : Defined). AllByRecursion Once (struct_lists d.item)) (λ d is. item_once d.item is)
    (all_definitions files order) ds) in
    let all = all_map P names_along (flat_map (λ (d : Defined). struct_lists d.item) (all_definitions files order)) lists in
    let structs = (has_all files order names consts passed).structs in
    unmapped P field_names (draft_of names.files consts files order).structs (subst (AllByRecursion P) (sym structs) all)
