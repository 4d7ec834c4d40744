-- In lists of which nothing is refused each name stands once.
use Rattle.std.proofs.Common.{◌≡◌, ℕ, zero, suc, List, [], ◌∷◌, ◌++◌, get_or, map, refl, sym, ◌∙◌, ap, subst, inl, inr}
use Rattle.std.specs.Prelude.{Bool, true, false, ◌||◌, if◌then◌else◌, take, slice_get, Some, None}
use Rattle.std.specs.List.{AllByRecursion, flat_map}
use Rattle.std.specs.Str.{bytes_eq}
use Rattle.std.proofs.lemmas.List.{map-append}
use Rattle.std.proofs.lemmas.Option.{same_Some, none-some, slice_get_within, get_or_from_slice_get}
use Rattle.std.proofs.lemmas.Slice.Eq.{bytes_eq-Decides}
use Rattle.mojom_ast.specs.declared.names.Identifier.{Identifier}
use Rattle.mojom_ast.specs.declared.attributes.Attribute.{Attribute}
use Rattle.mojom_ast.specs.declared.definitions.DefinitionItem.{DefinitionItem}
use Rattle.mojom_ast.specs.declared.definitions.StructMember.{StructMember}
use Rattle.mojom_ast.specs.declared.definitions.StructItem.{StructItem}
use Rattle.mojom_ast.specs.declared.definitions.StructItem.TheVariants as struct_items
use Rattle.mojom_ast.specs.declared.definitions.UnionField.{UnionField}
use Rattle.mojom_ast.specs.declared.definitions.InterfaceMember.{InterfaceMember}
use Rattle.mojom_ast.specs.declared.definitions.InterfaceItem.{InterfaceItem}
use Rattle.mojom_ast.specs.declared.definitions.InterfaceItem.TheVariants as interface_items
use Rattle.mojom_ast.specs.declared.definitions.Parameter.{Parameter}
use Rattle.mojom_ast.specs.declared.definitions.Enumerator.{Enumerator}
use Rattle.mojom_files.specs.declared.named_file.NamedFile.{NamedFile}
use Rattle.mojom_files.specs.Definitions.{Defined, definitions_of}
use Rattle.name_refusals.specs.Known.{no_names, with_name}
use Rattle.module_resolver.specs.NamesOf.{names_of as names_of_files}
use Rattle.name_refusals.specs.Uses.{uses_of}
use Rattle.name_refusals.specs.NameRefusals.{duplicate, is_among, field_name, method_name, parameter_names, member_lists, repeated, repeated_members, repeated_definitions, named_as_basic, repeated_in, of_file, names_before, refused_uses, refusals_in, refusals_at, names_refusal}
use Rattle.schema_laws.proofs.Among.{IsAmong, place_of}
use Rattle.schema_laws.proofs.Quiet.{both_empty, map_empty, quiet_names}
use Rattle.schema_laws.proofs.Each.{all_empty}
use Rattle.schema_laws.proofs.NothingLost.{all_before}
use Rattle.written_laws.specs.Entries.{Entry, AreApart, field_entry, fields_of, union_entry, union_fields_of, parameter_entry, parameters_of, method_entry, methods_of}
use Rattle.written_laws.specs.Lists.{names_of}

-- names that are not repeated

none_chosen : {A : Type 0} (b : Bool) (one : A) → (if b then one ∷ [] else []) ≡ [] → b ≡ false
none_chosen false one e = refl
none_chosen true one e = absurd cc

or_parts : (a b : Bool) → (a || b) ≡ false → (a ≡ false) × (b ≡ false)
or_parts false b e = (refl, e)
or_parts true b e = absurd cc

-- the texts of identifiers
abbrev pub texts : List Identifier → List (List ℕ)
texts names = map (λ (i : Identifier). i.text) names

abbrev repeats : (List ℕ → Bool) → List Identifier → List Identifier
repeats known names = repeated (λ (i : Identifier). i.text) (λ (i : Identifier). i) known names

-- where none is repeated, none is known
fresh : (known : List ℕ → Bool) (names : List Identifier) → repeats known names ≡ [] → (k : ℕ) (text : List ℕ) → slice_get (texts names) k ≡ Some text
    → known text ≡ false
fresh known [] e k text at = absurd (none-some text at)
fresh known (one ∷ others) e zero text at =
    let parts = both_empty (if known one.text then one ∷ [] else []) (repeats (with_name known one.text) others) e in
    subst (λ (t : List ℕ). known t ≡ false) (same_Some one.text text at) (none_chosen (known one.text) one parts.0)
fresh known (one ∷ others) e (suc k) text at =
    let parts = both_empty (if known one.text then one ∷ [] else []) (repeats (with_name known one.text) others) e in
    (or_parts (known text) (bytes_eq text one.text) (fresh (with_name known one.text) others parts.1 k text at)).0

-- one that is known is none of those behind
not_behind : (known : List ℕ → Bool) (one : Identifier) (others : List Identifier) → repeats (with_name known one.text) others ≡ [] → (k : ℕ) (text : List ℕ)
    → one.text ≡ text → slice_get (texts others) k ≡ Some text → ⊥
not_behind known one others e k text same at =
    let other = (or_parts (known text) (bytes_eq text one.text) (fresh (with_name known one.text) others e k text at)).1 in
    let equal : bytes_eq text one.text ≡ true = (bytes_eq-Decides text one.text).1 (sym same) in
    let bad : true ≡ false = sym equal ∙ other in
    absurd cc

-- where none is repeated, each stands once
apart : (known : List ℕ → Bool) (names : List Identifier) → repeats known names ≡ [] → AreApart (texts names)
apart known [] e place other text at there = absurd (none-some text at)
apart known (one ∷ others) e zero zero text at there = refl
apart known (one ∷ others) e zero (suc j) text at there =
    let parts = both_empty (if known one.text then one ∷ [] else []) (repeats (with_name known one.text) others) e in
    absurd (not_behind known one others parts.1 j text (same_Some one.text text at) there)
apart known (one ∷ others) e (suc i) zero text at there =
    let parts = both_empty (if known one.text then one ∷ [] else []) (repeats (with_name known one.text) others) e in
    absurd (not_behind known one others parts.1 i text (same_Some one.text text there) at)
apart known (one ∷ others) e (suc i) (suc j) text at there =
    let parts = both_empty (if known one.text then one ∷ [] else []) (repeats (with_name known one.text) others) e in
    ap suc (apart (with_name known one.text) others parts.1 i j text at there)

pub members_apart : (names : List Identifier) → repeated_members names ≡ [] → AreApart (texts names)
members_apart names e = apart no_names names e

-- the names of lists

flat_texts : {A : Type 0} (f : A → List Entry) (g : A → List Identifier) → ((x : A) → names_of (f x) ≡ texts (g x)) → (xs : List A)
    → names_of (flat_map f xs) ≡ texts (flat_map g xs)
flat_texts f g each [] = refl
flat_texts f g each (x ∷ xs) =
    map-append (λ (e : Entry). e.name) (f x) (flat_map f xs)
    ∙ (ap (λ (ts : List (List ℕ)). ts ++ names_of (flat_map f xs)) (each x)
    ∙ (ap (λ (ts : List (List ℕ)). texts (g x) ++ ts) (flat_texts f g each xs)
    ∙ sym (map-append (λ (i : Identifier). i.text) (g x) (flat_map g xs))))

map_texts : {A : Type 0} (f : A → Entry) (g : A → Identifier) → ((x : A) → (f x).name ≡ (g x).text) → (xs : List A)
    → names_of (map f xs) ≡ texts (map g xs)
map_texts f g each [] = refl
map_texts f g each (x ∷ xs) =
    ap (λ (t : List ℕ). t ∷ names_of (map f xs)) (each x) ∙ ap (λ (ts : List (List ℕ)). (g x).text ∷ ts) (map_texts f g each xs)

field_text : (attributes : List Attribute) (item : StructItem) → names_of (field_entry attributes item) ≡ texts (field_name item)
field_text attributes (struct_items.Field f) = refl
field_text attributes (struct_items.Const c) = refl
field_text attributes (struct_items.Enum e) = refl

pub field_texts : (members : List StructMember) → names_of (fields_of members) ≡ texts (flat_map (λ (m : StructMember). field_name m.item) members)
field_texts members =
    flat_texts (λ (m : StructMember). field_entry m.attributes m.item) (λ (m : StructMember). field_name m.item)
    (λ m. field_text m.attributes m.item) members

pub union_texts : (fields : List UnionField) → names_of (union_fields_of fields) ≡ texts (map (λ (f : UnionField). f.name) fields)
union_texts fields = map_texts union_entry (λ (f : UnionField). f.name) (λ f. refl) fields

pub parameter_texts : (parameters : List Parameter) → names_of (parameters_of parameters) ≡ texts (parameter_names parameters)
parameter_texts parameters = map_texts parameter_entry (λ (p : Parameter). p.name) (λ p. refl) parameters

method_text : (attributes : List Attribute) (item : InterfaceItem) → names_of (method_entry attributes item) ≡ texts (method_name item)
method_text attributes (interface_items.Method m) = refl
method_text attributes (interface_items.Const c) = refl
method_text attributes (interface_items.Enum e) = refl

pub method_texts : (members : List InterfaceMember) → names_of (methods_of members) ≡ texts (flat_map (λ (m : InterfaceMember). method_name m.item) members)
method_texts members =
    flat_texts (λ (m : InterfaceMember). method_entry m.attributes m.item) (λ (m : InterfaceMember). method_name m.item)
    (λ m. method_text m.attributes m.item) members

pub enumerator_texts : (es : List Enumerator) → map (λ (e : Enumerator). e.name.text) es ≡ texts (map (λ (e : Enumerator). e.name) es)
enumerator_texts [] = refl
enumerator_texts (e ∷ es) = ap (λ (ts : List (List ℕ)). e.name.text ∷ ts) (enumerator_texts es)

-- files

-- no name is repeated in the lists of a definition
abbrev pub NoneRepeated : DefinitionItem → Type 0
NoneRepeated item = AllByRecursion (λ (names : List Identifier). repeated_members names ≡ []) (member_lists item)

of_all : (ds : List Defined) (d : Defined) → flat_map repeated_members (flat_map (λ (d : Defined). member_lists d.item) ds) ≡ [] → IsAmong ds d
    → NoneRepeated d.item
of_all ds d e among = go ds (all_empty repeated_members (flat_map (λ (d : Defined). member_lists d.item) ds) e) among
  where
    go : (ds : List Defined) → AllByRecursion (λ (names : List Identifier). repeated_members names ≡ []) (flat_map (λ (d : Defined). member_lists d.item) ds)
        → IsAmong ds d → NoneRepeated d.item
    go [] all among = absurd among
    go (one ∷ others) all (inl same) =
        subst (λ (x : Defined). NoneRepeated x.item) same
        (all_before (λ (names : List Identifier). repeated_members names ≡ []) (member_lists one.item)
        (flat_map (λ (d : Defined). member_lists d.item) others) all).0
    go (one ∷ others) all (inr back) =
        go others (all_before (λ (names : List Identifier). repeated_members names ≡ []) (member_lists one.item)
        (flat_map (λ (d : Defined). member_lists d.item) others) all).1 back

in_tree : (known : List ℕ → Bool) (ds : List Defined) (d : Defined) → repeated_in known ds ≡ [] → IsAmong ds d → NoneRepeated d.item
in_tree known ds d e among =
    let one = both_empty (repeated_definitions known ds) _ e in
    let two = both_empty (flat_map named_as_basic ds) (flat_map repeated_members (flat_map (λ (d : Defined). member_lists d.item) ds)) one.1 in
    of_all ds d two.1 among

-- where nothing is refused of names
pub none_repeated : (files : List NamedFile) (order : List ℕ) (file : ℕ) (tree : NamedFile) (d : Defined) → names_refusal files order ≡ None
    → IsAmong order file → slice_get files file ≡ Some tree → IsAmong (definitions_of tree.tree) d → NoneRepeated d.item
none_repeated files order file tree d none there is among =
    let at = place_of order file there in
    let known = is_among (names_before files (take at.place order)) in
    let e : refusals_at files order at.place ≡ [] = quiet_names files order at.place none (slice_get_within order at.place file at.is) in
    let number : get_or order at.place 0 ≡ file = get_or_from_slice_get order at.place file 0 at.is in
    let here : of_file (refusals_in (names_of_files files order).files known file) (slice_get files file) ≡ [] =
    subst (λ (n : ℕ). of_file (refusals_in (names_of_files files order).files known n) (slice_get files n) ≡ []) number e in
    let of_tree : refusals_in (names_of_files files order).files known file tree ≡ [] =
    sym (ap (of_file (refusals_in (names_of_files files order).files known file)) is) ∙ here in
    let repeats = (both_empty (map (duplicate file) (repeated_in known (definitions_of tree.tree)))
    (refused_uses (names_of_files files order).files file (flat_map uses_of (definitions_of tree.tree))) of_tree).0 in
    in_tree known (definitions_of tree.tree) d (map_empty (duplicate file) (repeated_in known (definitions_of tree.tree)) repeats) among
