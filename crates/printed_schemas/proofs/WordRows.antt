-- The rows of interfaces that tables of files have: their names are words, and methods have different words without a dot.
use Rattle.std.proofs.Common.{◌≡◌, ℕ, ◌+◌, ◌||◌, Bool, false, true, not, List, [], ◌∷◌, ◌++◌, map, get_or, take, Option, Some, None, refl, sym, ap, ◌∙◌, subst, inl}
use Rattle.std.specs.Prelude.{slice_get, if◌then◌else◌}
use Rattle.std.specs.List.{flat_map, list_all, list_any, AllByRecursion}
use Rattle.std.specs.Option.{option_map_or}
use Rattle.std.specs.Str.{bytes_eq}
use Rattle.std.proofs.lemmas.Bool.{and_from}
use Rattle.std.proofs.lemmas.Option.{slice_get_within, get_or_from_slice_get}
use Rattle.std.proofs.lemmas.Slice.Eq.{bytes_eq-Decides}
use Rattle.mj_base.specs.Texts.{are_distinct}
use Rattle.mj_schema.specs.declared.rows.InterfaceRow.{InterfaceRow}
use Rattle.mojom_ast.specs.declared.attributes.Attribute.{Attribute}
use Rattle.mojom_ast.specs.declared.definitions.DefinitionItem.{DefinitionItem}
use Rattle.mojom_ast.specs.declared.definitions.DefinitionItem.TheVariants as items
use Rattle.mojom_ast.specs.declared.definitions.InterfaceItem.{InterfaceItem}
use Rattle.mojom_ast.specs.declared.definitions.InterfaceItem.TheVariants as interface_items
use Rattle.mojom_ast.specs.declared.definitions.InterfaceMember.{InterfaceMember}
use Rattle.mojom_ast.specs.declared.definitions.Method.{Method}
use Rattle.mojom_ast.specs.declared.names.Identifier.{Identifier}
use Rattle.mojom_files.specs.declared.named_file.NamedFile.{NamedFile}
use Rattle.mojom_files.specs.Definitions.{Defined, definitions_of}
use Rattle.module_resolver.specs.declared.file_names.Names.{Names}
use Rattle.name_refusals.specs.Known.{with_name}
use Rattle.module_resolver.specs.NamesOf.{names_of}
use Rattle.name_refusals.specs.NameRefusals.{duplicate, method_name, member_lists, repeated, repeated_members, repeated_definitions, named_as_basic, repeated_in, of_file, is_among, names_before, refused_uses, refusals_in, names_refusal}
use Rattle.name_refusals.specs.Uses.{uses_of}
use Rattle.const_eval.specs.declared.consts.Consts.{Consts}
use Rattle.draft_rows.specs.declared.counts.Counts.{Counts}
use Rattle.draft_rows.specs.declared.counts.FileRows.{FileRows}
use Rattle.draft_rows.specs.declared.draft.Draft.{Draft}
use Rattle.kind_scope.specs.Scopes.{Scope, around}
use Rattle.kind_scope.specs.Members.{held, ordinal_at}
use Rattle.draft_rows.specs.RowCounts.{structs_of, method_among, methods_in, no_rows, rows_of}
use Rattle.draft_rows.specs.Rows.{method_rows}
use Rattle.draft_rows.specs.Drafts.{enclosed, draft_of_item, draft_of_definition, draft_of}
use Rattle.schema_laws.specs.Passed.{IsPassed}
use Rattle.schema_laws.proofs.Among.{IsAmong, among_flat, place_of, each_at, each_append}
use Rattle.schema_laws.proofs.Each.{at_each}
use Rattle.schema_laws.proofs.Lift.{lift}
use Rattle.schema_laws.proofs.Quiet.{both_empty, each_empty, map_empty, quiet_names}
use Rattle.printed_schemas.proofs.WordNames.{is_plain, method_names}
use Rattle.printed_schemas.proofs.WordTexts.{same_text}
use Rattle.printed_schemas.proofs.WordTrees.{IsPlainMethod, IsPlainItem, IsPlainDefined}
use Rattle.line_parts.specs.Names.{is_word}

-- what none of a list repeats

or_left : (one two : Bool) → one ≡ true → (one || two) ≡ true
or_left true two e = refl
or_left false two e = absurd (cc)

or_right : (one two : Bool) → two ≡ true → (one || two) ≡ true
or_right true two e = refl
or_right false two e = e

-- the names of a list differ, and none of them is known
record AreNew {A : Type 0} (name : A → List ℕ) (known : List ℕ → Bool) (xs : List A) : Type 0 where
  pub distinct : are_distinct (map name xs) ≡ true
  pub unknown : (text : List ℕ) → known text ≡ true → list_any (bytes_eq text) (map name xs) ≡ false

none_repeated : {A : Type 0} (name : A → List ℕ) (at : A → Identifier) (known : List ℕ → Bool) (xs : List A)
    → repeated name at known xs ≡ [] → AreNew name known xs
none_repeated name at known [] e = record { distinct = refl; unknown = λ text is. refl }
none_repeated {A} name at known (x ∷ xs) e =
    let parts = both_empty (if known (name x) then at x ∷ [] else []) (repeated name at (with_name known (name x)) xs) e in
    let rest = none_repeated name at (with_name known (name x)) xs parts.1 in
    record {
      distinct = and_from (not (list_any (bytes_eq (name x)) (map name xs))) (are_distinct (map name xs))
          (ap not (rest.unknown (name x) (or_right (known (name x)) (bytes_eq (name x) (name x)) (same_text (name x))))) rest.distinct;
      unknown = λ text is. away text is (bytes_eq text (name x)) refl
          (rest.unknown text (or_left (known text) (bytes_eq text (name x)) is)) (fresh (known (name x)) parts.0);
    }
  where
    fresh : (b : Bool) → (if b then at x ∷ [] else []) ≡ [] → b ≡ false
    fresh true e = absurd (cc)
    fresh false e = refl

    away : (text : List ℕ) → known text ≡ true → (b : Bool) → bytes_eq text (name x) ≡ b → list_any (bytes_eq text) (map name xs) ≡ false
        → known (name x) ≡ false → (b || list_any (bytes_eq text) (map name xs)) ≡ false
    away text is true same none new =
        let one : text ≡ name x = (bytes_eq-Decides text (name x)).0 same in
        let bad : known text ≡ false = ap known one ∙ new in
        absurd (cc)
    away text is false same none new = none

-- methods

names_kept : (next first : ℕ) (ms : List Method) → method_names (method_rows next first ms) ≡ map (λ (m : Method). m.name.text) ms
names_kept next first [] = refl
names_kept next first (m ∷ ms) =
    ap (λ (names : List (List ℕ)). m.name.text ∷ names) (names_kept (held (ordinal_at next m.ordinal + 1)) (first + structs_of m) ms)

item_names : (item : InterfaceItem) (ms : List InterfaceMember)
    → map (λ (i : Identifier). i.text) (flat_map (λ (m : InterfaceMember). method_name m.item) ms) ≡ map (λ (m : Method). m.name.text) (methods_in ms)
    → map (λ (i : Identifier). i.text) (method_name item ++ flat_map (λ (m : InterfaceMember). method_name m.item) ms)
    ≡ map (λ (m : Method). m.name.text) (method_among item ++ methods_in ms)
item_names (interface_items.Method m) ms rest = ap (λ (names : List (List ℕ)). m.name.text ∷ names) rest
item_names (interface_items.Const c) ms rest = rest
item_names (interface_items.Enum e) ms rest = rest

member_names : (ms : List InterfaceMember)
    → map (λ (i : Identifier). i.text) (flat_map (λ (m : InterfaceMember). method_name m.item) ms) ≡ map (λ (m : Method). m.name.text) (methods_in ms)
member_names [] = refl
member_names (m ∷ ms) = item_names m.item ms (member_names ms)

all_plain : (ms : List Method) → AllByRecursion IsPlainMethod ms → list_all is_plain (map (λ (m : Method). m.name.text) ms) ≡ true
all_plain [] all = refl
all_plain (m ∷ ms) all = and_from (is_plain m.name.text) (list_all is_plain (map (λ (m : Method). m.name.text) ms)) all.0 (all_plain ms all.1)

-- rows

-- the row of an interface of a file
pub record IsPlainRow (row : InterfaceRow) : Type 0 where
  pub word : is_word row.name ≡ true
  pub plain : list_all is_plain (method_names row.methods) ≡ true
  pub distinct : are_distinct (method_names row.methods) ≡ true

-- all rows of interfaces of these tables are such
abbrev pub HasPlainRows : Draft → Type 0
HasPlainRows draft = AllByRecursion IsPlainRow draft.interfaces

-- no list of members has a name twice
abbrev IsOnce : DefinitionItem → Type 0
IsOnce item = (names : List Identifier) → IsAmong (member_lists item) names → repeated_members names ≡ []

item_rows : (rows : List FileRows) (scope : Scope) (counts : Counts) (full : List ℕ) (attributes : List Attribute) (item : DefinitionItem)
    → IsPlainItem full item → IsOnce item → HasPlainRows (draft_of_item rows scope counts full attributes item)
item_rows rows scope counts full attributes (items.Interface item) plain once =
    let ms = methods_in item.members in
    let kept = names_kept 0 counts.structs ms in
    let listed = flat_map (λ (m : InterfaceMember). method_name m.item) item.members in
    let new = none_repeated (λ (i : Identifier). i.text) (λ (i : Identifier). i) (λ text. false) listed (once listed (inl refl)) in (
      record {
        word = plain.0;
        plain = ap (list_all is_plain) kept ∙ all_plain ms plain.1;
        distinct = ap are_distinct kept ∙ ap are_distinct (sym (member_names item.members)) ∙ new.distinct;
      },
      tt,
    )
item_rows rows scope counts full attributes (items.Struct item) plain once = tt
item_rows rows scope counts full attributes (items.Union item) plain once = tt
item_rows rows scope counts full attributes (items.Enum item) plain once = tt
item_rows rows scope counts full attributes (items.Const item) plain once = tt

-- files of which no name is refused

once_there : (files : List NamedFile) (order : List ℕ) (file : ℕ) (tree : NamedFile) (d : Defined) → names_refusal files order ≡ None → IsAmong order file
    → slice_get files file ≡ Some tree → IsAmong (definitions_of tree.tree) d → IsOnce d.item
once_there files order file tree d none among is of names list =
    let place = place_of order file among in
    let quiet = quiet_names files order place.place none (slice_get_within order place.place file place.is) in
    let known = is_among (names_before files (take place.place order)) in
    let ds = definitions_of tree.tree in
    let number : get_or order place.place 0 ≡ file = get_or_from_slice_get order place.place file 0 place.is in
    let here : of_file (refusals_in (names_of files order).files known file) (slice_get files file) ≡ [] =
    subst (λ (n : ℕ). of_file (refusals_in (names_of files order).files known n) (slice_get files n) ≡ []) number quiet in
    let of_tree : refusals_in (names_of files order).files known file tree ≡ [] =
    sym (ap (of_file (refusals_in (names_of files order).files known file)) is) ∙ here in
    let repeats : repeated_in known ds ≡ [] =
    map_empty (duplicate file) (repeated_in known ds)
    (both_empty (map (duplicate file) (repeated_in known ds)) (refused_uses (names_of files order).files file (flat_map uses_of ds)) of_tree).0 in
    let lists = flat_map (λ (one : Defined). member_lists one.item) ds in
    let others = (both_empty (repeated_definitions known ds) (flat_map named_as_basic ds ++ flat_map repeated_members lists) repeats).1 in
    let members = (both_empty (flat_map named_as_basic ds) (flat_map repeated_members lists) others).1 in
    each_empty repeated_members lists names members (among_flat (λ (one : Defined). member_lists one.item) ds d names of list)

-- what files define has plain names
abbrev pub ArePlain : List NamedFile → Type 0
ArePlain files = AllByRecursion (λ (f : NamedFile). AllByRecursion IsPlainDefined (definitions_of f.tree)) files

definition_rows : (files : List NamedFile) (order : List ℕ) (rows : List FileRows) (scope : Scope) (counts : Counts) (file : ℕ) (d : Defined)
    → ArePlain files → names_refusal files order ≡ None → IsAmong order file
    → (found : Option NamedFile) → slice_get files file ≡ found → IsAmong (option_map_or (λ (f : NamedFile). definitions_of f.tree) found []) d
    → HasPlainRows (draft_of_definition rows scope counts d)
definition_rows files order rows scope counts file d plain none among None is of = absurd of
definition_rows files order rows scope counts file d plain none among (Some tree) is of =
    let all = at_each (λ (f : NamedFile). AllByRecursion IsPlainDefined (definitions_of f.tree)) files file tree plain is in
    item_rows rows (enclosed scope d.enclosing) counts d.full d.attributes d.item
    (each_at IsPlainDefined (definitions_of tree.tree) d all of) (once_there files order file tree d none among is of)

-- the tables of files of which nothing is refused
pub plain_rows : (files : List NamedFile) (order : List ℕ) (names : Names) (consts : Consts) → IsPassed files order names consts → ArePlain files
    → HasPlainRows (draft_of names.files consts files order)
plain_rows files order names consts passed plain =
    lift HasPlainRows (rows_of files order) names.files consts files order tt
    (λ one two a b. each_append IsPlainRow one.interfaces two.interfaces a b)
    (λ number among counts d of.
    definition_rows files order (rows_of files order) (around names.files consts number None) counts number d plain passed.named.none_refused among
    (slice_get files number) refl of)
    no_rows
