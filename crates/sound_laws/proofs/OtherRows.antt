-- The rows of unions, enums, interfaces and constants of files of which nothing is refused are sound.
use Rattle.std.proofs.Common.{◌≡◌, ◌≤◌, ◌+◌, ℕ, List, [], ◌∷◌, map, length, refl, sym, ap, ◌∙◌, subst}
use Rattle.std.specs.Prelude.{ℤ, pos, ◌+ℤ◌, Bool, true, nat_le, slice_get, Option, Some, None}
use Rattle.std.specs.List.{AllByRecursion, list_all, flat_map}
use Rattle.std.specs.Option.{option_map_or}
use Rattle.std.proofs.lemmas.Bool.{and_from, le-leb}
use Rattle.std.proofs.lemmas.List.{length-map}
use Rattle.mj_base.specs.Texts.{are_distinct}
use Rattle.mojom_ast.specs.declared.attributes.Attribute.{Attribute}
use Rattle.mojom_ast.specs.declared.definitions.DefinitionItem.{DefinitionItem}
use Rattle.mojom_ast.specs.declared.definitions.DefinitionItem.TheVariants as items
use Rattle.mojom_ast.specs.declared.definitions.Enumerator.{Enumerator}
use Rattle.mojom_files.specs.declared.named_file.NamedFile.{NamedFile}
use Rattle.mojom_files.specs.Definitions.{Defined, definitions_of}
use Rattle.module_resolver.specs.declared.file_names.Names.{Names}
use Rattle.const_eval.specs.declared.consts.Consts.{Consts}
use Rattle.mj_schema.specs.KindTrees as kinds
use Rattle.mj_schema.specs.KindTrees.{KindTree}
use Rattle.mj_schema.specs.Sound.{in_bits, is_of_kind, has_value, is_sound_union, is_sound_enum, is_sound_interface}
use Rattle.mj_schema.specs.declared.rows.ConstRow.{ConstRow}
use Rattle.mj_schema.specs.declared.rows.EnumRow.{EnumRow}
use Rattle.mj_schema.specs.declared.rows.InterfaceRow.{InterfaceRow}
use Rattle.mj_schema.specs.declared.rows.Literal.{Literal}
use Rattle.mj_schema.specs.declared.rows.Literal.TheVariants as literals
use Rattle.mj_schema.specs.declared.rows.MemberRow.{MemberRow}
use Rattle.mj_schema.specs.declared.rows.MethodRow.{MethodRow}
use Rattle.mj_schema.specs.declared.rows.UnionFieldRow.{UnionFieldRow}
use Rattle.mj_schema.specs.declared.rows.UnionRow.{UnionRow}
use Rattle.draft_rows.specs.RowCounts.{rows_of}
use Rattle.draft_rows.specs.Drafts.{draft_of}
use Rattle.draft_rows.specs.declared.counts.FileRows.{FileRows}
use Rattle.draft_rows.specs.declared.draft.Draft.{Draft}
use Rattle.schema_laws.specs.Passed.{IsPassed}
use Rattle.schema_laws.proofs.Each.{all_flat, all_map, all_so}
use Rattle.written_laws.specs.Entries.{Entry, OfEach, Counted, ordinal_of, counted_from, counted}
use Rattle.written_laws.specs.Enums.{AreMembers, EnumText, IsEnum, enum_texts}
use Rattle.written_laws.specs.Fits.{Fits}
use Rattle.written_laws.specs.Lists.{AreNames, HasNames, names_of}
use Rattle.written_laws.specs.Literals.{ConstText, IsConst, const_texts}
use Rattle.written_laws.specs.Rows.{ArePaired, UnionText, IsUnion, IsUnionField, InterfaceText, IsInterface, IsMethod, Placed, placed_in, all_placed, site_in, union_texts, interface_texts}
use Rattle.written_laws.specs.Values.{Site}
use Rattle.written_laws.proofs.ConstTables.{literals_fit}
use Rattle.written_laws.proofs.EnumTables.{enumerators_are_as_written}
use Rattle.written_laws.proofs.Lists.{names_differ}
use Rattle.written_laws.proofs.Tables.{numbers_are_as_written}
use Rattle.sound_laws.proofs.Distinct.{apart_distinct}
use Rattle.sound_laws.proofs.Fields.{EnumFits}

-- pairs

all_paired : {A B : Type 0} (P : A → Type 0) (R : A → B → Type 0) (Q : B → Type 0) → ((a : A) (b : B) → P a → R a b → Q b) → (ones : List A)
    (others : List B) → AllByRecursion P ones → ArePaired R ones others → AllByRecursion Q others
all_paired P R Q so [] [] all paired = tt
all_paired P R Q so (a ∷ ones) (b ∷ others) all paired = (so a b all.0 paired.0, all_paired P R Q so ones others all.1 paired.1)
all_paired P R Q so [] (b ∷ others) all paired = absurd paired
all_paired P R Q so (a ∷ ones) [] all paired = absurd paired

paired_names : {A B : Type 0} (R : A → B → Type 0) (f : A → List ℕ) (g : B → List ℕ) → ((a : A) (b : B) → R a b → g b ≡ f a) → (ones : List A)
    (others : List B) → ArePaired R ones others → map g others ≡ map f ones
paired_names R f g same [] [] paired = refl
paired_names R f g same (a ∷ ones) (b ∷ others) paired =
    ap (λ (t : List ℕ). t ∷ map g others) (same a b paired.0)
    ∙ ap (λ (ts : List (List ℕ)). f a ∷ ts) (paired_names R f g same ones others paired.1)
paired_names R f g same [] (b ∷ others) paired = absurd paired
paired_names R f g same (a ∷ ones) [] paired = absurd paired

counted_names : (next : ℕ) (es : List Entry) → map (λ (c : Counted). c.entry.name) (counted_from next es) ≡ names_of es
counted_names next [] = refl
counted_names next (e ∷ es) = ap (λ (ts : List (List ℕ)). e.name ∷ ts) (counted_names (ordinal_of next e.ordinal + 1) es)

-- a list of few, whose names differ
record IsShort (count : ℕ) (names : List (List ℕ)) : Type 0 where
  few : nat_le count 4096 ≡ true
  once : are_distinct names ≡ true

short : {A : Type 0} (name : A → List ℕ) (ones : List A) (names : List (List ℕ)) → map name ones ≡ names → AreNames names
    → IsShort (length ones) (map name ones)
short name ones names same are = record {
  few = le-leb (length ones) 4096
      (subst (λ (n : ℕ). n ≤ 4096) (sym (ap (λ (ts : List (List ℕ)). length ts) same) ∙ length-map ones name) are.few);
  once = ap are_distinct same ∙ apart_distinct names are.apart;
}

-- unions

union_sound : (rows : List FileRows) (text : UnionText) (row : UnionRow) → AreNames (names_of text.entries) → IsUnion rows text row
    → is_sound_union row ≡ true
union_sound rows text row are is =
    let names =
    paired_names (IsUnionField rows text.site) (λ (c : Counted). c.entry.name) (λ (f : UnionFieldRow). f.name) (λ one field has. has.name)
    (counted text.entries) row.fields is.fields in
    let s = short (λ (f : UnionFieldRow). f.name) row.fields (names_of text.entries) (names ∙ counted_names 0 text.entries) are in
    and_from _ _ s.few s.once

-- interfaces

interface_sound : (text : InterfaceText) (row : InterfaceRow) → AreNames (names_of text.entries) → IsInterface text row → is_sound_interface row ≡ true
interface_sound text row are is =
    let names =
    paired_names IsMethod (λ (c : Counted). c.entry.name) (λ (m : MethodRow). m.name) (λ one method has. has.name) (counted text.entries) row.methods
    is.methods in
    let s = short (λ (m : MethodRow). m.name) row.methods (names_of text.entries) (names ∙ counted_names 0 text.entries) are in
    and_from _ _ s.few s.once

-- enums

abbrev texts_of : List Enumerator → List (List ℕ)
texts_of es = map (λ (e : Enumerator). e.name.text) es

member_names : (site : Site) (next : ℤ) (es : List Enumerator) (rows : List MemberRow) → AreMembers site next es rows
    → map (λ (m : MemberRow). m.name) rows ≡ texts_of es
member_names site next [] [] are = refl
member_names site next (e ∷ es) (row ∷ rows) are =
    ap (λ (t : List ℕ). t ∷ map (λ (m : MemberRow). m.name) rows) are.0
    ∙ ap (λ (ts : List (List ℕ)). e.name.text ∷ ts) (member_names site (row.number +ℤ pos 1) es rows are.1.1)
member_names site next [] (row ∷ rows) are = absurd are
member_names site next (e ∷ es) [] are = absurd are

-- the names of the members of an enum
abbrev MembersOnce : EnumRow → Type 0
MembersOnce row = IsShort (length row.members) (map (λ (m : MemberRow). m.name) row.members)

enum_once : (text : EnumText) (row : EnumRow) → AreNames (texts_of text.enumerators) → IsEnum text row → MembersOnce row
enum_once text row are is =
    short (λ (m : MemberRow). m.name) row.members (texts_of text.enumerators) (member_names text.site (pos 0) text.enumerators row.members is.members) are

tested : {A : Type 0} (test : A → Bool) (xs : List A) → AllByRecursion (λ x. test x ≡ true) xs → list_all test xs ≡ true
tested test [] all = refl
tested test (x ∷ xs) all = rw all.0 (tested test xs all.1)

enums_sound : (rows : List EnumRow) → AllByRecursion MembersOnce rows → AllByRecursion EnumFits rows
    → AllByRecursion (λ (row : EnumRow). is_sound_enum row ≡ true) rows
enums_sound [] once fit = tt
enums_sound (row ∷ rows) once fit =
    let numbers : list_all (λ (m : MemberRow). in_bits true 32 m.number) row.members ≡ true =
    tested (λ (m : MemberRow). in_bits true 32 m.number) row.members fit.0 in
    (and_from _ _ once.0.few (and_from _ _ once.0.once numbers), enums_sound rows once.1 fit.1)

-- constants

value_fits : (kind : KindTree) (literal : Literal) → Fits kind literal → is_of_kind kind literal ≡ true
value_fits (kinds.BoolKind nullable) (literals.Bool value) fits = refl
value_fits (kinds.IntKind width signed nullable) (literals.Whole number) fits = fits
value_fits (kinds.TextKind nullable) (literals.Text bytes) fits = refl
value_fits kind literal fits = absurd fits

const_sound : (rows : List FileRows) (text : ConstText) (row : ConstRow) → Unit {0} → IsConst rows text row → has_value row ≡ true
const_sound rows text row any is = value_fits row.kind row.value is.fits

-- files

all_of : {A : Type 0} (P : A → Type 0) → ((x : A) → P x) → (xs : List A) → AllByRecursion P xs
all_of P each [] = tt
all_of P each (x ∷ xs) = (each x, all_of P each xs)

placed_named : (files : List NamedFile) → OfEach files HasNames → (file : ℕ)
    → AllByRecursion (λ (p : Placed). HasNames p.definition.item) (placed_in files file)
placed_named files has file = go (slice_get files file) refl
  where
    go : (o : Option NamedFile) → slice_get files file ≡ o
        → AllByRecursion (λ (p : Placed). HasNames p.definition.item)
        (option_map_or (λ (tree : NamedFile). map (λ (d : Defined). record { file = file; definition = d }) (definitions_of tree.tree)) o [])
    go None is = tt
    go (Some tree) is =
        all_map (λ (p : Placed). HasNames p.definition.item) (λ (d : Defined). record { file = file; definition = d }) (definitions_of tree.tree)
        (has file tree is)

union_named : (site : Site) (full : List ℕ) (attributes : List Attribute) (item : DefinitionItem) → HasNames item
    → AllByRecursion (λ (t : UnionText). AreNames (names_of t.entries)) (union_texts site full attributes item)
union_named site full attributes (items.Union item) has = (has.choices.0, tt)
union_named site full attributes (items.Struct item) has = tt
union_named site full attributes (items.Interface item) has = tt
union_named site full attributes (items.Enum item) has = tt
union_named site full attributes (items.Const item) has = tt

interface_named : (site : Site) (full : List ℕ) (attributes : List Attribute) (item : DefinitionItem) → HasNames item
    → AllByRecursion (λ (t : InterfaceText). AreNames (names_of t.entries)) (interface_texts site full attributes item)
interface_named site full attributes (items.Interface item) has = (has.choices.0, tt)
interface_named site full attributes (items.Struct item) has = tt
interface_named site full attributes (items.Union item) has = tt
interface_named site full attributes (items.Enum item) has = tt
interface_named site full attributes (items.Const item) has = tt

enum_named : (site : Site) (full : List ℕ) (attributes : List Attribute) (item : DefinitionItem) → HasNames item
    → AllByRecursion (λ (t : EnumText). AreNames (texts_of t.enumerators)) (enum_texts site full attributes item)
enum_named site full attributes (items.Enum item) has = (has.enumerators, tt)
enum_named site full attributes (items.Struct item) has = tt
enum_named site full attributes (items.Union item) has = tt
enum_named site full attributes (items.Interface item) has = tt
enum_named site full attributes (items.Const item) has = tt

module _ (files : List NamedFile) (order : List ℕ) (names : Names) (consts : Consts) (passed : IsPassed files order names consts) where
  abbrev draft : Draft
  draft = draft_of names.files consts files order

  abbrev ones : List Placed
  ones = all_placed files order

  all_named : AllByRecursion (λ (p : Placed). HasNames p.definition.item) ones
  all_named =
      all_flat (λ (p : Placed). HasNames p.definition.item) (placed_in files) order
      (all_of (λ (file : ℕ). AllByRecursion (λ (p : Placed). HasNames p.definition.item) (placed_in files file))
      (placed_named files (names_differ files order names consts passed)) order)

  abbrev site : Placed → Site
  site p = site_in names.files consts p.file p.definition.full

  pub unions_are_sound : AllByRecursion (λ (row : UnionRow). is_sound_union row ≡ true) draft.unions
  unions_are_sound =
      let P : UnionText → Type 0 = λ t. AreNames (names_of t.entries) in
      let make : Placed → List UnionText = λ p. union_texts (site p) p.definition.full p.definition.attributes p.definition.item in
      let named = all_flat P make ones
      (all_so (λ (p : Placed). HasNames p.definition.item) (λ (p : Placed). AllByRecursion P (make p))
      (λ p has. union_named (site p) p.definition.full p.definition.attributes p.definition.item has) ones all_named) in
      all_paired P (IsUnion (rows_of files order)) (λ (row : UnionRow). is_sound_union row ≡ true) (union_sound (rows_of files order)) (flat_map make ones)
      draft.unions named (numbers_are_as_written files order names consts passed).unions

  pub interfaces_are_sound : AllByRecursion (λ (row : InterfaceRow). is_sound_interface row ≡ true) draft.interfaces
  interfaces_are_sound =
      let P : InterfaceText → Type 0 = λ t. AreNames (names_of t.entries) in
      let make : Placed → List InterfaceText = λ p. interface_texts (site p) p.definition.full p.definition.attributes p.definition.item in
      let named = all_flat P make ones
      (all_so (λ (p : Placed). HasNames p.definition.item) (λ (p : Placed). AllByRecursion P (make p))
      (λ p has. interface_named (site p) p.definition.full p.definition.attributes p.definition.item has) ones all_named) in
      all_paired P IsInterface (λ (row : InterfaceRow). is_sound_interface row ≡ true) interface_sound (flat_map make ones) draft.interfaces named
      (numbers_are_as_written files order names consts passed).interfaces

  pub enums_are_sound : AllByRecursion EnumFits draft.enums → AllByRecursion (λ (row : EnumRow). is_sound_enum row ≡ true) draft.enums
  enums_are_sound fit =
      let P : EnumText → Type 0 = λ t. AreNames (texts_of t.enumerators) in
      let make : Placed → List EnumText = λ p. enum_texts (site p) p.definition.full p.definition.attributes p.definition.item in
      let named = all_flat P make ones
      (all_so (λ (p : Placed). HasNames p.definition.item) (λ (p : Placed). AllByRecursion P (make p))
      (λ p has. enum_named (site p) p.definition.full p.definition.attributes p.definition.item has) ones all_named) in
      let once = all_paired P IsEnum MembersOnce enum_once (flat_map make ones) draft.enums named
      (enumerators_are_as_written files order names consts passed) in
      enums_sound draft.enums once fit

  pub consts_are_sound : AllByRecursion (λ (row : ConstRow). has_value row ≡ true) draft.consts
  consts_are_sound =
      let make : Placed → List ConstText = λ p. const_texts names.files consts p.file p.definition p.definition.item in
      all_paired (λ (t : ConstText). Unit {0}) (IsConst (rows_of files order)) (λ (row : ConstRow). has_value row ≡ true)
      (const_sound (rows_of files order)) (flat_map make ones) draft.consts (all_of (λ (t : ConstText). Unit {0}) (λ t. tt) (flat_map make ones))
      (literals_fit files order names consts passed)
