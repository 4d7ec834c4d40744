-- A default that is the name of an enumerator is the number of a member of its field's enum.
use Rattle.std.proofs.Common.{◌≡◌, ◌∙◌, ◌<◌, ℕ, zero, suc, ◌+◌, ℤ, pos, Bool, true, false, List, [], ◌∷◌, ◌++◌, length, map, refl, sym, ap}
use Rattle.std.proofs.Common.{subst, arith, inl, inr}
use Rattle.std.specs.Prelude.{◌==◌, ◌||◌, nat_lt, slice_get, Option, Some, None, option_and_then, if◌then◌else◌}
use Rattle.std.specs.List.{flat_map, list_any}
use Rattle.std.specs.Option.{option_map_or}
use Rattle.std.specs.Ordering.{int_eq}
use Rattle.std.proofs.lemmas.Bool.{and_parts, eqb-true}
use Rattle.std.proofs.lemmas.Cmp.{int_eq_equiv}
use Rattle.std.proofs.lemmas.List.{length-map}
use Rattle.std.proofs.lemmas.Option.{slice_get_within}
use Rattle.mojom_ast.specs.declared.definitions.DefinitionItem.{DefinitionItem}
use Rattle.mojom_ast.specs.declared.definitions.DefinitionItem.TheVariants as items
use Rattle.mojom_ast.specs.declared.definitions.Enum.{Enum}
use Rattle.mojom_ast.specs.declared.definitions.Enumerator.{Enumerator}
use Rattle.mojom_ast.specs.declared.names.Value.TheVariants as values
use Rattle.mojom_files.specs.Definitions.{Defined, definitions_of, enumerators_of}
use Rattle.mojom_files.specs.Names.{dotted}
use Rattle.mojom_files.specs.declared.named_file.NamedFile.{NamedFile}
use Rattle.module_resolver.specs.LookUp.{look_up, sort_of}
use Rattle.module_resolver.specs.NamesOf.{names_of, sort_of_item}
use Rattle.module_resolver.specs.declared.target.DefinitionSort.{DefinitionSort}
use Rattle.module_resolver.specs.declared.target.DefinitionSort.TheVariants as sorts
use Rattle.module_resolver.specs.declared.target.Target.{Target}
use Rattle.module_resolver.specs.declared.target.Target.TheVariants as targets
use Rattle.const_eval.specs.Consts.{AreConsts, value_at, value_of_target}
use Rattle.const_eval.specs.Evaluated.{refused_things}
use Rattle.const_meanings.specs.Known.{Known, TextValue, BoolValue, NumberValue, FloatValue}
use Rattle.const_eval.specs.Origins.{origin_of_definition, origin_of_value, origins_in_order, origins_of_enumerators}
use Rattle.const_eval.specs.Refused.{Site, is_enumerator_of, of_known, refused_circle, refused_definition, refused_enumerator}
use Rattle.const_eval.specs.Refused.{refused_enumerator_value}
use Rattle.const_eval.specs.Refused.{refused_enumerators, refused_known_enumerator, refused_versions}
use Rattle.const_eval.specs.Things.{numbered, owner_of, owners, owners_in, thing_within, things_at, things_of_files}
use Rattle.const_eval.specs.declared.consts.Consts.{Consts}
use Rattle.const_eval.specs.declared.file_things.FileThings.{FileThings}
use Rattle.const_meanings.specs.declared.literal.Literal.TheVariants as written
use Rattle.const_meanings.specs.declared.origin.Origin.{Origin}
use Rattle.const_meanings.specs.declared.origin.Origin.TheVariants.{Written}
use Rattle.mj_schema.specs.KindTrees as kinds
use Rattle.mj_schema.specs.KindTrees.{KindTree}
use Rattle.mj_schema.specs.declared.rows.EnumRow.{EnumRow}
use Rattle.mj_schema.specs.declared.rows.Literal.{Literal}
use Rattle.mj_schema.specs.declared.rows.Literal.TheVariants as literals
use Rattle.mj_schema.specs.declared.rows.MemberRow.{MemberRow}
use Rattle.mj_schema.specs.Sound.{has_number}
use Rattle.draft_rows.specs.Drafts.{draft_of, enclosed}
use Rattle.kind_scope.specs.Scopes.{around, inside, Scope}
use Rattle.draft_rows.specs.Kinds.{row_kind, sort_kind}
use Rattle.draft_rows.specs.RowCounts.{definitions_at, rows_before, rows_of}
use Rattle.draft_rows.specs.Rows.{Valued, literal_of, member_row, valued}
use Rattle.draft_rows.specs.declared.counts.Counts.{Counts}
use Rattle.schema_laws.proofs.Places.{at_behind, at_either, at_front, numbered_at, order_sized}
use Rattle.schema_laws.proofs.Quiet.{both_empty}
use Rattle.schema_laws.specs.Passed.{IsPassed}
use Rattle.schema_laws.proofs.QuietFiles.{AreQuiet, all_quiet}
use Rattle.schema_laws.proofs.Rowed.{at_below, at_map, defined_as}
use Rattle.schema_laws.proofs.Told.{place, say}
use Rattle.sound_laws.proofs.Defaults.{Holds, NamesHold, site_of}
use Rattle.sound_laws.proofs.Numbers.{numbers_are, origins_with, zero_implied}
use Rattle.sound_laws.proofs.EnumPlaces.{enum_there}

-- the number of a member of an enum, whether or not it may be null
abbrev pub IsEnumLiteral : List EnumRow → KindTree → Literal → Type 0
IsEnumLiteral enums k literal =
    (c : ℕ) × (nullable : Bool) × (n : ℤ) × (k ≡ kinds.EnumKind c nullable) × (literal ≡ literals.Whole n) × (has_number (slice_get enums c) n ≡ true)

-- ## The enum of an enumerator

-- an enumerator of one of these definitions, the first of which has this number
record IsOwned (make : Defined → List Origin) (first : ℕ) (ds : List Defined) (e number : ℕ) : Type 0 where
  at : ℕ
  number_is : number ≡ first + at
  definition : Defined
  there : slice_get ds at ≡ Some definition
  before : ℕ
  own : ℕ
  is : e ≡ before + own
  below : own < length (enumerators_of definition.item)
  origins : (i : ℕ) (o : Origin) → slice_get (make definition) i ≡ Some o → slice_get (flat_map make ds) (before + i) ≡ Some o
  quiet : (site : Site) (thing : ℕ) → refused_enumerators site thing ds ≡ []
      → numbered (refused_enumerator site (Some definition.full)) (thing + before) (enumerators_of definition.item) ≡ []

module _ (make : Defined → List Origin) (sized : (d : Defined) → length (make d) ≡ length (enumerators_of d.item)) where
  owned : (first : ℕ) (ds : List Defined) (e number : ℕ) → slice_get (numbered owners_in first ds) e ≡ Some number → IsOwned make first ds e number
  owned first [] e number at = absurd cc
  owned first (d ∷ ds) e number at = elim (at_either (owners_in first d) (numbered owners_in (first + 1) ds) e number at) [
    | inl front ↦
        let m = at_map (λ (e : Enumerator). first) (enumerators_of d.item) e number front in
        let number_is = m.2 in
        record {
          at = 0;
          number_is = omega (arith, number_is);
          definition = d;
          there = refl;
          before = 0;
          own = e;
          is = omega arith;
          below = slice_get_within (enumerators_of d.item) e m.0 m.1;
          origins = λ i o is.
              let here : 0 + i ≡ i = omega arith in
              ap (slice_get (make d ++ flat_map make ds)) here ∙ at_front (make d) (flat_map make ds) i o is;
          quiet = λ site thing none.
              let here : thing ≡ thing + 0 = omega arith in
              subst (λ (t : ℕ). numbered (refused_enumerator site (Some d.full)) t (enumerators_of d.item) ≡ []) here
              (both_empty (numbered (refused_enumerator site (Some d.full)) thing (enumerators_of d.item)) _ none).0;
        }
    | inr behind ↦
        let rest = owned (first + 1) ds behind.place number behind.there in
        let size : length (owners_in first d) ≡ length (enumerators_of d.item) = length-map (enumerators_of d.item) (λ (e : Enumerator). first) in
        let count : ℕ = length (enumerators_of d.item) in
        let number_is = rest.number_is in
        let own_is = rest.is in
        let behind_is = behind.is in
        record {
          at = suc rest.at;
          number_is = omega (arith, number_is);
          definition = rest.definition;
          there = rest.there;
          before = count + rest.before;
          own = rest.own;
          is = omega (arith, own_is, behind_is, size);
          below = rest.below;
          origins = λ i o is.
              let made = sized d in
              at_behind (make d) (flat_map make ds) (count + rest.before + i) (rest.before + i) (omega (arith, made)) ∙ rest.origins i o is;
          quiet = λ site thing none.
              let further : thing + count + rest.before ≡ thing + (count + rest.before) = omega arith in
              let later = (both_empty (numbered (refused_enumerator site (Some d.full)) thing (enumerators_of d.item))
              (refused_enumerators site (thing + count) ds) none).1 in
              subst (λ (t : ℕ). numbered (refused_enumerator site (Some rest.definition.full)) t (enumerators_of rest.definition.item) ≡ []) further
              (rest.quiet site (thing + count) later);
        }
  ]

-- what has an enumerator is an enum
enum_is : (item : DefinitionItem) (j : ℕ) → j < length (enumerators_of item) → (e : Enum) × (item ≡ items.Enum e)
enum_is (items.Enum e) j lt = (e, refl)
enum_is (items.Struct s) j lt = let bad : ⊥ = omega (arith, lt) in absurd bad
enum_is (items.Union u) j lt = let bad : ⊥ = omega (arith, lt) in absurd bad
enum_is (items.Interface i) j lt = let bad : ⊥ = omega (arith, lt) in absurd bad
enum_is (items.Const c) j lt = let bad : ⊥ = omega (arith, lt) in absurd bad

-- ## Its number

-- an enumerator of which nothing is refused is a number
number_of_quiet : (site : Site) (inside : Option (List ℕ)) (thing : ℕ) (e : Enumerator) (k : Known) → refused_enumerator site inside thing e ≡ []
    → value_at site.consts thing ≡ Some k → (n : ℤ) × (k ≡ NumberValue n)
number_of_quiet site inside thing e k none is = go k value
  where
    value : refused_enumerator_value site.file e k ≡ []
    value =
        let one = both_empty (refused_circle site thing e.name) _ none in
        let two = both_empty (refused_known_enumerator site thing e) (refused_versions site inside e.name e.attributes) one.1 in
        sym (ap (of_known (refused_enumerator_value site.file e)) is) ∙ two.0

    go : (k : Known) → refused_enumerator_value site.file e k ≡ [] → (n : ℤ) × (k ≡ NumberValue n)
    go (NumberValue n) e = (n, refl)
    go (TextValue bytes) e = absurd cc
    go (BoolValue b) e = absurd cc
    go FloatValue e = absurd cc

-- a member that has a number
any_at : (xs : List Valued) (j : ℕ) (v : Valued) (n : ℤ) → slice_get xs j ≡ Some v → v.number ≡ n
    → list_any (λ (m : MemberRow). int_eq m.number n) (map member_row xs) ≡ true
any_at [] j v n at is = absurd cc
any_at (x ∷ xs) zero v n at is =
    let same : x ≡ v = cc in
    let equal : int_eq x.number n ≡ true =
    ap (λ (m : ℤ). int_eq x.number m) (sym (ap (λ (w : Valued). w.number) same ∙ is)) ∙ int_eq_equiv.refl x.number in
    ap (λ (b : Bool). b || list_any (λ (m : MemberRow). int_eq m.number n) (map member_row xs)) equal
any_at (x ∷ xs) (suc j) v n at is = or_right (int_eq x.number n) (list_any (λ (m : MemberRow). int_eq m.number n) (map member_row xs)) (any_at xs j v n at is)
  where
    or_right : (a b : Bool) → b ≡ true → (a || b) ≡ true
    or_right true b e = refl
    or_right false b e = e

module _ (files : List NamedFile) (order : List ℕ) (consts : Consts) (are : AreConsts files (names_of files order).files consts)
    (are_quiet : AreQuiet files (names_of files order).files consts) where
  abbrev scope_in : ℕ → Option (List ℕ) → Scope
  scope_in file enclosing = around (names_of files order).files consts file enclosing

  -- the things of a file
  abbrev begin : (file : ℕ) (tree : NamedFile) → slice_get files file ≡ Some tree → ℕ
  begin file tree is = (place files order file tree is).begin

  file_things : (file : ℕ) (tree : NamedFile) (is : slice_get files file ≡ Some tree)
      → slice_get consts.files file ≡ Some (things_at (begin file tree is) (definitions_of tree.tree))
  file_things file tree is = ap (λ (ts : List FileThings). slice_get ts file) are.files_are ∙ (place files order file tree is).things

  enumerators_quiet : (file : ℕ) (tree : NamedFile) (is : slice_get files file ≡ Some tree)
      → refused_enumerators (site_of (scope_in file None)) (begin file tree is + length (definitions_of tree.tree)) (definitions_of tree.tree) ≡ []
  enumerators_quiet file tree is =
      let ds = definitions_of tree.tree in
      let all : refused_things (site_of (scope_in file None)) tree (things_at (begin file tree is) ds) ≡ [] =
      sym (ap (λ (o : Option FileThings). option_map_or (refused_things (site_of (scope_in file None)) tree) o []) (file_things file tree is))
      ∙ are_quiet.values file tree is in
      (both_empty (numbered (refused_definition (site_of (scope_in file None))) (begin file tree is) ds) _ all).1

  abbrev made : ℕ → Defined → List Origin
  made file = origins_of_enumerators (things_of_files files) (names_of files order).files file

  -- where the values of enumerators come from
  origin_there : (file : ℕ) (tree : NamedFile) (is : slice_get files file ≡ Some tree) (n : ℕ) (o : Origin)
      → slice_get (flat_map (made file) (definitions_of tree.tree)) n ≡ Some o
      → slice_get consts.origins (begin file tree is + length (definitions_of tree.tree) + n) ≡ Some o
  origin_there file tree is n o e =
      let p = place files order file tree is in
      let ds = definitions_of tree.tree in
      let definitions = map (origin_of_definition (things_of_files files) (names_of files order).files file) ds in
      let count = length-map ds (origin_of_definition (things_of_files files) (names_of files order).files file) in
      let at : ℕ = length ds + n in
      let whole : slice_get (say files order file tree) at ≡ Some o =
      at_behind definitions (flat_map (made file) ds) at n (omega (arith, count)) ∙ e in
      let number : 0 + file ≡ file = omega arith in
      ap (λ (os : List Origin). slice_get os (p.begin + length ds + n)) are.origins_are
      ∙ p.origins at (p.begin + length ds + n) o (ap (λ (k : ℕ). slice_get (say files order k tree) at) number ∙ whole) (omega arith)

  -- an enumerator's number is that of a member of its enum's row
  module _ (file number e : ℕ) (tree : NamedFile) (is : slice_get files file ≡ Some tree) (c : Counts)
      (counted : rows_before (rows_of files order) file number ≡ Some c) (known : Known)
      (knows : value_at consts (begin file tree is + length (definitions_of tree.tree) + e) ≡ Some known)
      (o : IsOwned (made file) 0 (definitions_of tree.tree) e number) where
    abbrev d : Defined
    d = o.definition

    abbrev first : ℕ
    first = begin file tree is + length (definitions_of tree.tree) + o.before

    -- within the enum
    abbrev own : Scope
    own = inside (enclosed (scope_in file None) d.enclosing) d.full

    quiet : numbered (refused_enumerator (site_of (scope_in file None)) (Some d.full)) first (enumerators_of d.item) ≡ []
    quiet = o.quiet (site_of (scope_in file None)) (begin file tree is + length (definitions_of tree.tree)) (enumerators_quiet file tree is)

    here : begin file tree is + length (definitions_of tree.tree) + e ≡ first + o.own
    here = let is = o.is in omega (arith, is)

    number_is : (n : ℤ) × (known ≡ NumberValue n)
    number_is =
        let one = at_below (enumerators_of d.item) o.own o.below in
        number_of_quiet (site_of (scope_in file None)) (Some d.full) (first + o.own) one.one known
        (numbered_at (refused_enumerator (site_of (scope_in file None)) (Some d.full)) first (enumerators_of d.item) o.own one.one quiet one.is)
        (ap (value_at consts) (sym here) ∙ knows)

    value : value_at consts (first + o.own) ≡ Some (NumberValue number_is.0)
    value = ap (value_at consts) (sym here) ∙ (knows ∙ ap (λ (k : Known). let w : Option Known = Some k in w) number_is.1)

    from : (item : Enum) → d.item ≡ items.Enum item → (i : ℕ) (p : Origin)
        → slice_get (origins_with consts are.meanings_are own refl (Written (written.Number false 0)) item.enumerators) i ≡ Some p
        → slice_get consts.origins (first + i) ≡ Some p
    from item same i p at =
        let things : consts.files ≡ things_of_files files = are.files_are in
        let listed : slice_get (made file d) i ≡ Some p =
        ap (λ (x : DefinitionItem). slice_get (origins_in_order (origin_of_value (things_of_files files) (names_of files order).files file (Some d.full))
        (enumerators_of x)) i) same
        ∙ (sym (as_listed item.enumerators i) ∙ at) in
        let there = origin_there file tree is (o.before + i) p (o.origins i p listed) in
        let sum : begin file tree is + length (definitions_of tree.tree) + (o.before + i) ≡ first + i = omega arith in
        ap (slice_get consts.origins) (sym sum) ∙ there
      where
        as_listed : (es : List Enumerator) (i : ℕ)
            → slice_get (origins_with consts are.meanings_are own refl (Written (written.Number false 0)) es) i
            ≡ slice_get (origins_in_order (origin_of_value (things_of_files files) (names_of files order).files file (Some d.full)) es) i
        as_listed [] i = refl
        as_listed (e ∷ es) i =
            ap (λ (ts : List FileThings).
            slice_get (origins_in_order (origin_of_value ts (names_of files order).files file (Some d.full)) (e ∷ es)) i) are.files_are

    member : (nullable : Bool) (literal : Literal) → literal_of known ≡ Some literal
        → IsEnumLiteral (draft_of (names_of files order).files consts files order).enums (kinds.EnumKind c.enums nullable) literal
    member nullable literal l =
        let n = number_is.0 in
        let enum = enum_is d.item o.own o.below in
        let item = enum.0 in
        let spelled : ◌≡◌ {A = Option Literal} (Some (literals.Whole n)) (Some literal) = sym (ap literal_of number_is.1) ∙ l in
        let whole : literals.Whole n ≡ literal = cc in
        let none : numbered (refused_enumerator (site_of (scope_in file None)) (Some d.full)) first item.enumerators ≡ [] =
        ap (λ (x : DefinitionItem). numbered (refused_enumerator (site_of (scope_in file None)) (Some d.full)) first (enumerators_of x)) (sym enum.1) ∙ quiet in
        let lt : o.own < length item.enumerators = subst (λ (x : DefinitionItem). o.own < length (enumerators_of x)) enum.1 o.below in
        let v = numbers_are consts are.meanings_are own refl (Some d.full) (Written (written.Number false 0)) (pos 0) first item.enumerators
        (from item enum.1) (zero_implied consts are.meanings_are own refl first) none o.own n value lt in
        let at : number ≡ o.at = let sum = o.number_is in omega (arith, sum) in
        let there : slice_get (definitions_at files file) number ≡ Some d =
        ap (λ (f : Option NamedFile). slice_get (option_map_or (λ (f : NamedFile). definitions_of f.tree) f []) number) is
        ∙ (ap (slice_get (definitions_of tree.tree)) at ∙ o.there) in
        let row = enum_there (names_of files order).files consts files order file number d item there enum.1 c counted in
        let any = any_at (valued own item.enumerators) o.own v.0 n v.1 v.2 in
        (c.enums, nullable, n, refl, sym whole, ap (λ (r : Option EnumRow). has_number r n) row ∙ any)

  -- ## Names that mean enums and enumerators

  abbrev Other : KindTree → Literal → Type 0
  Other = IsEnumLiteral (draft_of (names_of files order).files consts files order).enums

  made_sized : (file : ℕ) (d : Defined) → length (made file d) ≡ length (enumerators_of d.item)
  made_sized file d = order_sized (origin_of_value (things_of_files files) (names_of files order).files file (Some d.full)) (enumerators_of d.item)

  same_sort : (sort : DefinitionSort) (item : DefinitionItem) (j : ℕ) → j < length (enumerators_of item) → sort_of_item item ≡ sort → sorts.Enum ≡ sort
  same_sort sort item j lt is = let e = enum_is item j lt in ap sort_of_item (sym e.1) ∙ is

  -- an enum of files, of which this is an enumerator
  module _ (file number e : ℕ) (nullable : Bool) (k : KindTree) (known : Known) (literal : Literal) (l : literal_of known ≡ Some literal) where
    of_row : (sort : DefinitionSort) → sort_of (names_of files order).files (targets.Definition file number) ≡ Some sort → (c : Counts)
        → rows_before (rows_of files order) file number ≡ Some c → row_kind nullable sort c ≡ Some k → owner_of consts.files file e ≡ Some number
        → value_of_target consts (targets.Enumerator file e) ≡ Some known → Holds Other k literal
    of_row sort sorted c counted kind owner value =
        let d = defined_as files order file number sort sorted in
        let ds = definitions_of d.tree.tree in
        let start = begin file d.tree d.tree_is in
        let there = file_things file d.tree d.tree_is in
        let owns : slice_get (owners ds) e ≡ Some number =
        sym (ap (λ (o : Option FileThings). option_and_then (λ (f : FileThings). slice_get f.owners e) o) there) ∙ owner in
        let o = owned (made file) (made_sized file) 0 ds e number owns in
        let at : number ≡ o.at = let sum = o.number_is in omega (arith, sum) in
        let twice : ◌≡◌ {A = Option Defined} (Some d.definition) (Some o.definition) = sym d.definition_is ∙ (ap (slice_get ds) at ∙ o.there) in
        let same : d.definition ≡ o.definition = cc in
        let below : o.own < length (enumerators_of d.definition.item) =
        subst (λ (x : Defined). o.own < length (enumerators_of x.item)) (sym same) o.below in
        let enum : sorts.Enum ≡ sort = same_sort sort d.definition.item o.own below d.sort_is in
        let is_enum : ◌≡◌ {A = Option KindTree} (Some (kinds.EnumKind c.enums nullable)) (Some k) =
        ap (λ (s : DefinitionSort). row_kind nullable s c) enum ∙ kind in
        let kind_is : kinds.EnumKind c.enums nullable ≡ k = cc in
        let thing = sym (ap (λ (o : Option FileThings). option_and_then (value_at consts)
        (option_and_then (λ (f : FileThings). thing_within f.enumerators f.end e) o)) there) ∙ value in
        let knows = within (start + length ds) (start + length ds + length (owners ds)) thing in
        subst (λ (k : KindTree). Holds Other k literal) kind_is (member file number e d.tree d.tree_is c counted known knows o nullable literal l)
      where
        within : (first end : ℕ) → option_and_then (value_at consts) (thing_within first end e) ≡ Some known → value_at consts (first + e) ≡ Some known
        within first end is = go (nat_lt (first + e) end) is
          where
            go : (b : Bool) → option_and_then (value_at consts) (if b then Some (first + e) else None) ≡ Some known → value_at consts (first + e) ≡ Some known
            go true is = is
            go false is = absurd cc

    of_sort : (s : Option DefinitionSort) → sort_of (names_of files order).files (targets.Definition file number) ≡ s
        → option_and_then (sort_kind (rows_of files order) nullable (targets.Definition file number)) s ≡ Some k → owner_of consts.files file e ≡ Some number
        → value_of_target consts (targets.Enumerator file e) ≡ Some known → Holds Other k literal
    of_sort None sorted kind owner value = absurd cc
    of_sort (Some sort) sorted kind owner value = go (rows_before (rows_of files order) file number) refl kind
      where
        go : (o : Option Counts) → rows_before (rows_of files order) file number ≡ o → option_and_then (row_kind nullable sort) o ≡ Some k
            → Holds Other k literal
        go None counted kind = absurd cc
        go (Some c) counted kind = of_row sort sorted c counted kind owner value

  -- the owner of an enumerator
  owner_is : (o : Option ℕ) (number : ℕ) → option_map_or (λ (owner : ℕ). owner == number) o false ≡ true → o ≡ Some number
  owner_is None number e = absurd cc
  owner_is (Some owner) number e = ap (λ (n : ℕ). let o : Option ℕ = Some n in o) (eqb-true owner number e)

  names_hold : (at : ℕ) (enclosing : Option (List ℕ)) → NamesHold Other (rows_of files order) (scope_in at enclosing)
  names_hold at enclosing None nullable k value known literal kind e knows l = absurd cc
  names_hold at enclosing (Some (targets.Enumerator file n)) nullable k value known literal kind e knows l = absurd cc
  names_hold at enclosing (Some (targets.Definition file number)) nullable k (values.String text) known literal kind e knows l = absurd cc
  names_hold at enclosing (Some (targets.Definition file number)) nullable k (values.Bool b span) known literal kind e knows l = absurd cc
  names_hold at enclosing (Some (targets.Definition file number)) nullable k (values.Number negative magnitude span) known literal kind e knows l = absurd cc
  names_hold at enclosing (Some (targets.Definition file number)) nullable k (values.Name name) known literal kind e knows l =
      go (look_up (names_of files order).files at enclosing (dotted name.parts)) e knows
    where
      go : (u : Option Target) → is_enumerator_of consts.files (Some (targets.Definition file number)) u ≡ true
          → option_and_then (value_of_target consts) u ≡ Some known → Holds Other k literal
      go None e knows = absurd cc
      go (Some (targets.Definition f n)) e knows = absurd cc
      go (Some (targets.Enumerator other n)) e knows =
          let parts = and_parts (file == other) _ e in
          let same : file ≡ other = eqb-true file other parts.0 in
          let owner = owner_is (owner_of consts.files other n) number parts.1 in
          of_sort file number n nullable k known literal l (sort_of (names_of files order).files (targets.Definition file number)) refl kind
          (ap (λ (f : ℕ). owner_of consts.files f n) same ∙ owner) (ap (λ (f : ℕ). value_of_target consts (targets.Enumerator f n)) same ∙ knows)

-- defaults of files of which nothing is refused, that are names of enumerators
pub hold : (files : List NamedFile) (order : List ℕ) (consts : Consts) → IsPassed files order (names_of files order) consts → (at : ℕ)
    (enclosing : Option (List ℕ)) → NamesHold (IsEnumLiteral (draft_of (names_of files order).files consts files order).enums) (rows_of files order)
    (around (names_of files order).files consts at enclosing)
hold files order consts passed = names_hold files order consts passed.evaluated.are (all_quiet files order consts passed)
