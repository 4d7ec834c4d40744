-- The numbers of enumerators of which nothing is refused are as they are written.
use Rattle.std.proofs.Common.{◌≡◌, ◌+◌, ◌-◌, ℕ, suc, ℤ, pos, negsuc, ◌+ℤ◌, List, [], ◌∷◌, length, map, refl, sym, ◌∙◌, ap, subst, arith}
use Rattle.std.specs.Prelude.{Bool, true, false, not, ◌&&◌, int_le, Option, Some, None, slice_get}
use Rattle.std.specs.List.{AllByRecursion, flat_map}
use Rattle.std.specs.Option.{option_map_or}
use Rattle.std.proofs.lemmas.Int.{ints, clamps}
use Rattle.std.proofs.lemmas.List.{length-map}
use Rattle.mojom_ast.specs.declared.names.Identifier.{Identifier}
use Rattle.mojom_ast.specs.declared.names.Value.{Value}
use Rattle.mojom_ast.specs.declared.definitions.DefinitionItem.{DefinitionItem}
use Rattle.mojom_ast.specs.declared.definitions.DefinitionItem.TheVariants as items
use Rattle.mojom_ast.specs.declared.definitions.Enumerator.{Enumerator}
use Rattle.mojom_files.specs.declared.named_file.NamedFile.{NamedFile}
use Rattle.mojom_files.specs.declared.basic.Basic.TheVariants as basics
use Rattle.mojom_files.specs.Definitions.{Defined, definitions_of, enumerators_of}
use Rattle.module_resolver.specs.declared.file_names.FileNames.{FileNames}
use Rattle.module_resolver.specs.NamesOf.{names_of}
use Rattle.name_refusals.specs.NameRefusals.{refused_uses}
use Rattle.name_refusals.specs.Uses.{uses_in_option, uses_in_attributes, uses_in_enum, uses_in_item, uses_of}
use Rattle.const_eval.specs.declared.consts.Consts.{Consts}
use Rattle.const_meanings.specs.declared.literal.Literal.TheVariants as literals
use Rattle.const_meanings.specs.declared.origin.Origin.{Origin}
use Rattle.const_meanings.specs.declared.origin.Origin.TheVariants.{Written, Next}
use Rattle.const_meanings.specs.Known.{Known, TextValue, BoolValue, NumberValue, FloatValue}
use Rattle.const_eval.specs.Kinds.{signed_bits, is_within, refused_value}
use Rattle.const_eval.specs.Things.{numbered, things_of_files}
use Rattle.const_eval.specs.Origins.{origin_of_value, origin_or, origins_in_order, origins_of_enumerators, origin_of_definition}
use Rattle.const_eval.specs.Consts.{AreConsts, value_at}
use Rattle.const_eval.specs.Refused.{Site as EvalSite, place_of_value, of_known, refused_circle, refused_enumerator_value, refused_known_enumerator, refused_versions, refused_enumerator, refused_enumerators, refused_definition}
use Rattle.kind_scope.specs.Scopes.{Scope}
use Rattle.kind_scope.specs.Scopes.{around}
use Rattle.draft_rows.specs.Rows.{held_signed, whole_or, number_at, valued_from, valued, member_row}
use Rattle.schema_laws.proofs.Quiet.{both_empty, none_where}
use Rattle.schema_laws.proofs.QuietFiles.{AreQuiet}
use Rattle.schema_laws.proofs.Kinded.{uses_apart}
use Rattle.schema_laws.proofs.Places.{at_front, at_behind, order_sized}
use Rattle.schema_laws.proofs.Told.{say, place}
use Rattle.written_laws.specs.Values.{Site}
use Rattle.written_laws.specs.Rows.{site_in}
use Rattle.written_laws.specs.Enums.{IsNumber, AreMembers}
use Rattle.written_laws.proofs.Steps.{written_is, next_is}
use Rattle.written_laws.proofs.ValueThere.{some_known, value_there}
use Rattle.written_laws.proofs.Values.{is_value, value_known}
use Rattle.written_laws.proofs.Definitions.{things_quiet}

-- numbers of int32

both_parts : (a b : Bool) → (a && b) ≡ true → (a ≡ true) × (b ≡ true)
both_parts true b e = (refl, e)
both_parts false b e = absurd cc

true_of : (b : Bool) → not b ≡ false → b ≡ true
true_of true e = refl
true_of false e = absurd cc

-- a number of int32 is held as it is
held_is : (n : ℤ) → is_within (signed_bits 32) n ≡ true → held_signed n ≡ n
held_is n e =
    let parts = both_parts (int_le (negsuc 2147483647) n) (int_le n (pos 2147483647)) e in
    grind (arith, ints, clamps)

-- a value of int32
record IsInt (known : Known) : Type 0 where
  number : ℤ
  is : known ≡ NumberValue number
  held : held_signed number ≡ number

int_is : (file : ℕ) (name : Identifier) (at : ℕ) (known : Known) → refused_value file name at basics.Int32 known ≡ [] → IsInt known
int_is file name at (TextValue bytes) e = absurd cc
int_is file name at (BoolValue value) e = absurd cc
int_is file name at (NumberValue n) e =
    record { number = n; is = refl; held = held_is n (true_of (is_within (signed_bits 32) n) (none_where (not (is_within (signed_bits 32) n)) _ e)) }
int_is file name at FloatValue e = absurd cc

-- the value of an enumerator of which nothing is refused is one
enumerator_int : (site : EvalSite) (inside : Option (List ℕ)) (thing : ℕ) (e : Enumerator) (known : Known) → refused_enumerator site inside thing e ≡ []
    → value_at site.consts thing ≡ Some known → IsInt known
enumerator_int site inside thing e known none is =
    let one = both_empty (refused_circle site thing e.name) _ none in
    let two = both_empty (refused_known_enumerator site thing e) (refused_versions site inside e.name e.attributes) one.1 in
    let value : refused_enumerator_value site.file e known ≡ [] = sym (ap (of_known (refused_enumerator_value site.file e)) is) ∙ two.0 in
    int_is site.file e.name (option_map_or place_of_value e.value e.name.span.start) known value

number_same : (n m : ℤ) → NumberValue n ≡ NumberValue m → n ≡ m
number_same n m e = cc

-- the enumerators of a definition, where it has any
abbrev pub HasMembers : List FileNames → Consts → ℕ → Defined → Type 0
HasMembers names consts file d =
    AreMembers (site_in names consts file d.full) (pos 0) (enumerators_of d.item)
    (map member_row (valued (around names consts file (Some d.full)) (enumerators_of d.item)))

module _ (files : List NamedFile) (order : List ℕ) (consts : Consts) (are : AreConsts files (names_of files order).files consts)
    (are_quiet : AreQuiet files (names_of files order).files consts) (file : ℕ) where
  abbrev eval_site : EvalSite
  eval_site = record { consts = consts; names = (names_of files order).files; file = file }

  abbrev here : List ℕ → Site
  here full = site_in (names_of files order).files consts file full

  abbrev scope : List ℕ → Scope
  scope full = around (names_of files order).files consts file (Some full)

  abbrev from : List ℕ → Value → Origin
  from full = origin_of_value (things_of_files files) (names_of files order).files file (Some full)

  abbrev none_used : List ℕ → Option Value → Type 0
  none_used full value = refused_uses (names_of files order).files file (uses_in_option (Some full) value) ≡ []

  -- the number in a row is that of the thing, and the one that is written
  record IsOne (full : List ℕ) (thing : ℕ) (next : ℤ) (value : Option Value) (number : ℤ) : Type 0 where
    at : value_at consts thing ≡ Some (NumberValue number)
    is : IsNumber (here full) next value number

  one_number : (full : List ℕ) (thing : ℕ) (e : Enumerator) (implied : Origin) (next : ℤ) (value : Option Value) → none_used full value
      → slice_get consts.origins thing ≡ Some (origin_or implied (from full) value)
      → (slice_get consts.origins thing ≡ Some implied → value_at consts thing ≡ Some (NumberValue next))
      → refused_enumerator eval_site (Some full) thing e ≡ [] → IsOne full thing next value (number_at (scope full) (held_signed next) value)
  one_number full thing e implied next None uses at given none =
      let i = enumerator_int eval_site (Some full) thing e (NumberValue next) none (given at) in
      let same : next ≡ i.number = number_same next i.number i.is in
      let held : held_signed next ≡ next = ap held_signed same ∙ (i.held ∙ sym same) in
      record { at = given at ∙ some_known (NumberValue next) (NumberValue (held_signed next)) (ap NumberValue (sym held)); is = held }
  one_number full thing e implied next (Some value) uses at given none =
      let k = value_known files order consts are are_quiet file (Some full) value uses in
      let there = value_there files order consts are are_quiet file (Some full) thing value uses at k.known k.is in
      let i = enumerator_int eval_site (Some full) thing e k.known none there in
      let row : number_at (scope full) (held_signed next) (Some value) ≡ i.number =
      ap (λ (o : Option Known). option_map_or (whole_or (held_signed next)) o (held_signed next))
      (k.is ∙ some_known k.known (NumberValue i.number) i.is) ∙ i.held in
      subst (λ (n : ℤ). IsOne full thing next (Some value) n) (sym row)
      (record {
        at = there ∙ some_known k.known (NumberValue i.number) i.is;
        is = is_value (here full) value (NumberValue i.number) (k.is ∙ some_known k.known (NumberValue i.number) i.is);
      })

  abbrev later : List ℕ → List Enumerator → List Origin
  later full es = map (λ (e : Enumerator). origin_or Next (from full) e.value) es

  value_uses : (full : List ℕ) (e : Enumerator) → refused_uses (names_of files order).files file (uses_in_enum (Some full) e) ≡ [] → none_used full e.value
  value_uses full e uses =
      (uses_apart (names_of files order).files file (uses_in_attributes (Some full) e.attributes) (uses_in_option (Some full) e.value) uses).1

  -- enumerators behind one of this number
  rest_members : (full : List ℕ) (thing : ℕ) (es : List Enumerator) (before : ℤ) → value_at consts thing ≡ Some (NumberValue before)
      → ((k : ℕ) (o : Origin) → slice_get (later full es) k ≡ Some o → slice_get consts.origins (thing + 1 + k) ≡ Some o)
      → numbered (refused_enumerator eval_site (Some full)) (thing + 1) es ≡ []
      → refused_uses (names_of files order).files file (flat_map (uses_in_enum (Some full)) es) ≡ []
      → AreMembers (here full) (before +ℤ pos 1) es (map member_row (valued_from (scope full) (held_signed (before +ℤ pos 1)) es))
  rest_members full thing [] before at origins none uses = tt
  rest_members full thing (e ∷ es) before at origins none uses =
      let parts = both_empty (refused_enumerator eval_site (Some full) (thing + 1) e)
      (numbered (refused_enumerator eval_site (Some full)) (thing + 1 + 1) es) none in
      let used = uses_apart (names_of files order).files file (uses_in_enum (Some full) e) (flat_map (uses_in_enum (Some full)) es) uses in
      let first : thing + 1 + 0 ≡ thing + 1 = omega arith in
      let here_at : slice_get consts.origins (thing + 1) ≡ Some (origin_or Next (from full) e.value) =
      ap (slice_get consts.origins) (sym first) ∙ origins 0 (origin_or Next (from full) e.value) refl in
      let back : thing + 1 - 1 ≡ thing = omega arith in
      let one = one_number full (thing + 1) e Next (before +ℤ pos 1) e.value (value_uses full e used.0) here_at
      (λ from_next. next_is consts are.meanings_are (thing + 1) before from_next (ap (value_at consts) back ∙ at)) parts.0 in
      let r : ℤ = number_at (scope full) (held_signed (before +ℤ pos 1)) e.value in (
        refl,
        (
          one.is,
          rest_members full (thing + 1) es r one.at
              (λ k o is.
              let same : thing + 1 + 1 + k ≡ thing + 1 + suc k = omega arith in
              ap (slice_get consts.origins) same ∙ origins (suc k) o is) parts.1 used.1,
        ),
      )

  -- all enumerators of an enum, the first of which is the thing of this number
  enum_members : (full : List ℕ) (thing : ℕ) (es : List Enumerator)
      → ((k : ℕ) (o : Origin) → slice_get (origins_in_order (from full) es) k ≡ Some o → slice_get consts.origins (thing + k) ≡ Some o)
      → numbered (refused_enumerator eval_site (Some full)) thing es ≡ []
      → refused_uses (names_of files order).files file (flat_map (uses_in_enum (Some full)) es) ≡ []
      → AreMembers (here full) (pos 0) es (map member_row (valued (scope full) es))
  enum_members full thing [] origins none uses = tt
  enum_members full thing (e ∷ es) origins none uses =
      let parts = both_empty (refused_enumerator eval_site (Some full) thing e) (numbered (refused_enumerator eval_site (Some full)) (thing + 1) es) none in
      let used = uses_apart (names_of files order).files file (uses_in_enum (Some full) e) (flat_map (uses_in_enum (Some full)) es) uses in
      let first : thing + 0 ≡ thing = omega arith in
      let here_at : slice_get consts.origins thing ≡ Some (origin_or (Written (literals.Number false 0)) (from full) e.value) =
      ap (slice_get consts.origins) (sym first) ∙ origins 0 (origin_or (Written (literals.Number false 0)) (from full) e.value) refl in
      let one = one_number full thing e (Written (literals.Number false 0)) (pos 0) e.value (value_uses full e used.0) here_at
      (λ written. written_is consts are.meanings_are thing (literals.Number false 0) written) parts.0 in
      let r : ℤ = number_at (scope full) (pos 0) e.value in (
        refl,
        (
          one.is,
          rest_members full thing es r one.at
              (λ k o is.
              let same : thing + 1 + k ≡ thing + suc k = omega arith in
              ap (slice_get consts.origins) same ∙ origins (suc k) o is) parts.1 used.1,
        ),
      )

  enumerators_use : (d : Defined) (item : DefinitionItem) → refused_uses (names_of files order).files file (uses_in_item d item) ≡ []
      → refused_uses (names_of files order).files file (flat_map (uses_in_enum (Some d.full)) (enumerators_of item)) ≡ []
  enumerators_use d (items.Enum item) uses = uses
  enumerators_use d (items.Struct item) uses = refl
  enumerators_use d (items.Union item) uses = refl
  enumerators_use d (items.Interface item) uses = refl
  enumerators_use d (items.Const item) uses = refl

  abbrev in_file : Defined → List Origin
  in_file = origins_of_enumerators (things_of_files files) (names_of files order).files file

  all_members : (thing : ℕ) (ds : List Defined)
      → ((k : ℕ) (o : Origin) → slice_get (flat_map in_file ds) k ≡ Some o → slice_get consts.origins (thing + k) ≡ Some o)
      → refused_enumerators eval_site thing ds ≡ [] → refused_uses (names_of files order).files file (flat_map uses_of ds) ≡ []
      → AllByRecursion (HasMembers (names_of files order).files consts file) ds
  all_members thing [] origins none uses = tt
  all_members thing (d ∷ ds) origins none uses =
      let size : ℕ = length (enumerators_of d.item) in
      let parts = both_empty (numbered (refused_enumerator eval_site (Some d.full)) thing (enumerators_of d.item))
      (refused_enumerators eval_site (thing + size) ds) none in
      let used = uses_apart (names_of files order).files file (uses_of d) (flat_map uses_of ds) uses in
      let inner = uses_apart (names_of files order).files file (uses_in_attributes d.enclosing d.attributes) (uses_in_item d d.item) used.0 in
      let long : length (in_file d) ≡ length (enumerators_of d.item) = order_sized (from d.full) (enumerators_of d.item) in (
        enum_members d.full thing (enumerators_of d.item) (λ k o is. origins k o (at_front (in_file d) (flat_map in_file ds) k o is)) parts.0
            (enumerators_use d d.item inner.1),
        all_members (thing + size) ds
            (λ k o is.
            let same : thing + size + k ≡ thing + (size + k) = omega arith in
            ap (slice_get consts.origins) same
            ∙ origins (size + k) o (at_behind (in_file d) (flat_map in_file ds) (size + k) k (omega (arith, long)) ∙ is)) parts.1 used.1,
      )

  -- of all definitions of the file
  pub file_members : (tree : NamedFile) → slice_get files file ≡ Some tree
      → AllByRecursion (HasMembers (names_of files order).files consts file) (definitions_of tree.tree)
  file_members tree is =
      let p = place files order file tree is in
      let ds = definitions_of tree.tree in
      let make = origin_of_definition (things_of_files files) (names_of files order).files file in
      let none = (both_empty (numbered (refused_definition eval_site) p.begin ds) (refused_enumerators eval_site (p.begin + length ds) ds)
      (things_quiet files order consts are are_quiet file tree is)).1 in
      let long = length-map ds make in
      all_members (p.begin + length ds) ds
      (λ k o at.
      let number : 0 + file ≡ file = omega arith in
      let behind : slice_get (say files order file tree) (length ds + k) ≡ Some o =
      at_behind (map make ds) (flat_map in_file ds) (length ds + k) k (omega (arith, long)) ∙ at in
      ap (λ (os : List Origin). slice_get os (p.begin + length ds + k)) are.origins_are
      ∙ p.origins (length ds + k) (p.begin + length ds + k) o
      (ap (λ (n : ℕ). slice_get (say files order n tree) (length ds + k)) number ∙ behind) (omega arith))
      none (are_quiet.uses file tree is)
