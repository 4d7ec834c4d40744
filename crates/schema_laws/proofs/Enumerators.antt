-- Enumerators of which nothing is refused: where their values come from.
use Rattle.std.proofs.Common.{◌≡◌, ◌<◌, ◌+◌, ◌-◌, ℕ, zero, suc, List, [], ◌∷◌, length, refl, sym, ◌∙◌, ap, subst, inl, inr, arith}
use Rattle.std.specs.Prelude.{◌⊎◌, true, false, map, Option, Some, None, slice_get}
use Rattle.std.specs.List.{flat_map}
use Rattle.std.specs.Option.{option_map_or}
use Rattle.mojom_ast.specs.declared.names.Identifier.{Identifier}
use Rattle.mojom_ast.specs.declared.names.Value.{Value}
use Rattle.mojom_ast.specs.declared.definitions.Enumerator.{Enumerator}
use Rattle.mojom_ast.specs.declared.definitions.DefinitionItem.{DefinitionItem}
use Rattle.mojom_ast.specs.declared.definitions.DefinitionItem.TheVariants as items
use Rattle.mojom_files.specs.declared.named_file.NamedFile.{NamedFile}
use Rattle.mojom_files.specs.declared.basic.Basic.TheVariants as basics
use Rattle.mojom_files.specs.Definitions.{Defined, enumerators_of}
use Rattle.module_resolver.specs.NamesOf.{names_of}
use Rattle.name_refusals.specs.NameRefusals.{refused_uses}
use Rattle.name_refusals.specs.Uses.{Use, uses_in_option, uses_in_attributes, uses_in_enum, uses_in_item, uses_of}
use Rattle.const_meanings.specs.declared.literal.Literal.TheVariants as literals
use Rattle.const_meanings.specs.declared.origin.Origin.{Origin}
use Rattle.const_meanings.specs.declared.origin.Origin.TheVariants.{Written, Next}
use Rattle.const_meanings.specs.Known.{Known, TextValue, BoolValue, NumberValue, FloatValue}
use Rattle.const_eval.specs.Kinds.{refused_value}
use Rattle.const_meanings.specs.Needs.{needed_by, counts_on}
use Rattle.const_eval.specs.Consts.{value_at, is_circular}
use Rattle.const_eval.specs.Things.{numbered, things_of_files}
use Rattle.const_eval.specs.Origins.{origin_of_value, origin_or, origins_in_order, origins_of_enumerators}
use Rattle.const_eval.specs.Refused.{Site, place_of_value, of_known, refused_circle, refused_enumerator_value, refused_known_enumerator, refused_versions, refused_enumerator, refused_enumerators}
use Rattle.schema_laws.proofs.Quiet.{both_empty, none_where}
use Rattle.schema_laws.proofs.Kinded.{uses_apart}
use Rattle.schema_laws.proofs.Valued.{is_number, is_missing}
use Rattle.schema_laws.proofs.Places.{IsBehind, at_either, order_sized}
use Rattle.schema_laws.proofs.Told.{IsTold, IsFine, written_fine, value_fine}

number_is : (file : ℕ) (name : Identifier) (at : ℕ) (k : Known) → refused_value file name at basics.Int32 k ≡ [] → is_number k ≡ true
number_is file name at (TextValue bytes) e = absurd cc
number_is file name at (BoolValue value) e = absurd cc
number_is file name at (NumberValue number) e = refl
number_is file name at FloatValue e = absurd cc

-- the value of an enumerator of which nothing is refused is a number
pub enumerator_number : (site : Site) (inside : Option (List ℕ)) (thing : ℕ) (e : Enumerator) (k : Known) → refused_enumerator site inside thing e ≡ []
    → value_at site.consts thing ≡ Some k → is_number k ≡ true
enumerator_number site inside thing e k none is =
    let one = both_empty (refused_circle site thing e.name) _ none in
    let two = both_empty (refused_known_enumerator site thing e) (refused_versions site inside e.name e.attributes) one.1 in
    let value : refused_enumerator_value site.file e k ≡ [] = sym (ap (of_known (refused_enumerator_value site.file e)) is) ∙ two.0 in
    number_is site.file e.name (option_map_or place_of_value e.value e.name.span.start) k value

enumerator_straight : (site : Site) (inside : Option (List ℕ)) (thing : ℕ) (e : Enumerator) → refused_enumerator site inside thing e ≡ []
    → is_circular site.consts thing ≡ false
enumerator_straight site inside thing e none =
    none_where (is_circular site.consts thing) _ (both_empty (refused_circle site thing e.name) _ none).0

module _ (files : List NamedFile) (order : List ℕ) (site : Site) where
  -- where the value of the enumerator of this number comes from, among those that begin here
  pub record IsSoundThere (start n : ℕ) (o : Origin) : Type 0 where
    pub there : is_missing o ≡ false
    pub straight : is_circular site.consts (start + n) ≡ false
    pub counted : counts_on (Some o) ≡ 1 → (k : Known) → value_at site.consts (start + n - 1) ≡ Some k → is_number k ≡ true
    pub behind : counts_on (Some o) ≡ 1 → 0 < n
    pub told : (thing other : ℕ) → needed_by thing (Some o) ≡ Some other → IsTold files order other ⊎ (o ≡ Next)

  further : (start size m n : ℕ) (o : Origin) → n ≡ size + m → IsSoundThere (start + size) m o → IsSoundThere start n o
  further start size m n o e s =
      let same : start + size + m ≡ start + n = omega (arith, e) in
      record {
        there = s.there;
        straight = ap (is_circular site.consts) (sym same) ∙ s.straight;
        counted = λ one k is. s.counted one k (ap (λ (t : ℕ). value_at site.consts (t - 1)) same ∙ is);
        behind = λ one. omega (arith, e, s.behind one);
        told = s.told;
      }

  -- an origin that stands for itself
  fine_there : (inside : Option (List ℕ)) (start n : ℕ) (e : Enumerator) (o : Origin) → refused_enumerator site inside (start + n) e ≡ []
      → IsFine files order o → IsSoundThere start n o
  fine_there inside start n e o none fine = record {
    there = fine.there;
    straight = enumerator_straight site inside (start + n) e none;
    counted = λ one k is. let bad : 0 ≡ 1 = sym fine.plain ∙ one in let worse : ⊥ = omega (arith, bad) in absurd worse;
    behind = λ one. let bad : 0 ≡ 1 = sym fine.plain ∙ one in let worse : ⊥ = omega (arith, bad) in absurd worse;
    told = λ thing other needs. inl (fine.told thing other needs);
  }

  -- the one after another of which nothing is refused
  next_there : (inside : Option (List ℕ)) (start : ℕ) (before e : Enumerator) → refused_enumerator site inside start before ≡ []
      → refused_enumerator site inside (start + 1) e ≡ [] → IsSoundThere start 1 Next
  next_there inside start before e quiet none = record {
    there = refl;
    straight = enumerator_straight site inside (start + 1) e none;
    counted = λ one k is.
        let same : start + 1 - 1 ≡ start = omega arith in
        enumerator_number site inside start before k quiet (ap (value_at site.consts) (sym same) ∙ is);
    behind = λ one. omega arith;
    told = λ thing other needs. inr refl;
  }

  abbrev from : Option (List ℕ) → Value → Origin
  from inside = origin_of_value (things_of_files files) (names_of files order).files site.file inside

  abbrev none_refused : List Use → Type 0
  none_refused uses = refused_uses (names_of files order).files site.file uses ≡ []

  -- an enumerator with a value, or else with this origin
  with_value : (inside : Option (List ℕ)) (start n : ℕ) (e : Enumerator) (implied : Origin) (value : Option Value)
      → refused_enumerator site inside (start + n) e ≡ [] → none_refused (uses_in_option inside value) → IsSoundThere start n implied
      → IsSoundThere start n (origin_or implied (from inside) value)
  with_value inside start n e implied None none uses sound = sound
  with_value inside start n e implied (Some value) none uses sound =
      fine_there inside start n e (from inside value) none (value_fine files order site.file inside value uses)

  value_uses : (inside : Option (List ℕ)) (e : Enumerator) → none_refused (uses_in_enum inside e) → none_refused (uses_in_option inside e.value)
  value_uses inside e uses =
      (uses_apart (names_of files order).files site.file (uses_in_attributes inside e.attributes) (uses_in_option inside e.value) uses).1

  -- those behind another
  rest_there : (inside : Option (List ℕ)) (start : ℕ) (before : Enumerator) (es : List Enumerator) (k : ℕ) (o : Origin)
      → refused_enumerator site inside start before ≡ [] → numbered (refused_enumerator site inside) (start + 1) es ≡ []
      → none_refused (flat_map (uses_in_enum inside) es)
      → slice_get (map (λ (e : Enumerator). origin_or Next (from inside) e.value) es) k ≡ Some o → IsSoundThere start (k + 1) o
  rest_there inside start before [] k o quiet none uses is = absurd cc
  rest_there inside start before (e ∷ es) zero o quiet none uses is =
      let same : origin_or Next (from inside) e.value ≡ o = cc in
      let here = (both_empty (refused_enumerator site inside (start + 1) e) _ none).0 in
      let used = (uses_apart (names_of files order).files site.file (uses_in_enum inside e) (flat_map (uses_in_enum inside) es) uses).0 in
      let one : 1 ≡ 0 + 1 = omega arith in
      subst (λ (n : ℕ). IsSoundThere start n o) one
      (subst (IsSoundThere start 1) same
      (with_value inside start 1 e Next e.value here (value_uses inside e used) (next_there inside start before e quiet here)))
  rest_there inside start before (e ∷ es) (suc k) o quiet none uses is =
      let parts = both_empty (refused_enumerator site inside (start + 1) e) (numbered (refused_enumerator site inside) (start + 1 + 1) es) none in
      let used = (uses_apart (names_of files order).files site.file (uses_in_enum inside e) (flat_map (uses_in_enum inside) es) uses).1 in
      further start 1 (k + 1) (suc k + 1) o (omega arith) (rest_there inside (start + 1) e es k o parts.0 parts.1 used is)

  order_there : (inside : Option (List ℕ)) (start : ℕ) (es : List Enumerator) (k : ℕ) (o : Origin)
      → numbered (refused_enumerator site inside) start es ≡ [] → none_refused (flat_map (uses_in_enum inside) es)
      → slice_get (origins_in_order (from inside) es) k ≡ Some o → IsSoundThere start k o
  order_there inside start [] k o none uses is = absurd cc
  order_there inside start (e ∷ es) zero o none uses is =
      let same : origin_or (Written (literals.Number false 0)) (from inside) e.value ≡ o = cc in
      let at : start ≡ start + 0 = omega arith in
      let here = subst (λ (t : ℕ). refused_enumerator site inside t e ≡ []) at (both_empty (refused_enumerator site inside start e) _ none).0 in
      let used = (uses_apart (names_of files order).files site.file (uses_in_enum inside e) (flat_map (uses_in_enum inside) es) uses).0 in
      subst (IsSoundThere start 0) same
      (with_value inside start 0 e (Written (literals.Number false 0)) e.value here (value_uses inside e used)
      (fine_there inside start 0 e (Written (literals.Number false 0)) here (written_fine files order (literals.Number false 0))))
  order_there inside start (e ∷ es) (suc k) o none uses is =
      let parts = both_empty (refused_enumerator site inside start e) (numbered (refused_enumerator site inside) (start + 1) es) none in
      let used = (uses_apart (names_of files order).files site.file (uses_in_enum inside e) (flat_map (uses_in_enum inside) es) uses).1 in
      let same : k + 1 ≡ suc k = omega arith in
      subst (λ (n : ℕ). IsSoundThere start n o) same (rest_there inside start e es k o parts.0 parts.1 used is)

  -- the names that the enumerators of a definition use
  enumerators_use : (d : Defined) (item : DefinitionItem) → none_refused (uses_in_item d item)
      → none_refused (flat_map (uses_in_enum (Some d.full)) (enumerators_of item))
  enumerators_use d (items.Enum item) uses = uses
  enumerators_use d (items.Struct item) uses = refl
  enumerators_use d (items.Union item) uses = refl
  enumerators_use d (items.Interface item) uses = refl
  enumerators_use d (items.Const item) uses = refl

  -- the enumerators of the definitions of a file
  pub sound_there : (start : ℕ) (ds : List Defined) (n : ℕ) (o : Origin) → refused_enumerators site start ds ≡ [] → none_refused (flat_map uses_of ds)
      → slice_get (flat_map (origins_of_enumerators (things_of_files files) (names_of files order).files site.file) ds) n ≡ Some o
      → IsSoundThere start n o
  sound_there start [] n o none uses is = absurd cc
  sound_there start (d ∷ ds) n o none uses is =
      let size : ℕ = length (enumerators_of d.item) in
      let here = origins_in_order (from (Some d.full)) (enumerators_of d.item) in
      let parts = both_empty (numbered (refused_enumerator site (Some d.full)) start (enumerators_of d.item))
      (refused_enumerators site (start + size) ds) none in
      let used = uses_apart (names_of files order).files site.file (uses_of d) (flat_map uses_of ds) uses in
      let inner = uses_apart (names_of files order).files site.file (uses_in_attributes d.enclosing d.attributes) (uses_in_item d d.item) used.0 in
      let count : length here ≡ size = order_sized (from (Some d.full)) (enumerators_of d.item) in
      either d ds start n o parts.0 (enumerators_use d d.item inner.1)
      (λ m at. sound_there (start + size) ds m o parts.1 used.1 at)
      (at_either here (flat_map (origins_of_enumerators (things_of_files files) (names_of files order).files site.file) ds) n o is)
    where
      either : (d : Defined) (ds : List Defined) (start n : ℕ) (o : Origin)
          → numbered (refused_enumerator site (Some d.full)) start (enumerators_of d.item) ≡ []
          → none_refused (flat_map (uses_in_enum (Some d.full)) (enumerators_of d.item))
          → ((m : ℕ) → slice_get (flat_map (origins_of_enumerators (things_of_files files) (names_of files order).files site.file) ds) m ≡ Some o
          → IsSoundThere (start + length (enumerators_of d.item)) m o)
          → (slice_get (origins_in_order (from (Some d.full)) (enumerators_of d.item)) n ≡ Some o)
          ⊎ IsBehind (origins_in_order (from (Some d.full)) (enumerators_of d.item))
          (flat_map (origins_of_enumerators (things_of_files files) (names_of files order).files site.file) ds) n o
          → IsSoundThere start n o
      either d ds start n o none uses rest (inl front) = order_there (Some d.full) start (enumerators_of d.item) n o none uses front
      either d ds start n o none uses rest (inr behind) =
          let size = order_sized (from (Some d.full)) (enumerators_of d.item) in
          further start (length (enumerators_of d.item)) behind.place n o (omega (arith, behind.is, size)) (rest behind.place behind.there)
