-- No constant and no enumerator of files of which nothing is refused is a float.
use Rattle.std.proofs.Common.{◌≡◌, ◌<◌, ◌+◌, ◌-◌, ℕ, List, [], ◌∷◌, length, refl, sym, ◌∙◌, ap, subst, inl, inr, arith, length-append}
use Rattle.std.specs.Prelude.{◌⊎◌, true, false, Option, Some}
use Rattle.std.proofs.lemmas.Bool.{cases_lt}
use Rattle.std.proofs.lemmas.List.{length-map}
use Rattle.mojom_ast.specs.declared.definitions.Enumerator.{Enumerator}
use Rattle.mojom_files.specs.declared.named_file.NamedFile.{NamedFile}
use Rattle.mojom_files.specs.Definitions.{Defined, definitions_of, enumerators_of}
use Rattle.module_resolver.specs.NamesOf.{names_of}
use Rattle.const_eval.specs.declared.consts.Consts.{Consts}
use Rattle.const_meanings.specs.Known.{Known, TextValue, BoolValue, NumberValue, FloatValue}
use Rattle.const_eval.specs.Things.{numbered, owners_in}
use Rattle.const_eval.specs.Consts.{AreConsts, value_at}
use Rattle.const_eval.specs.Refused.{Site, refused_enumerator, refused_enumerators, refused_definition}
use Rattle.schema_laws.proofs.Quiet.{both_empty}
use Rattle.schema_laws.proofs.QuietFiles.{AreQuiet}
use Rattle.schema_laws.proofs.Rowed.{at_below}
use Rattle.schema_laws.proofs.Valued.{is_number}
use Rattle.schema_laws.proofs.Places.{numbered_at}
use Rattle.schema_laws.proofs.Told.{IsConstAt, IsEnumeratorAt, IsTold, place}
use Rattle.schema_laws.proofs.Enumerators.{enumerator_number}
use Rattle.schema_laws.proofs.ConstsHaveRows.{is_float_value, const_basic}
use Rattle.written_laws.proofs.Definitions.{things_quiet}

-- an enumerator is the thing of this number, and nothing is refused of it
record IsQuietOne (site : Site) (thing : ℕ) : Type 0 where
  inside : Option (List ℕ)
  enumerator : Enumerator
  none : refused_enumerator site inside thing enumerator ≡ []

-- nothing is refused of the one at a place among those of definitions
quiet_one : (site : Site) (thing number k : ℕ) (ds : List Defined) → refused_enumerators site thing ds ≡ []
    → k < length (numbered owners_in number ds) → IsQuietOne site (thing + k)
quiet_one site thing number k [] none below = let bad : ⊥ = omega (arith, below) in absurd bad
quiet_one site thing number k (d ∷ ds) none below = elim (cases_lt k (length (enumerators_of d.item))) [
  | inl lt ↦
      let here = enumerators_of d.item in
      let parts = both_empty (numbered (refused_enumerator site (Some d.full)) thing here) (refused_enumerators site (thing + length here) ds) none in
      let at = at_below here k lt in
      record {
        inside = Some d.full;
        enumerator = at.one;
        none = numbered_at (refused_enumerator site (Some d.full)) thing here k at.one parts.0 at.is;
      }
  | inr le ↦
      let here = enumerators_of d.item in
      let parts = both_empty (numbered (refused_enumerator site (Some d.full)) thing here) (refused_enumerators site (thing + length here) ds) none in
      let sized : length (owners_in number d) ≡ length here = length-map here (λ (e : Enumerator). number) in
      let both = length-append (owners_in number d) (numbered owners_in (number + 1) ds) in
      let rest = quiet_one site (thing + length here) (number + 1) (k - length here) ds parts.1 (omega (arith, below, sized, both, le)) in
      let same : thing + length here + (k - length here) ≡ thing + k = omega (arith, le) in
      subst (IsQuietOne site) same rest
]

number_real : (known : Known) → is_number known ≡ true → is_float_value known ≡ false
number_real (NumberValue number) e = refl
number_real (TextValue bytes) e = refl
number_real (BoolValue value) e = refl
number_real FloatValue e = absurd cc

module _ (files : List NamedFile) (order : List ℕ) (consts : Consts) (are : AreConsts files (names_of files order).files consts)
    (are_quiet : AreQuiet files (names_of files order).files consts) where
  -- what a constant or an enumerator is
  pub thing_real : (thing : ℕ) → IsTold files order thing → (known : Known) → value_at consts thing ≡ Some known → is_float_value known ≡ false
  thing_real thing told known is = go told.which
    where
      go : IsConstAt (definitions_of told.tree.tree) told.n ⊎ IsEnumeratorAt (definitions_of told.tree.tree) told.n → is_float_value known ≡ false
      go (inl c) =
          (const_basic files order consts are are_quiet told.file told.tree told.tree_is told.n c known
          (ap (value_at consts) (sym told.thing_is) ∙ is)).value
      go (inr e) =
          let site : Site = record { consts = consts; names = (names_of files order).files; file = told.file } in
          let begin : ℕ = (place files order told.file told.tree told.tree_is).begin in
          let ds = definitions_of told.tree.tree in
          let none = (both_empty (numbered (refused_definition site) begin ds) (refused_enumerators site (begin + length ds) ds)
          (things_quiet files order consts are are_quiet told.file told.tree told.tree_is)).1 in
          let one = quiet_one site (begin + length ds) 0 e.place ds none e.below in
          let here : begin + length ds + e.place ≡ thing = omega (arith, e.is, told.thing_is) in
          number_real known
          (enumerator_number site one.inside (begin + length ds + e.place) one.enumerator known one.none (ap (value_at consts) here ∙ is))
