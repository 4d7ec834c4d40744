-- The numbers that enumerators have in rows are those that they mean.
use Rattle.std.proofs.Common.{◌≡◌, ◌∙◌, ◌<◌, ℕ, zero, suc, ◌+◌, ◌-◌, ℤ, pos, negsuc, Bool, true, false, cond, List, [], ◌∷◌, length, map, get_or, refl}
use Rattle.std.proofs.Common.{sym, ap, subst, arith}
use Rattle.std.specs.Prelude.{◌+ℤ◌, not, nat_lt, slice_get, Option, Some, None, option_and_then}
use Rattle.std.specs.Int.{int_max}
use Rattle.std.specs.Option.{option_map_or}
use Rattle.std.proofs.lemmas.Bool.Decides.{nat_tests}
use Rattle.std.proofs.lemmas.Option.{slice_get_within, slice_get-get_or}
use lib.IntN.{+ℤ_assoc, +ℤ_idr}
use Rattle.mojom_ast.specs.declared.definitions.Enumerator.{Enumerator}
use Rattle.mojom_ast.specs.declared.names.Value.{Value}
use Rattle.mojom_ast.specs.declared.names.Value.TheVariants as values
use Rattle.mojom_files.specs.Names.{dotted}
use Rattle.module_resolver.specs.LookUp.{look_up}
use Rattle.module_resolver.specs.declared.target.Target.{Target}
use Rattle.const_eval.specs.Consts.{known_of_meaning, known_of_origin, value_at, value_in, value_of_target}
use Rattle.const_eval.specs.Kinds.{is_within, signed_bits}
use Rattle.const_meanings.specs.Known.{Known, NumberValue, known_with, number_of, signed}
use Rattle.const_meanings.specs.Meanings.{AreMeanings, HasValue}
use Rattle.const_meanings.specs.Needs.{EndsAt, added, ahead, counts_on, needed, needed_by, or_itself, source}
use Rattle.const_eval.specs.Origins.{of_thing, origin_of_value, origin_or}
use Rattle.const_eval.specs.Refused.{Site, of_known, refused_circle, refused_enumerator, refused_enumerator_value, refused_known_enumerator, refused_versions}
use Rattle.const_eval.specs.Things.{numbered, thing_of}
use Rattle.const_eval.specs.declared.consts.Consts.{Consts}
use Rattle.const_meanings.specs.declared.literal.Literal.{Literal}
use Rattle.const_meanings.specs.declared.literal.Literal.TheVariants as literals
use Rattle.const_meanings.specs.declared.meaning.Meaning.{Meaning}
use Rattle.const_meanings.specs.declared.meaning.Meaning.TheVariants as meanings
use Rattle.const_meanings.specs.declared.origin.Origin.{Origin}
use Rattle.const_meanings.specs.declared.origin.Origin.TheVariants.{Written, Of, Next, Missing}
use Rattle.const_meanings.proofs.Reaching.{one_meaning}
use Rattle.kind_scope.specs.Scopes.{known_in, Scope}
use Rattle.draft_rows.specs.Rows.{Valued, held_signed, number_at, valued_from, whole_or}
use Rattle.schema_laws.proofs.Quiet.{both_empty, none_where}
use Rattle.sound_laws.proofs.Defaults.{at_most, true_of, within_parts}

-- ## What things mean

module _ (consts : Consts) (are : AreMeanings consts.origins consts.meanings) where
  -- where the value of a thing is written, and how much is added to it
  pub record IsMeant (thing : ℕ) (k : Known) : Type 0 where
    pub last : ℕ
    pub more : ℕ
    pub literal : Literal
    pub ends : EndsAt consts.origins thing last more
    pub written : slice_get consts.origins last ≡ Some (Written literal)
    pub is : known_with literal more ≡ Some k

  pub meant : (thing : ℕ) (k : Known) → value_at consts thing ≡ Some k → IsMeant thing k
  meant thing k e = go (slice_get consts.meanings thing) refl e
    where
      go : (o : Option Meaning) → slice_get consts.meanings thing ≡ o → option_and_then (known_of_meaning consts.origins) o ≡ Some k → IsMeant thing k
      go None found e = absurd cc
      go (Some meanings.Circular) found e = absurd cc
      go (Some meanings.Nothing) found e = absurd cc
      go (Some (meanings.Value last more)) found e =
          let below = slice_get_within consts.meanings thing (meanings.Value last more) found in
          let has = are.each thing (omega (arith, below, are.count)) (meanings.Value last more) found in
          record {
            last = last;
            more = more;
            literal = has.literal;
            ends = has.ends;
            written = has.written;
            is = sym (ap (λ (o : Option Origin). option_and_then (known_of_origin more) o) has.written) ∙ e;
          }

  -- a thing whose need ends at a literal is so much more than that
  value_is : (thing last more : ℕ) (literal : Literal) → thing < length consts.origins → EndsAt consts.origins thing last more
      → slice_get consts.origins last ≡ Some (Written literal) → value_at consts thing ≡ known_with literal more
  value_is thing last more literal lt ends written =
      let has : HasValue consts.origins thing last more = record { literal = literal; ends = ends; written = written } in
      let found = slice_get-get_or consts.meanings thing meanings.Nothing (omega (arith, lt, are.count)) in
      let told = are.each thing lt (get_or consts.meanings thing meanings.Nothing) found in
      let same : get_or consts.meanings thing meanings.Nothing ≡ meanings.Value last more =
      one_meaning consts.origins thing (get_or consts.meanings thing meanings.Nothing) (meanings.Value last more) told has in
      let meant = found ∙ ap (λ (m : Meaning). let o : Option Meaning = Some m in o) same in
      ap (λ (o : Option Meaning). option_and_then (known_of_meaning consts.origins) o) meant
      ∙ ap (λ (o : Option Origin). option_and_then (known_of_origin more) o) written

  -- a thing that needs nothing stays where it is
  stays : (thing steps : ℕ) → needed consts.origins thing ≡ None → ahead consts.origins steps thing ≡ thing
  unfolding ahead
  stays thing zero e = refl
  stays thing (suc steps) e = ap (ahead consts.origins steps) (ap (or_itself thing) e) ∙ stays thing steps e

  needs_by : (thing : ℕ) (o : Origin) → slice_get consts.origins thing ≡ Some o → needed consts.origins thing ≡ needed_by thing (Some o)
  needs_by thing o e = ap (needed_by thing) e

  -- what is missing has no value
  none_missing : (thing : ℕ) (k : Known) → slice_get consts.origins thing ≡ Some Missing → value_at consts thing ≡ Some k → ⊥
  none_missing thing k e value =
      let m = meant thing k value in
      let last : m.last ≡ thing = sym m.ends.there ∙ stays thing m.ends.steps (needs_by thing Missing e) in
      let bad : ◌≡◌ {A = Option Origin} (Some Missing) (Some (Written m.literal)) = sym e ∙ (ap (slice_get consts.origins) (sym last) ∙ m.written) in
      absurd cc

  -- what is written is what it says
  written_is : (thing : ℕ) (literal : Literal) → slice_get consts.origins thing ≡ Some (Written literal) → value_at consts thing ≡ known_with literal 0
  unfolding ahead added
  written_is thing literal e =
      let ends : EndsAt consts.origins thing thing 0 = record { steps = zero; there = refl; ends = needs_by thing (Written literal) e; counted = refl } in
      value_is thing thing 0 literal (slice_get_within consts.origins thing (Written literal) e) ends e

  -- where steps lead to what is written, there is a thing
  is_below : (thing steps last : ℕ) (literal : Literal) → ahead consts.origins steps thing ≡ last
      → slice_get consts.origins last ≡ Some (Written literal) → thing < length consts.origins
  is_below thing steps last literal there written = go (slice_get consts.origins thing) refl
    where
      go : (o : Option Origin) → slice_get consts.origins thing ≡ o → thing < length consts.origins
      go (Some o) e = slice_get_within consts.origins thing o e
      go None e =
          let same : thing ≡ last = sym (stays thing steps (ap (needed_by thing) e)) ∙ there in
          let bad : ◌≡◌ {A = Option Origin} None (Some (Written literal)) = sym e ∙ (ap (slice_get consts.origins) same ∙ written) in absurd cc

  -- what needs another thing has its value, and one more where it counts on
  record IsPassed (thing other : ℕ) (o : Origin) (k : Known) : Type 0 where
    literal : Literal
    more : ℕ
    here : known_with literal (counts_on (Some o) + more) ≡ Some k
    there : value_at consts other ≡ known_with literal more

  passed_on : (thing other : ℕ) (o : Origin) (k : Known) → slice_get consts.origins thing ≡ Some o → needed_by thing (Some o) ≡ Some other
      → value_at consts thing ≡ Some k → IsPassed thing other o k
  unfolding ahead added
  passed_on thing other o k e needs value = go m.ends.steps m.ends.there m.ends.counted
    where
      m : IsMeant thing k
      m = meant thing k value

      next : source consts.origins thing ≡ other
      next = ap (or_itself thing) (needs_by thing o e ∙ needs)

      needed_at : (last : ℕ) → thing ≡ last → needed consts.origins last ≡ Some other
      needed_at last same = subst (λ (t : ℕ). needed consts.origins t ≡ Some other) same (needs_by thing o e ∙ needs)

      go : (steps : ℕ) → ahead consts.origins steps thing ≡ m.last → added consts.origins steps thing ≡ m.more → IsPassed thing other o k
      go zero there counted =
          let bad : ◌≡◌ {A = Option ℕ} (Some other) None = sym (needed_at m.last there) ∙ m.ends.ends in absurd cc
      go (suc steps) there counted =
          let far : ℕ = added consts.origins steps other in
          let ends : EndsAt consts.origins other m.last far = record {
            steps = steps;
            there = ap (ahead consts.origins steps) (sym next) ∙ there;
            ends = m.ends.ends;
            counted = refl;
          } in
          let sum : m.more ≡ counts_on (Some o) + far =
          sym counted ∙ (ap (λ (o : Option Origin). counts_on o + added consts.origins steps (source consts.origins thing)) e
          ∙ ap (λ (t : ℕ). counts_on (Some o) + added consts.origins steps t) next) in
          record {
            literal = m.literal;
            more = far;
            here = ap (known_with m.literal) (sym sum) ∙ m.is;
            there = value_is other m.last far m.literal (is_below other steps m.last m.literal ends.there m.written) ends m.written;
          }

  -- another thing's value
  of_other : (thing other : ℕ) (k : Known) → slice_get consts.origins thing ≡ Some (Of other) → value_at consts thing ≡ Some k
      → value_at consts other ≡ Some k
  of_other thing other k e value =
      let p = passed_on thing other (Of other) k e refl value in
      let none : 0 + p.more ≡ p.more = omega arith in p.there ∙ (ap (known_with p.literal) (sym none) ∙ p.here)

  -- the number after that of the thing before
  next_number : (literal : Literal) (more : ℕ) (n : ℤ) → known_with literal (suc more) ≡ Some (NumberValue n)
      → (p : ℤ) × (known_with literal more ≡ Some (NumberValue p)) × (n ≡ p +ℤ pos 1)
  next_number (literals.Number negative magnitude) more n e =
      let is : number_of negative magnitude (suc more) ≡ n = cc in
      let sum : more + 1 ≡ suc more = omega arith in (
        number_of negative magnitude more,
        refl,
        sym is ∙ sym (+ℤ_assoc (signed negative magnitude) (pos more) (pos 1) ∙ ap (λ (m : ℕ). signed negative magnitude +ℤ pos m) sum),
      )
  next_number (literals.Text bytes) more n e = absurd cc
  next_number (literals.Bool value) more n e = absurd cc
  next_number literals.Float more n e = absurd cc

  -- so is what the next thing says one more
  next_passed : (thing other : ℕ) (n : ℤ) → IsPassed other thing Next (NumberValue n)
      → (p : ℤ) × (value_at consts thing ≡ Some (NumberValue p)) × (n ≡ p +ℤ pos 1)
  next_passed thing other n passed =
      let up : 1 + passed.more ≡ suc passed.more = omega arith in
      let q = next_number passed.literal passed.more n (ap (known_with passed.literal) (sym up) ∙ passed.here) in (q.0, passed.there ∙ q.1, q.2)

  next_back : (thing : ℕ) (n : ℤ) → slice_get consts.origins (thing + 1) ≡ Some Next → value_at consts (thing + 1) ≡ Some (NumberValue n)
      → (p : ℤ) × (value_at consts thing ≡ Some (NumberValue p)) × (n ≡ p +ℤ pos 1)
  next_back thing n e value =
      let before : thing + 1 - 1 ≡ thing = omega arith in
      next_passed thing (thing + 1) n
      (passed_on (thing + 1) thing Next (NumberValue n) e (ap (λ (t : ℕ). let o : Option ℕ = Some t in o) before) value)

  -- ## What values mean

  module _ (scope : Scope) (same : scope.consts ≡ consts) where
    -- a value that a thing has is what the value means there
    value_back : (value : Value) (thing : ℕ) (k : Known)
        → slice_get consts.origins thing ≡ Some (origin_of_value consts.files scope.names scope.file scope.enclosing value)
        → value_at consts thing ≡ Some k → value_in consts scope.names scope.file scope.enclosing value ≡ Some k
    value_back (values.String written) thing k e is = sym (written_is thing (literals.Text written.bytes) e) ∙ is
    value_back (values.Bool value span) thing k e is = sym (written_is thing (literals.Bool value) e) ∙ is
    value_back (values.Number negative magnitude span) thing k e is =
        ap (λ (n : ℤ). let o : Option Known = Some (NumberValue n) in o) (sym (+ℤ_idr (signed negative magnitude)))
        ∙ (sym (written_is thing (literals.Number negative magnitude) e) ∙ is)
    value_back (values.Name name) thing k e is = go (look_up scope.names scope.file scope.enclosing (dotted name.parts)) e
      where
        at : (target : Target) (o : Option ℕ) → thing_of consts.files target ≡ o → slice_get consts.origins thing ≡ Some (of_thing o)
            → option_and_then (value_at consts) o ≡ Some k
        at target None found e = absurd (none_missing thing k e is)
        at target (Some other) found e = of_other thing other k e is

        go : (o : Option Target) → slice_get consts.origins thing ≡ Some (of_thing (option_and_then (thing_of consts.files) o))
            → option_and_then (value_of_target consts) o ≡ Some k
        go None e = absurd (none_missing thing k e is)
        go (Some target) e = at target (thing_of consts.files target) refl e

    known_back : (value : Value) (thing : ℕ) (k : Known)
        → slice_get consts.origins thing ≡ Some (origin_of_value consts.files scope.names scope.file scope.enclosing value)
        → value_at consts thing ≡ Some k → known_in scope value ≡ Some k
    known_back value thing k e is =
        ap (λ (c : Consts). value_in c scope.names scope.file scope.enclosing value) same ∙ value_back value thing k e is

    -- ## Enumerators

    abbrev pub origin : Value → Origin
    origin value = origin_of_value consts.files scope.names scope.file scope.enclosing value

    abbrev pub site : Site
    site = record { consts = consts; names = scope.names; file = scope.file }

    -- a number that nothing refuses
    abbrev pub InRange : ℤ → Type 0
    InRange n = is_within (signed_bits 32) n ≡ true

    pub in_quiet : (inside : Option (List ℕ)) (thing : ℕ) (e : Enumerator) (n : ℤ) → refused_enumerator site inside thing e ≡ []
        → value_at consts thing ≡ Some (NumberValue n) → InRange n
    in_quiet inside thing e n none is =
        let one = both_empty (refused_circle site thing e.name) _ none in
        let two = both_empty (refused_known_enumerator site thing e) (refused_versions site inside e.name e.attributes) one.1 in
        let value : refused_enumerator_value site.file e (NumberValue n) ≡ [] = sym (ap (of_known (refused_enumerator_value site.file e)) is) ∙ two.0 in
        true_of (is_within (signed_bits 32) n) (none_where (not (is_within (signed_bits 32) n)) _ value)

    -- such a number is held as it is
    held_same : (n : ℤ) → InRange n → held_signed n ≡ n
    held_same (pos m) e =
        let most : m < 2147483648 = at_most m 2147483647 (within_parts (signed_bits 32) (pos m) e).1 in
        let low : nat_lt 2147483647 m ≡ false = grind (arith, nat_tests) in
        ap (λ (b : Bool). int_max (negsuc 2147483647) (cond b (pos 2147483647) (pos m))) low
    held_same (negsuc m) e =
        let most : m < 2147483648 = at_most m 2147483647 (within_parts (signed_bits 32) (negsuc m) e).0 in
        let low : nat_lt 2147483647 m ≡ false = grind (arith, nat_tests) in
        ap (λ (b : Bool). cond b (negsuc 2147483647) (negsuc m)) low

    -- what an enumerator without a value is
    abbrev pub IsImplied : Origin → ℤ → ℕ → Type 0
    IsImplied implied next thing =
        (n : ℤ) → slice_get consts.origins thing ≡ Some implied → value_at consts thing ≡ Some (NumberValue n) → InRange n → next ≡ n

    one_number : (implied : Origin) (next : ℤ) (thing : ℕ) (n : ℤ) → IsImplied implied next thing → (value : Option Value)
        → slice_get consts.origins thing ≡ Some (origin_or implied origin value) → value_at consts thing ≡ Some (NumberValue n) → InRange n
        → number_at scope next value ≡ n
    one_number implied next thing n implies None e is range = implies n e is range
    one_number implied next thing n implies (Some value) e is range =
        ap (λ (o : Option Known). option_map_or (whole_or next) o next) (known_back value thing (NumberValue n) e is) ∙ held_same n range

    -- where the values of enumerators come from, the first of which has this origin where no value is written
    abbrev pub origins_with : Origin → List Enumerator → List Origin
    origins_with implied [] = []
    origins_with implied (e ∷ es) = origin_or implied origin e.value ∷ map (λ (e : Enumerator). origin_or Next origin e.value) es

    then_next : (es : List Enumerator) → origins_with Next es ≡ map (λ (e : Enumerator). origin_or Next origin e.value) es
    then_next [] = refl
    then_next (e ∷ es) = refl

    -- the number of an enumerator is the one that it means
    pub numbers_are : (inside : Option (List ℕ)) (implied : Origin) (next : ℤ) (first : ℕ) (es : List Enumerator)
        → ((i : ℕ) (o : Origin) → slice_get (origins_with implied es) i ≡ Some o → slice_get consts.origins (first + i) ≡ Some o)
        → IsImplied implied next first → numbered (refused_enumerator site inside) first es ≡ [] → (j : ℕ) (n : ℤ)
        → value_at consts (first + j) ≡ Some (NumberValue n) → j < length es
        → (v : Valued) × (slice_get (valued_from scope next es) j ≡ Some v) × (v.number ≡ n)
    numbers_are inside implied next first [] from implies none j n is lt = let bad : ⊥ = omega (arith, lt) in absurd bad
    numbers_are inside implied next first (e ∷ es) from implies none zero n is lt =
        let at : first + 0 ≡ first = omega arith in
        let quiet = (both_empty (refused_enumerator site inside first e) _ none).0 in
        let value : value_at consts first ≡ Some (NumberValue n) = ap (value_at consts) (sym at) ∙ is in
        let here : slice_get consts.origins first ≡ Some (origin_or implied origin e.value) =
        ap (slice_get consts.origins) (sym at) ∙ from zero (origin_or implied origin e.value) refl in
        (_, refl, one_number implied next first n implies e.value here value (in_quiet inside first e n quiet value))
    numbers_are inside implied next first (e ∷ es) from implies none (suc j) n is lt =
        numbers_are inside Next (held_signed (number_at scope next e.value +ℤ pos 1)) (first + 1) es later implied_next parts.1 j n
        (ap (value_at consts) further ∙ is) (omega (arith, lt))
      where
        parts : (refused_enumerator site inside first e ≡ []) × (numbered (refused_enumerator site inside) (first + 1) es ≡ [])
        parts = both_empty (refused_enumerator site inside first e) (numbered (refused_enumerator site inside) (first + 1) es) none

        further : first + 1 + j ≡ first + suc j
        further = omega arith

        start : first + 0 ≡ first
        start = omega arith

        here : slice_get consts.origins first ≡ Some (origin_or implied origin e.value)
        here = ap (slice_get consts.origins) (sym start) ∙ from zero (origin_or implied origin e.value) refl

        later : (i : ℕ) (o : Origin) → slice_get (origins_with Next es) i ≡ Some o → slice_get consts.origins (first + 1 + i) ≡ Some o
        later i o e =
            let at : first + 1 + i ≡ first + suc i = omega arith in
            ap (slice_get consts.origins) at ∙ from (suc i) o (ap (λ (os : List Origin). slice_get os i) (sym (then_next es)) ∙ e)

        implied_next : IsImplied Next (held_signed (number_at scope next e.value +ℤ pos 1)) (first + 1)
        implied_next m at value range =
            let before = next_back first m at value in
            let own = one_number implied next first before.0 implies e.value here before.1 (in_quiet inside first e before.0 parts.0 before.1) in
            ap (λ (z : ℤ). held_signed (z +ℤ pos 1)) own ∙ (ap held_signed (sym before.2) ∙ held_same m range)

    -- the first enumerator is 0, where no value is written
    pub zero_implied : (thing : ℕ) → IsImplied (Written (literals.Number false 0)) (pos 0) thing
    zero_implied thing n e is range =
        let zero_is : ◌≡◌ {A = Option Known} (Some (NumberValue (pos 0))) (Some (NumberValue n)) = sym (written_is thing (literals.Number false 0) e) ∙ is in
        cc
