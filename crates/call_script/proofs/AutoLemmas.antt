-- The value of an automatic reply.
use Rattle.std.proofs.Common.{◌≡◌, ◌<◌, ℕ, zero, suc, List, arith, refl, sym, ◌∙◌, ap, subst, Ok, Err, inl}
use Rattle.std.specs.Prelude.{◌⊎◌, ◌==◌, length, true, false, Option, Some, None, option_and_then}
use Rattle.std.specs.Option.{option_map}
use Rattle.mj_schema.specs.Lookups.{interface_named}
use Rattle.mj_schema.specs.declared.rows.MethodRow.{MethodRow}
use Rattle.mj_schema.specs.declared.schema.Schema.{Schema}
use Rattle.wire_model.specs.declared.target.MessageSide.{MessageSide}
use Rattle.wire_model.specs.declared.target.MessageSide.TheVariants.{Response}
use Rattle.wire_model.specs.declared.target.Target.{Target}
use Rattle.wire_encoder.specs.Prepared.{parameters_of}
use Rattle.wire_encoder.specs.declared.prepared.Prepared.{Prepared}
use Rattle.call_script.specs.declared.commands.Stop.{Stop}
use Rattle.call_script.specs.declared.commands.Stop.TheVariants as stops
use Rattle.call_script.specs.declared.script_error.LineRefusal.TheVariants.{BadLine, DoubleName, UnknownName, BadValue, TooManyLines}
use Rattle.script_forms.specs.Forms.{Auto}
use Rattle.call_script.specs.Script.{knows, IsNoBareValue, HasNoValue}
use Rattle.call_script.specs.Targets.{methods_of, method_named, target_in, target_between, target_named, split_word, message_named}
use Rattle.call_script.specs.steps.Commands.{Values, Replies}
use Rattle.call_script.proofs.OneValue.{one_found, wants_some}

module _ (schema : Schema) (seq : ℕ) (method word : List ℕ) (target : Target) (number : ℕ)
    (found : message_named schema Response method ≡ Some (target, number)) where
  -- a word that is no value of what was found
  no_value : IsNoBareValue schema target number word → HasNoValue schema (Auto seq method word)
  no_value none target' number' found' =
      let same = one_found target target' number number' (sym found ∙ found') in
      subst (λ t. IsNoBareValue schema t number' word) same.0 (subst (λ (n : ℕ). IsNoBareValue schema target n word) same.1 none)

  -- the method is there
  knows_it : (names : List (List ℕ)) → knows schema names (Auto seq method word) ≡ true
  knows_it names = rw found refl

  -- its value isn't prepared
  pub not_prepared : (stop : Stop) → Values schema target number word (Err stop) → Replies schema (Auto seq method word) (Err stop)
  not_prepared (stops.Refused BadValue) none names = (knows_it names, no_value (λ tree spells. inl (none tree spells)))
  not_prepared (stops.Refused BadLine) none names = absurd none
  not_prepared (stops.Refused DoubleName) none names = absurd none
  not_prepared (stops.Refused UnknownName) none names = absurd none
  not_prepared (stops.Refused TooManyLines) none names = absurd none
  not_prepared stops.Memory none names = tt

  -- it is to carry handles, or endpoints
  pub carries : (prepared : Prepared) → Values schema target number word (Ok prepared)
      → (0 < prepared.handles) ⊎ (0 < length prepared.endpoints.items) → Replies schema (Auto seq method word) (Err (stops.Refused BadValue))
  carries prepared value wants names = (knows_it names, no_value (wants_some schema target number word prepared value.0 value.1 wants))

-- a list that isn't empty has items
pub some_there : (n : ℕ) → (n == 0) ≡ false → 0 < n
some_there zero e = absurd cc
some_there (suc n) e = omega arith

-- what a word names is of the side that is asked for
abbrev OfSide : MessageSide → Option Target → Type 0
OfSide side None = Unit {0}
OfSide side (Some target) = target.side ≡ side

module _ (schema : Schema) (side : MessageSide) where
  in_side : (name : List ℕ) (interface : ℕ) → OfSide side (target_in schema side name interface)
  in_side name interface = go (method_named (methods_of schema interface) name)
    where
      go : (found : Option MethodRow)
          → OfSide side (option_map (λ (method : MethodRow). record { interface = interface; method = method.ordinal; side = side }) found)
      go None = tt
      go (Some row) = refl

  between_side : (parts : List ℕ × List ℕ) → OfSide side (target_between schema side parts)
  between_side (interface, method) = go (interface_named schema.interfaces interface)
    where
      go : (found : Option ℕ) → OfSide side (option_and_then (target_in schema side method) found)
      go None = tt
      go (Some number) = in_side method number

  named_side : (word : List ℕ) → OfSide side (target_named schema side word)
  named_side word = go (split_word word)
    where
      go : (found : Option (List ℕ × List ℕ)) → OfSide side (option_and_then (target_between schema side) found)
      go None = tt
      go (Some parts) = between_side parts

  pub message_side : (word : List ℕ) (target : Target) (number : ℕ) → message_named schema side word ≡ Some (target, number) → target.side ≡ side
  message_side word target number found = go (target_named schema side word) (named_side word) found
    where
      inner : (t : Target) (o : Option ℕ) → t.side ≡ side → option_map {U = Target × ℕ} (λ (number : ℕ). (t, number)) o ≡ Some (target, number)
          → target.side ≡ side
      inner t None is e = absurd cc
      inner t (Some n) is e = let same = one_found t target n number e in ap (λ (t : Target). t.side) (sym same.0) ∙ is

      go : (o : Option Target) → OfSide side o
          → option_and_then (λ (t : Target). option_map {U = Target × ℕ} (λ (number : ℕ). (t, number)) (parameters_of schema t)) o ≡ Some (target, number)
          → target.side ≡ side
      go None is e = absurd cc
      go (Some t) is e = inner t (parameters_of schema t) is e
