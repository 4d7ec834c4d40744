-- A target that is found by names is one of the schema.
use Rattle.std.proofs.Common.{◌≡◌, ◌∙◌, ℕ, List, refl, ap}
use Rattle.std.specs.Prelude.{Option, Some, None, IfSome, is_some, option_and_then}
use Rattle.std.specs.Option.{option_map}
use Rattle.mj_schema.specs.Lookups.{method_called}
use Rattle.mj_schema.specs.declared.rows.MethodRow.{MethodRow}
use Rattle.mj_schema.specs.declared.schema.Schema.{Schema}
use Rattle.mj_schema.proofs.NamedMethods.{named_method}
use Rattle.wire_model.specs.Expected.{struct_of}
use Rattle.wire_model.specs.declared.target.MessageSide.{MessageSide}
use Rattle.wire_encoder.specs.Prepared.{HasTarget}
use Rattle.wire_encoder.specs.Targets.{target_at, target_of}

pub there : (schema : Schema) (number : ℕ) (name : List ℕ) (side : MessageSide) (method : MethodRow)
    → method_called schema.interfaces number name ≡ Some method → IfSome (target_of number side method) (HasTarget schema)
there schema number name side method found = go (struct_of side method) refl
  where
    go : (o : Option ℕ) → struct_of side method ≡ o
        → IfSome (option_map (λ (n : ℕ). target_at number method.ordinal side) o) (HasTarget schema)
    go None is = tt
    go (Some n) is =
        ap (λ (m : Option MethodRow). is_some (option_and_then (struct_of side) m)) (named_method schema number name method found) ∙ ap is_some is
