-- The pairs that are reached, and their rows.
use Rattle.std.specs.Prelude.{◌≡◌, ℕ, Some, slice_get}
use Rattle.mj_schema.specs.declared.rows.EnumRow.{EnumRow}
use Rattle.mj_schema.specs.declared.rows.InterfaceRow.{InterfaceRow}
use Rattle.mj_schema.specs.declared.rows.StructRow.{StructRow}
use Rattle.mj_schema.specs.declared.rows.UnionRow.{UnionRow}
use Rattle.mj_schema.specs.declared.schema.Schema.{Schema}
use Rattle.wire_laws.specs.Carried as wire
use Rattle.compat_model.specs.declared.pair.Pair.{Pair}
use Rattle.compat_model.specs.declared.pair.Pair.TheVariants.{Structs, Unions, Enums, Interfaces}
use Rattle.compat_model.specs.steps.Among.{IsAmong}
use Rattle.compat_model.specs.Verdicts.{reached}

-- what holds of pairs, by the pairs of which the law of messages speaks
abbrev pub carried : (Pair → Type 0) → wire.Pair → Type 0
carried P (wire.Structs i j) = P (Structs i j)
carried P (wire.Unions i j) = P (Unions i j)
carried P (wire.Enums i j) = P (Enums i j)

-- some number of steps leads to the pair
abbrev pub Reached : Schema → Schema → Pair → Type 0
Reached old new p = (n : ℕ) × IsAmong (reached old new n) p

-- both schemas have the pair's rows
abbrev pub BothThere : Schema → Schema → Pair → Type 0
BothThere old new (Structs i j) = ((row : StructRow) × (slice_get old.structs i ≡ Some row)) × ((row : StructRow) × (slice_get new.structs j ≡ Some row))
BothThere old new (Unions i j) = ((row : UnionRow) × (slice_get old.unions i ≡ Some row)) × ((row : UnionRow) × (slice_get new.unions j ≡ Some row))
BothThere old new (Enums i j) = ((row : EnumRow) × (slice_get old.enums i ≡ Some row)) × ((row : EnumRow) × (slice_get new.enums j ≡ Some row))
BothThere old new (Interfaces i j) =
    ((row : InterfaceRow) × (slice_get old.interfaces i ≡ Some row)) × ((row : InterfaceRow) × (slice_get new.interfaces j ≡ Some row))
