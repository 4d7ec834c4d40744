-- Kinds that hold no others.
use Rattle.std.specs.Prelude.{ℕ, Bool, false, List, Option}
use Rattle.mj_schema.specs.KindTrees as kinds
use Rattle.mj_schema.specs.KindTrees.{KindTree}
use Rattle.compat_model.specs.Kinds.{kinds_fit}

-- two kinds fit, the older of which holds no others
abbrev pub flat_fits : List (Option ℕ) → KindTree → KindTree → Bool
flat_fits namesakes (kinds.ArrayKind k c n) other = false
flat_fits namesakes (kinds.MapKind k v n) other = false
flat_fits namesakes kind other = kinds_fit namesakes kind other
