-- Which literals fit which kinds.
use Rattle.std.specs.Prelude.{◌≡◌, Bool, true, false, Option, Some, None}
use Rattle.mj_schema.specs.KindTrees.{KindTree}
use Rattle.mj_schema.specs.KindTrees as kinds
use Rattle.mj_schema.specs.Sizes.{bits_of}
use Rattle.mj_schema.specs.Sound.{in_bits}
use Rattle.mj_schema.specs.declared.rows.Literal.{Literal}
use Rattle.mj_schema.specs.declared.rows.Literal.TheVariants as literals

-- a literal of a basic kind: a bool, a number of so many bits, or a text
abbrev pub Fits : KindTree → Literal → Type 0
Fits (kinds.BoolKind nullable) (literals.Bool value) = Unit {0}
Fits (kinds.IntKind width signed nullable) (literals.Whole number) = in_bits signed (bits_of width) number ≡ true
Fits (kinds.TextKind nullable) (literals.Text bytes) = Unit {0}
Fits _ _ = ⊥

-- a bool, an integer or a text
abbrev pub is_basic : KindTree → Bool
is_basic (kinds.BoolKind nullable) = true
is_basic (kinds.IntKind width signed nullable) = true
is_basic (kinds.TextKind nullable) = true
is_basic _ = false

-- a default, where there is one, fits its kind
abbrev pub FitsDefault : KindTree → Option Literal → Type 0
FitsDefault kind None = Unit {0}
FitsDefault kind (Some literal) = Fits kind literal
