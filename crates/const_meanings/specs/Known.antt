-- What values are: those of literals, and of so much more than they are.
use Rattle.std.specs.Prelude.{ℕ, zero, suc, ℤ, pos, ◌+ℤ◌, neg_ℤ, Bool, if◌then◌else◌, List, Option, Some, None}
use Rattle.const_meanings.specs.declared.literal.Literal.{Literal}
use Rattle.const_meanings.specs.declared.literal.Literal.TheVariants as literals
use Rattle.const_meanings.specs.declared.known.KnownView.{KnownView}
use Rattle.const_meanings.specs.declared.known.KnownView.TheVariants as views

-- what a value is: the bytes of a string, a bool, a number, or that of a constant of float or double
pub data Known : Type 0 where
  TextValue : List ℕ → Known
  BoolValue : Bool → Known
  NumberValue : ℤ → Known
  FloatValue : Known

-- what the code hands out, as contracts see it
abbrev pub known_view : KnownView → Known
known_view (views.Text bytes) = TextValue bytes.now
known_view (views.Bool value) = BoolValue value
known_view (views.Number value) = NumberValue value
known_view views.Float = FloatValue

-- the number of a sign and a magnitude
abbrev pub signed : Bool → ℕ → ℤ
signed negative magnitude = if negative then neg_ℤ (pos magnitude) else pos magnitude

-- the number of a sign and a magnitude, and so much more
abbrev pub number_of : Bool → ℕ → ℕ → ℤ
number_of negative magnitude more = signed negative magnitude +ℤ pos more

-- a value alone: nothing is the number after what is no number
abbrev pub alone : Known → ℕ → Option Known
alone value zero = Some value
alone value (suc more) = None

-- what so much more than a literal is
abbrev pub known_with : Literal → ℕ → Option Known
known_with (literals.Number negative magnitude) more = Some (NumberValue (number_of negative magnitude more))
known_with (literals.Text bytes) more = alone (TextValue bytes) more
known_with (literals.Bool value) more = alone (BoolValue value) more
known_with literals.Float more = alone FloatValue more
