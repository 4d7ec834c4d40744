-- The basic kinds: which types are basic, and which values they take.
use Rattle.std.specs.Prelude.{ℕ, ℤ, pos, neg_ℤ, int_le, ◌-◌, ◌^◌, ◌&&◌, Bool, List, [], ◌∷◌, not, Option, Some, None}
use Rattle.std.specs.Option.{option_map_or}
use Rattle.mojom_ast.specs.declared.names.Identifier.{Identifier}
use Rattle.mojom_ast.specs.TypeTrees.{BaseTree, Named}
use Rattle.mojom_files.specs.Basics.{basic_of}
use Rattle.mojom_files.specs.declared.basic.Basic.{Basic}
use Rattle.mojom_files.specs.declared.basic.Basic.TheVariants as basics
use Rattle.mojom_files.specs.Causes.{WrongLiteral, OutOfRange}
use Rattle.mojom_files.specs.declared.refusal.Refusal.{Refusal}
use Rattle.mojom_files.specs.Refusals.{where_true}
use Rattle.const_eval.specs.declared.kinds.Range.{Range}
use Rattle.const_meanings.specs.Known.{Known, TextValue, BoolValue, NumberValue}

-- the basic kind that a name of one part spells, where it is one
abbrev pub basic_of_parts : List Identifier → Option Basic
basic_of_parts (part ∷ []) = basic_of part.text
basic_of_parts _ = None

-- the basic kind of a type without `?`, where it is one
abbrev pub basic_of_base : BaseTree → Option Basic
basic_of_base (Named name) = basic_of_parts name.parts
basic_of_base _ = None

-- the numbers of so many bits with a sign
abbrev pub signed_bits : ℕ → Range
signed_bits bits = record { least = neg_ℤ (pos (2 ^ (bits - 1))); greatest = pos (2 ^ (bits - 1) - 1) }

-- the numbers of so many bits without a sign
abbrev pub unsigned_bits : ℕ → Range
unsigned_bits bits = record { least = pos 0; greatest = pos (2 ^ bits - 1) }

-- the numbers of an integer kind
abbrev pub range_of : Basic → Option Range
range_of basics.Int8 = Some (signed_bits 8)
range_of basics.Int16 = Some (signed_bits 16)
range_of basics.Int32 = Some (signed_bits 32)
range_of basics.Int64 = Some (signed_bits 64)
range_of basics.Uint8 = Some (unsigned_bits 8)
range_of basics.Uint16 = Some (unsigned_bits 16)
range_of basics.Uint32 = Some (unsigned_bits 32)
range_of basics.Uint64 = Some (unsigned_bits 64)
range_of _ = None

-- a number within a range
abbrev pub is_within : Range → ℤ → Bool
is_within range number = int_le range.least number && int_le number range.greatest

-- the refusal of a value that can't stand there, at the identifier of what it is for
abbrev pub wrong_literal : ℕ → Identifier → Refusal
wrong_literal file name = record { file = file; at = name.span.start; cause = WrongLiteral name.text }

-- the refusal of a number outside its kind, at its place
abbrev pub out_of_range : ℕ → ℕ → Basic → ℤ → Refusal
out_of_range file at kind number = record { file = file; at = at; cause = OutOfRange kind number }

-- what is refused of a number of a kind of this range
abbrev pub refused_outside : ℕ → ℕ → Basic → ℤ → Range → List Refusal
refused_outside file at kind number range = where_true (not (is_within range number)) (out_of_range file at kind number)

-- what is refused of an ordinal or a length, which are numbers of uint32
abbrev pub refused_uint32 : ℕ → ℕ → ℕ → List Refusal
refused_uint32 file at number = refused_outside file at basics.Uint32 (pos number) (unsigned_bits 32)

-- what is refused of a number as one of a basic kind, for what has this name
abbrev pub refused_number : ℕ → Identifier → ℕ → Basic → ℤ → List Refusal
refused_number file name at kind number =
    option_map_or (refused_outside file at kind number) (range_of kind) (wrong_literal file name ∷ [])

-- what is refused of a value of a basic kind: a kind takes values of its own sort alone
abbrev pub refused_value : ℕ → Identifier → ℕ → Basic → Known → List Refusal
refused_value file name at basics.Bool (BoolValue value) = []
refused_value file name at basics.Text (TextValue bytes) = []
refused_value file name at kind (NumberValue number) = refused_number file name at kind number
refused_value file name at kind value = wrong_literal file name ∷ []
