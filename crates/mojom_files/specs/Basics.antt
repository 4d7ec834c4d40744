-- The basic kinds and their names (Mojom IDL, "Primitive Types").
use Rattle.std.specs.Prelude.{ℕ, List, [], ◌∷◌, codes, find, Option}
use Rattle.std.specs.Str.{bytes_eq}
use Rattle.mojom_files.specs.declared.basic.Basic.{Basic}
use Rattle.mojom_files.specs.declared.basic.Basic.TheVariants.{Bool, Int8, Int16, Int32, Int64, Uint8, Uint16, Uint32, Uint64, Text, Float, Double}

-- the name of a basic kind
abbrev pub basic_name : Basic → List ℕ
basic_name Bool = codes "bool"
basic_name Int8 = codes "int8"
basic_name Int16 = codes "int16"
basic_name Int32 = codes "int32"
basic_name Int64 = codes "int64"
basic_name Uint8 = codes "uint8"
basic_name Uint16 = codes "uint16"
basic_name Uint32 = codes "uint32"
basic_name Uint64 = codes "uint64"
basic_name Text = codes "string"
basic_name Float = codes "float"
basic_name Double = codes "double"

-- all basic kinds
abbrev pub all_basics : List Basic
all_basics =
    Bool
    ∷ Int8
    ∷ Int16
    ∷ Int32
    ∷ Int64
    ∷ Uint8
    ∷ Uint16
    ∷ Uint32
    ∷ Uint64
    ∷ Text
    ∷ Float
    ∷ Double
    ∷ []

-- the basic kind of a name, where one has it
abbrev pub basic_of : List ℕ → Option Basic
basic_of name = find (λ basic. bytes_eq name (basic_name basic)) all_basics
