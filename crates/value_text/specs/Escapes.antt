-- How the bytes of a text stand between its quotes.
use Rattle.std.specs.Prelude.{ℕ, ◌+◌, ◌/◌, ◌%◌, ◌==◌, ◌++◌, nat_lt, if◌then◌else◌, List, [], ◌∷◌}
use Rattle.std.specs.List.{flat_map}
use Rattle.value_text.specs.Signs.{quote, backslash, letter_x}

-- the hexadecimal digit of a number below 16, in lower case
abbrev pub hex_digit : ℕ → ℕ
hex_digit d = if nat_lt d 10 then 48 + d else 87 + d

-- a quote, a backslash and the bytes below 32 are escaped
unfoldable pub escaped : ℕ → List ℕ
escaped b = if b == quote then backslash ∷ quote ∷ [] else
    (if b == backslash then backslash ∷ backslash ∷ [] else
    (if nat_lt b 32 then backslash ∷ letter_x ∷ (48 + b / 16) ∷ hex_digit (b % 16) ∷ [] else b ∷ []))

-- the text of these bytes, with its quotes
abbrev pub quoted : List ℕ → List ℕ
quoted bytes = quote ∷ (flat_map escaped bytes ++ quote ∷ [])
