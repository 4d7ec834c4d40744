-- Bytes and what they may be in a file, as the lexical rules of the Mojom language say.
use Rattle.std.specs.Prelude.{ℕ, ◌==◌, ◌&&◌, ◌||◌, nat_le, not, Bool, false, List, [], ◌∷◌, codes}
use Rattle.std.specs.List.{list_all}

-- the byte of a text of one ASCII character
abbrev pub byte_of : List ℕ → ℕ
byte_of [] = 0
byte_of (c ∷ cs) = c

-- a tab, for which there is no character to be seen
abbrev pub tab : ℕ
tab = 9

-- LF, which ends a line
abbrev pub line_feed : ℕ
line_feed = 10

-- CR, which may stand before LF
abbrev pub carriage_return : ℕ
carriage_return = 13

-- what a string begins and ends with
abbrev pub quote : ℕ
quote = byte_of (codes "\"")

-- what lets the byte behind it stand in a string
abbrev pub backslash : ℕ
backslash = byte_of (codes "\\")

-- what a comment begins with
abbrev pub slash : ℕ
slash = byte_of (codes "/")

-- what stands behind the first slash of a comment of many lines, and before its last
abbrev pub asterisk : ℕ
asterisk = byte_of (codes "*")

-- whether a byte is one of a row of characters, by the first and the last
abbrev pub is_between : List ℕ → List ℕ → ℕ → Bool
is_between first last c = nat_le (byte_of first) c && nat_le c (byte_of last)

-- blank space: a space, a tab, CR and LF
abbrev pub is_blank : ℕ → Bool
is_blank c = c == byte_of (codes " ") || c == tab || c == carriage_return || c == line_feed

-- a decimal digit
abbrev pub is_digit : ℕ → Bool
is_digit c = is_between (codes "0") (codes "9") c

-- a hexadecimal digit, of either case
abbrev pub is_hex_digit : ℕ → Bool
is_hex_digit c = is_digit c || is_between (codes "a") (codes "f") c || is_between (codes "A") (codes "F") c

-- what a word begins with: an ASCII letter or _
abbrev pub is_letter : ℕ → Bool
is_letter c = is_between (codes "a") (codes "z") c || is_between (codes "A") (codes "Z") c || c == byte_of (codes "_")

-- what stands in a word: letters, digits and _
abbrev pub goes_on : ℕ → Bool
goes_on c = is_letter c || is_digit c

-- a line ends at LF alone
abbrev pub stays_on_line : ℕ → Bool
stays_on_line c = not (c == line_feed)

-- one byte or more, and each passes
abbrev pub is_run : (ℕ → Bool) → List ℕ → Bool
is_run p [] = false
is_run p (c ∷ cs) = p c && list_all p cs
