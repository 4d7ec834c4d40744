-- What names, and the words for interfaces, methods, endpoints and bytes, are written with.
use Rattle.std.specs.Prelude.{ℕ, ◌≡◌, ◌==◌, ◌++◌, ◌&&◌, ◌||◌, Bool, false, nat_le, List, [], ◌∷◌, length, codes, decimal}
use Rattle.std.specs.List.{list_all}
use Rattle.hex.specs.Hex.{encode_lower, IsBytes}
use Rattle.script_words.specs.Pieces.{pieces}

-- the first of the small letters
abbrev pub small_a : ℕ
small_a = 97

-- the last of the small letters
abbrev pub small_z : ℕ
small_z = 122

-- the first of the capital letters
abbrev pub capital_a : ℕ
capital_a = 65

-- the last of the capital letters
abbrev pub capital_z : ℕ
capital_z = 90

-- the first of the digits
abbrev pub digit_0 : ℕ
digit_0 = 48

-- the last of the digits
abbrev pub digit_9 : ℕ
digit_9 = 57

-- `_`, which stands among letters
abbrev pub underscore : ℕ
underscore = 95

-- `.`, between the identifiers of a word
abbrev pub dot : ℕ
dot = 46

-- one of a to z
abbrev pub is_small_letter : ℕ → Bool
is_small_letter c = nat_le small_a c && nat_le c small_z

-- one of 0 to 9
abbrev pub is_digit : ℕ → Bool
is_digit c = nat_le digit_0 c && nat_le c digit_9

-- what a name has behind its first letter: small letters, digits and _
abbrev pub is_name_byte : ℕ → Bool
is_name_byte c = is_small_letter c || (is_digit c || (c == underscore))

-- a name: a small letter and what may stand behind it, 32 bytes at most in all
abbrev pub is_name : List ℕ → Bool
is_name [] = false
is_name (c ∷ cs) = is_small_letter c && (list_all is_name_byte cs && nat_le (length cs) 31)

-- all of them are names
abbrev pub are_names : List (List ℕ) → Bool
are_names words = list_all is_name words

-- what an identifier begins with: a letter or _
abbrev pub is_first_letter : ℕ → Bool
is_first_letter c = is_small_letter c || ((nat_le capital_a c && nat_le c capital_z) || (c == underscore))

-- what an identifier has behind its first letter
abbrev pub is_letter : ℕ → Bool
is_letter c = is_first_letter c || is_digit c

-- an identifier
abbrev pub is_identifier : List ℕ → Bool
is_identifier [] = false
is_identifier (c ∷ cs) = is_first_letter c && list_all is_letter cs

-- the word of an interface: identifiers with dots between
abbrev pub is_interface_word : List ℕ → Bool
is_interface_word word = list_all is_identifier (pieces dot word)

-- the word of a method: two identifiers at least, with dots between
abbrev pub is_method_word : List ℕ → Bool
is_method_word word = is_interface_word word && nat_le 2 (length (pieces dot word))

-- an endpoint as `x#0`: the name of its end, and its id there
abbrev pub endpoint_word : List ℕ → ℕ → List ℕ
endpoint_word name id = name ++ (codes "#" ++ decimal id)

-- what is a sequence's own has the sequence before it, as `0:x`
abbrev pub own_word : ℕ → List ℕ → List ℕ
own_word seq word = decimal seq ++ (codes ":" ++ word)

-- bytes in hexadecimal, two digits each, and `-` for no bytes
abbrev pub hex_word : List ℕ → List ℕ
hex_word [] = codes "-"
hex_word (b ∷ bytes) = encode_lower (b ∷ bytes)

-- the word is that of these bytes
abbrev pub IsHexOf : List ℕ → List ℕ → Type 0
IsHexOf word bytes = IsBytes bytes × (word ≡ hex_word bytes)

-- the word is that of some bytes
abbrev pub IsHexWord : List ℕ → Type 0
IsHexWord word = (bytes : List ℕ) × IsHexOf word bytes
