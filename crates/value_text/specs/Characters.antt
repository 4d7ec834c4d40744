-- What stands between the quotes of a text: characters in UTF-8, some of them escaped.
use Rattle.std.specs.Prelude.{ℕ, ◌+◌, ◌-◌, ◌*◌, ◌==◌, ◌&&◌, ◌||◌, not, nat_le, if◌then◌else◌, Bool, List, [], ◌∷◌}
use Rattle.std.specs.List.{flat_map}
use Rattle.byte_rules.specs.Lang.{Lang, byte_in, choice, as_value, closed, ◌then◌, ◌▸◌, many}
use Rattle.value_text.specs.Signs.{quote, backslash, letter_x}
use Rattle.value_text.specs.Numbers.{is_digit}

-- a hexadecimal digit, in lower case
abbrev pub is_hex : ℕ → Bool
is_hex b = is_digit b || (nat_le 97 b && nat_le b 102)

-- the number that a hexadecimal digit stands for
abbrev pub hex_value : ℕ → ℕ
hex_value b = if nat_le b 57 then b - 48 else b - 87

-- two hexadecimal digits of a number below 32
abbrev pub low_pair : Lang (List ℕ)
low_pair = byte_in (λ b. nat_le 48 b && nat_le b 49) then λ a. as_value (λ b. (16 * (a - 48) + hex_value b) ∷ []) (byte_in is_hex)

-- behind a backslash
unfoldable pub escape : Lang (List ℕ)
escape = choice (λ b. b == quote) (closed quote (quote ∷ [])) (choice (λ b. b == backslash) (closed backslash (backslash ∷ [])) (letter_x ▸ low_pair))

-- a byte that stands for itself
abbrev pub is_plain : ℕ → Bool
is_plain b = nat_le 32 b && nat_le b 127 && not (b == quote) && not (b == backslash)

-- what begins a character of two bytes
abbrev pub leads_two : ℕ → Bool
leads_two b = nat_le 194 b && nat_le b 223

-- what begins a character of three bytes
abbrev pub leads_three : ℕ → Bool
leads_three b = nat_le 224 b && nat_le b 239

-- what begins a character of four bytes
abbrev pub leads_four : ℕ → Bool
leads_four b = nat_le 240 b && nat_le b 244

-- a byte that goes on with a character
abbrev pub goes_on : ℕ → Bool
goes_on b = nat_le 128 b && nat_le b 191

-- the byte behind a first byte: no longer form than needed, no surrogate, nothing above U+10FFFF
abbrev pub second_of : ℕ → ℕ → Bool
second_of a b = nat_le (if a == 224 then 160 else (if a == 240 then 144 else 128)) b && nat_le b (if a == 237 then 159 else (if a == 244 then 143 else 191))

-- a character of two bytes
unfoldable pub two_bytes : Lang (List ℕ)
two_bytes = byte_in leads_two then λ a. as_value (λ b. a ∷ b ∷ []) (byte_in goes_on)

-- a character of three bytes
unfoldable pub three_bytes : Lang (List ℕ)
three_bytes = byte_in leads_three then λ a. byte_in (second_of a) then λ b. as_value (λ c. a ∷ b ∷ c ∷ []) (byte_in goes_on)

-- a character of four bytes
unfoldable pub four_bytes : Lang (List ℕ)
four_bytes = byte_in leads_four then λ a. byte_in (second_of a) then λ b. byte_in goes_on then λ c. as_value (λ d. a ∷ b ∷ c ∷ d ∷ []) (byte_in goes_on)

-- the bytes that a character of a text stands for
unfoldable pub character : Lang (List ℕ)
character = choice (λ b. b == backslash) (backslash ▸ escape)
    (choice is_plain (as_value (λ b. b ∷ []) (byte_in is_plain)) (choice leads_two two_bytes (choice leads_three three_bytes four_bytes)))

-- the bytes of some characters, one behind the other
abbrev pub all_of : List (List ℕ) → List ℕ
all_of cs = flat_map (λ c. c) cs

-- a text between quotes
unfoldable pub text : Lang (List ℕ)
text = quote ▸ as_value all_of (many quote character)
