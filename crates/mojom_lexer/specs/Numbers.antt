-- Numbers and their values.
use Rattle.std.specs.Prelude.{ℕ, ◌+◌, ◌-◌, ◌*◌, ◌==◌, ◌&&◌, ◌||◌, if◌then◌else◌, Bool, false, List, [], ◌∷◌, drop, codes}
use Rattle.mojom_lexer.specs.Bytes.{byte_of, is_between, is_digit, is_hex_digit, is_run}

-- digits
abbrev pub is_decimal : List ℕ → Bool
is_decimal bytes = is_run is_digit bytes

-- `0x` or `0X`, and hexadecimal digits
abbrev pub is_hexadecimal : List ℕ → Bool
is_hexadecimal [] = false
is_hexadecimal (c ∷ []) = false
is_hexadecimal (c ∷ x ∷ cs) = c == byte_of (codes "0") && (x == byte_of (codes "x") || x == byte_of (codes "X")) && is_run is_hex_digit cs

-- a number, of either form
abbrev pub is_number : List ℕ → Bool
is_number bytes = is_decimal bytes || is_hexadecimal bytes

-- a 0 and then a digit, as no number may begin
abbrev pub has_leading_zero : List ℕ → Bool
has_leading_zero [] = false
has_leading_zero (c ∷ []) = false
has_leading_zero (c ∷ d ∷ cs) = c == byte_of (codes "0") && is_digit d

-- the value of a digit: of 0 to 9, of A to F and of a to f
abbrev pub digit_value : ℕ → ℕ
digit_value c =
    if is_digit c then c - byte_of (codes "0")
    else (if is_between (codes "A") (codes "F") c then 10 + (c - byte_of (codes "A"))
    else 10 + (c - byte_of (codes "a")))

-- the value of digits in a base, behind digits of the value `high`
abbrev pub value_from : ℕ → ℕ → List ℕ → ℕ
value_from base high [] = high
value_from base high (c ∷ cs) = value_from base (high * base + digit_value c) cs

-- what a number is worth
abbrev pub number_value : List ℕ → ℕ
number_value bytes = if is_hexadecimal bytes then value_from 16 0 (drop 2 bytes) else value_from 10 0 bytes
