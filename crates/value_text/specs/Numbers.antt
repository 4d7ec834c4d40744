-- Numbers: their words, and how one is read byte by byte.
use Rattle.std.specs.Prelude.{ℕ, ℤ, pos, negsuc, zero, suc, ◌+◌, ◌-◌, ◌*◌, ◌^◌, ◌≤◌, ◌==◌, ◌&&◌, nat_le, nat_lt, if◌then◌else◌, Bool, true, false}
use Rattle.std.specs.Prelude.{List, [], ◌∷◌, Option, Some, None, map, filter, length, decimal, Ok, Err}
use Rattle.std.specs.Fmt.{signed_decimal}
use Rattle.mj_schema.specs.Sizes.{bits_of}
use Rattle.mj_schema.specs.declared.kind.Width.{Width}
use Rattle.mj_schema.specs.declared.rows.EnumRow.{EnumRow}
use Rattle.mj_schema.specs.declared.rows.MemberRow.{MemberRow}
use Rattle.mj_schema.specs.declared.rows.UnionFieldRow.{UnionFieldRow}
use Rattle.byte_rules.specs.Lang.{Lang, Read, Words, words, choice, as_value, ◌▸◌}
use Rattle.byte_rules.specs.Among.{among}
use Rattle.value_text.specs.Signs.{dash}

-- a decimal digit
abbrev pub is_digit : ℕ → Bool
is_digit b = nat_le 48 b && nat_le b 57

-- how a number goes on behind digits of the value v: as long as it is at most `high`
abbrev pub scan_on : ℕ → ℕ → List ℕ → Read ℕ
scan_on high v [] = Ok (v, [])
scan_on high v (b ∷ bs) = if is_digit b && nat_le (v * 10 + (b - 48)) high then scan_on high (v * 10 + (b - 48)) bs else Ok (v, b ∷ bs)

-- how a number is read: a 0 stands alone
abbrev pub scan_number : ℕ → ℕ → List ℕ → Read ℕ
scan_number low high [] = Err 0
scan_number low high (b ∷ bs) =
    if b == 48 then (if low == 0 then Ok (0, bs) else Err (length (b ∷ bs)))
    else (if is_digit b && nat_le (b - 48) high then scan_on high (b - 48) bs else Err (length (b ∷ bs)))

-- the numbers from low, which is 0 or 1, to high: each in decimal
abbrev pub numbers : ℕ → ℕ → Words ℕ
numbers low high = record { In = λ n. (low ≤ n) × (n ≤ high); spelled = decimal; scan = scan_number low high }

-- a number from low to high
abbrev pub number : ℕ → ℕ → Lang ℕ
number low high = words (numbers low high)

-- the number below zero
abbrev pub minus : ℕ → ℤ
minus zero = pos 0
minus (suc n) = negsuc n

-- an integer from -low to high
abbrev pub integer : ℕ → ℕ → Lang ℤ
integer low high = choice (λ b. b == dash) (dash ▸ as_value minus (number 1 low)) (as_value pos (number 0 high))

-- an integer of so many bits
abbrev pub whole : Width → Bool → Lang ℤ
whole w true = integer (2 ^ (bits_of w - 1)) (2 ^ (bits_of w - 1) - 1)
whole w false = as_value pos (number 0 (2 ^ bits_of w - 1))

-- an index, a version or a tag
abbrev pub index : Lang ℕ
index = number 0 (2 ^ 32 - 1)

-- a number that an int32 can be
abbrev pub is_int32 : ℤ → Bool
is_int32 (pos n) = nat_lt n (2 ^ 31)
is_int32 (negsuc n) = nat_lt n (2 ^ 31)

-- a number that a uint32 can be
abbrev pub is_uint32 : ℕ → Bool
is_uint32 n = nat_lt n (2 ^ 32)

-- the numbers of an enum's members
abbrev pub members_numbers : List MemberRow → List ℤ
members_numbers members = filter is_int32 (map (λ (member : MemberRow). member.number) members)

-- any int32 where the enum is extensible, else the number of a member
abbrev pub enum_number : Bool → List ℤ → Lang ℤ
enum_number true numbers = integer (2 ^ 31) (2 ^ 31 - 1)
enum_number false numbers = among (pos 0) signed_decimal numbers

-- the number of a value of an enum; any int32 where there is no such enum
abbrev pub number_of : Option EnumRow → Lang ℤ
number_of None = integer (2 ^ 31) (2 ^ 31 - 1)
number_of (Some row) = enum_number row.extensible (members_numbers row.members)

-- the tags of a union's fields
abbrev pub fields_tags : List UnionFieldRow → List ℕ
fields_tags fields = filter is_uint32 (map (λ (field : UnionFieldRow). field.tag) fields)

-- any tag where the union is extensible, else that of a field
abbrev pub tag_of : Bool → List ℕ → Lang ℕ
tag_of true tags = index
tag_of false tags = among 0 decimal tags
