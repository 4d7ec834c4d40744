-- The laws of numbers of a list: those of an enum's members, and tags.
use Rattle.std.proofs.Common.{◌≡◌, ℕ, ℤ, suc, ◌-◌, ◌^◌, ◌≤◌, ◌<◌, List, [], ◌∷◌, Option, Some, None, map, Bool, true, false, cond, ◌==◌}
use Rattle.std.proofs.Common.{inl, inr, refl, ap, ◌∙◌, arith}
use Rattle.std.specs.Prelude.{pos, negsuc, decimal, filter}
use lib.Signed.{mag}
use Rattle.std.specs.Fmt.{signed_decimal}
use Rattle.std.specs.List.{list_all}
use Rattle.std.proofs.lemmas.Bool.Decides.{nat_tests}
use Rattle.std.proofs.lemmas.Fmt.{decimal_injective, signed_decimal_injective, digits_decimal}
use Rattle.mj_schema.specs.declared.rows.EnumRow.{EnumRow}
use Rattle.mj_schema.specs.declared.rows.MemberRow.{MemberRow}
use Rattle.byte_rules.specs.Among.{IsAmong}
use Rattle.byte_rules.proofs.Among.{AreApart, good_among}
use Rattle.byte_rules.proofs.Good.{Good, Apart, with_starts, good_value, good_before, good_choice}
use Rattle.value_text.specs.Numbers.{is_digit, minus, integer, index, is_int32, is_uint32, enum_number, number_of, tag_of}
use Rattle.value_text.proofs.NumberLaws.{own, numeral, good_number}

-- what is kept passes the test
kept : {A : Type 0} (p : A → Bool) (x : A) (xs : List A) → IsAmong x (filter p xs) → p x ≡ true
kept {A} p x [] i = absurd i
kept {A} p x (y ∷ ys) i = of (λ j. kept p x ys j) (p y) refl i
  where
    of : (IsAmong x (filter p ys) → p x ≡ true) → (v : Bool) → p y ≡ v → IsAmong x (cond v (y ∷ filter p ys) (filter p ys)) → p x ≡ true
    of later true e (inl same) = ap p same ∙ e
    of later true e (inr i) = later i
    of later false e i = later i

-- what a number begins with
abbrev pub number_starts : ℕ → Bool
number_starts = with_starts (λ b. b == 45) is_digit

digit_starts : (b : ℕ) → is_digit b ≡ true → number_starts b ≡ true
digit_starts b e = grind (arith, nat_tests)

-- a word of a number: its first byte, and digits
abbrev IsNumber : (ℕ → Bool) → List ℕ → Type 0
IsNumber S w = (b : ℕ) × (bs : List ℕ) × (w ≡ b ∷ bs) × (S b ≡ true) × (list_all is_digit bs ≡ true)

first_natural : (n : ℕ) → n < 2 ^ 64 → IsNumber is_digit (decimal n)
first_natural n small = let k = numeral n small in (k.first, k.others, k.is, k.digit, k.rest)

first_integer : (z : ℤ) → is_int32 z ≡ true → IsNumber number_starts (signed_decimal z)
first_integer (pos n) e =
    let small : n < 2 ^ 31 = grind (arith, nat_tests) in
    let k = first_natural n (omega (arith, small)) in
    (k.0, k.1, k.2, digit_starts k.0 k.3, k.4)
first_integer (negsuc n) e =
    let small : n < 2 ^ 31 = grind (arith, nat_tests) in
    (45, decimal (suc n), refl, refl, digits_decimal own (suc n) (omega (arith, small)))

small_magnitude : (z : ℤ) → is_int32 z ≡ true → mag z < 2 ^ 63
small_magnitude (pos n) e = let small : n < 2 ^ 31 = grind (arith, nat_tests) in omega (arith, small)
small_magnitude (negsuc n) e = let small : n < 2 ^ 31 = grind (arith, nat_tests) in omega (arith, small)

apart_integers : (zs : List ℤ) → AreApart number_starts is_digit signed_decimal (filter is_int32 zs)
apart_integers zs = record {
  one = λ x y i j e. signed_decimal_injective x y (small_magnitude x (kept is_int32 x zs i)) (small_magnitude y (kept is_int32 y zs j)) e;
  first = λ x i. first_integer x (kept is_int32 x zs i);
}

small_tag : (n : ℕ) → is_uint32 n ≡ true → n < 2 ^ 64
small_tag n e = let small : n < 2 ^ 32 = grind (arith, nat_tests) in omega (arith, small)

apart_tags : (ns : List ℕ) → AreApart is_digit is_digit decimal (filter is_uint32 ns)
apart_tags ns = record {
  one = λ x y i j e. decimal_injective x y (small_tag x (kept is_uint32 x ns i)) (small_tag y (kept is_uint32 y ns j)) e;
  first = λ x i. first_natural x (small_tag x (kept is_uint32 x ns i));
}

apart_minus : Apart is_digit (λ b. b == 45)
apart_minus b e = grind (arith, nat_tests)

pub good_integer : (low high : ℕ) → 1 ≤ low → low < 2 ^ 64 → high < 2 ^ 64 → Good number_starts is_digit (integer low high)
good_integer low high some l h =
    good_choice (good_before 45 (good_value minus (good_number 1 low (omega arith) some l)))
    (good_value pos (good_number 0 high (omega arith) (omega arith) h)) apart_minus

pub good_index : Good is_digit is_digit index
good_index = good_number 0 (2 ^ 32 - 1) (omega arith) (omega arith) (omega arith)

pub good_enum : (extensible : Bool) (zs : List ℤ) → Good number_starts is_digit (enum_number extensible (filter is_int32 zs))
good_enum true zs = good_integer (2 ^ 31) (2 ^ 31 - 1) (omega arith) (omega arith) (omega arith)
good_enum false zs = good_among number_starts is_digit (pos 0) signed_decimal (filter is_int32 zs) (apart_integers zs)

pub good_number_of : (row : Option EnumRow) → Good number_starts is_digit (number_of row)
good_number_of None = good_integer (2 ^ 31) (2 ^ 31 - 1) (omega arith) (omega arith) (omega arith)
good_number_of (Some row) = good_enum row.extensible (map (λ (member : MemberRow). member.number) row.members)

pub good_tag : (extensible : Bool) (ns : List ℕ) → Good is_digit is_digit (tag_of extensible (filter is_uint32 ns))
good_tag true ns = good_index
good_tag false ns = good_among is_digit is_digit 0 decimal (filter is_uint32 ns) (apart_tags ns)
