-- What is a sequence's own is told apart by the sequence before it.
use Rattle.std.proofs.Common.{◌≡◌, ◌<◌, ◌≤◌, ◌^◌, ℕ, List, [], ◌∷◌, ◌++◌, length, refl, sym, ap, ◌∙◌, true, false, arith, lit≤}
use Rattle.std.specs.Prelude.{Bool, not, ◌==◌, ◌&&◌, nat_le, decimal}
use Rattle.std.specs.List.{list_all}
use Rattle.std.specs.Char.{digit_value}
use Rattle.std.specs.Str.Parse.{AllDigits}
use Rattle.std.proofs.lemmas.Bool.Decides.{nat_tests}
use Rattle.std.proofs.lemmas.Fmt.{decimal_injective, decimal_is_IsNumeral}
use Rattle.script_words.specs.Letters.{is_name, is_name_byte, is_small_letter, own_word}
use Rattle.script_words.proofs.Splits.{lacks, and_true, both}

-- a colon is no digit
no_colon : (d : ℕ) → d ≡ 58 → digit_value d < 10 → ⊥
no_colon d is small =
    let same : digit_value d ≡ digit_value 58 = ap digit_value is in
    let big : 10 ≤ digit_value 58 = lit≤ tt in omega (arith, small, same, big)

-- so digits end at the first
cut : (ds es a b : List ℕ) → AllDigits 10 ds → AllDigits 10 es → ds ++ 58 ∷ a ≡ es ++ 58 ∷ b → (ds ≡ es) × (a ≡ b)
cut [] [] a b x y e = let rest : a ≡ b = cc in (refl, rest)
cut [] (d ∷ es) a b x y e = let first : d ≡ 58 = cc in absurd (no_colon d first y.0)
cut (d ∷ ds) [] a b x y e = let first : d ≡ 58 = cc in absurd (no_colon d first x.0)
cut (d ∷ ds) (c ∷ es) a b x y e =
    let first : d ≡ c = cc in
    let rest : ds ++ 58 ∷ a ≡ es ++ 58 ∷ b = cc in
    let more = cut ds es a b x.1 y.1 rest in
    let same : ds ≡ es = more.0 in
    let all : d ∷ ds ≡ c ∷ es = cc in (all, more.1)

pub own_one : (m n : ℕ) (a b : List ℕ) → m < 2 ^ 64 → n < 2 ^ 64 → own_word m a ≡ own_word n b → (m ≡ n) × (a ≡ b)
own_one m n a b few also e =
    let parts = cut (decimal m) (decimal n) a b (decimal_is_IsNumeral m few).0.1 (decimal_is_IsNumeral n also).0.1 e in
    (decimal_injective m n few also parts.0, parts.1)

-- nor has a name a colon
byte_unlike : (c : ℕ) → is_name_byte c ≡ true → not (c == 58) ≡ true
byte_unlike c h = go (c == 58) refl
  where
    go : (b : Bool) → (c == 58) ≡ b → not b ≡ true
    go false e = refl
    go true e =
        let f : c ≡ 58 = grind (arith, nat_tests) in
        let g : is_name_byte c ≡ false = ap is_name_byte f in absurd cc

bytes_lack : (cs : List ℕ) → list_all is_name_byte cs ≡ true → lacks 58 cs
bytes_lack [] h = refl
bytes_lack (c ∷ cs) h =
    let k = both (is_name_byte c) (list_all is_name_byte cs) h in
    and_true (not (c == 58)) (list_all (λ b. not (b == 58)) cs) (byte_unlike c k.0) (bytes_lack cs k.1)

letter_unlike : (c : ℕ) → is_small_letter c ≡ true → not (c == 58) ≡ true
letter_unlike c h = byte_unlike c (rw h refl)

name_lacks : (name : List ℕ) → is_name name ≡ true → lacks 58 name
name_lacks [] h = absurd cc
name_lacks (c ∷ cs) h =
    let k = both (is_small_letter c) (list_all is_name_byte cs && nat_le (length cs) 31) h in
    let l = both (list_all is_name_byte cs) (nat_le (length cs) 31) k.1 in
    and_true (not (c == 58)) (list_all (λ b. not (b == 58)) cs) (letter_unlike c k.0) (bytes_lack cs l.0)

has_colon : (ds a : List ℕ) → list_all (λ b. not (b == 58)) (ds ++ 58 ∷ a) ≡ false
has_colon [] a = refl
has_colon (d ∷ ds) a = go (not (d == 58)) (has_colon ds a)
  where
    go : (b : Bool) → list_all (λ b. not (b == 58)) (ds ++ 58 ∷ a) ≡ false → (b && list_all (λ b. not (b == 58)) (ds ++ 58 ∷ a)) ≡ false
    go true h = h
    go false h = refl

pub own_apart : (seq : ℕ) (name other : List ℕ) → is_name other ≡ true → own_word seq name ≡ other → ⊥
own_apart seq name other named e =
    let none : list_all (λ b. not (b == 58)) other ≡ false = ap (list_all (λ b. not (b == 58))) (sym e) ∙ has_colon (decimal seq) name in
    let all : list_all (λ b. not (b == 58)) other ≡ true = name_lacks other named in cc
