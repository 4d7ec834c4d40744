-- The texts of bytes in hexadecimal, both ways.
use Rattle.std.proofs.Common.{◌≡◌, ℕ, zero, suc, ◌+◌, ◌*◌, ◌/◌, ◌%◌, ◌<◌, ◌==◌, ◌&&◌, ◌||◌, ◌++◌, ◌∷◌, [], ◌⊎◌, inl, inr, List, Bool, true, false}
use Rattle.std.proofs.Common.{refl, sym, ap, ◌∙◌, subst, append_assoc, arith}
use Rattle.std.specs.Prelude.{not, nat_lt, slice_index}
use Rattle.std.specs.List.{flat_map}
use Rattle.std.proofs.lemmas.Bool.{eqb-true}
use Rattle.std.proofs.lemmas.Bool.Decides.{nat_tests}
use Rattle.hex.specs.Hex.{lower_digits, encode_with, encode_lower}
use Rattle.byte_rules.specs.Lang.{as_value, byte_in, closed, ◌then◌, ◌▸◌, many}
use Rattle.value_text.specs.Characters.{is_hex, hex_value}
use Rattle.value_text.proofs.NumberLaws.{both_left, both_right}
use Rattle.history_text.specs.History.{hex_text}
use Rattle.line_parts.specs.Signs.{dash}
use Rattle.line_parts.specs.Lists.{pair, hex}
use Rattle.line_parts.specs.Printable.{AreBytes}
use Rattle.line_parts.proofs.BothWays.{HasTexts, Is, texts_as, texts_byte, texts_closed, texts_before, texts_value, texts_follow, texts_choice, texts_fine}
use Rattle.line_parts.proofs.BothWays.{texts_many}

-- all numbers below a number pass
all_below : ℕ → (ℕ → Bool) → Bool
all_below zero test = true
all_below (suc n) test = test n && all_below n test

below : (n : ℕ) (test : ℕ → Bool) (d : ℕ) → all_below n test ≡ true → d < n → test d ≡ true
unfolding all_below
below zero test d h lt = absurd (omega (arith, lt))
below (suc n) test d h lt = of (d == n) refl (below n test d (both_right (test n) (all_below n test) h))
  where
    of : (v : Bool) → (d == n) ≡ v → (d < n → test d ≡ true) → test d ≡ true
    of true e rest = ap test (eqb-true d n e) ∙ both_left (test n) (all_below n test) h
    of false e rest = rest (grind (arith, nat_tests))

-- the digit of a number below 16
abbrev digit : ℕ → ℕ
digit d = slice_index lower_digits d

-- each digit is worth its place, and the digit of what one is worth is that one
abbrev is_own : ℕ → Bool
is_own d = is_hex (digit d) && (hex_value (digit d) == d)

-- a digit in hexadecimal is the one of its number
abbrev has_own : ℕ → Bool
has_own a = not (is_hex a) || ((digit (hex_value a) == a) && nat_lt (hex_value a) 16)

own_all : all_below 16 is_own ≡ true
unfolding all_below
own_all = refl

has_all : all_below 103 has_own ≡ true
unfolding all_below
has_all = refl

own_digit : (d : ℕ) → d < 16 → (is_hex (digit d) ≡ true) × (hex_value (digit d) ≡ d)
own_digit d lt =
    let k : is_own d ≡ true = below 16 is_own d own_all lt in (
      both_left (is_hex (digit d)) (hex_value (digit d) == d) k,
      eqb-true (hex_value (digit d)) d (both_right (is_hex (digit d)) (hex_value (digit d) == d) k),
    )

hex_small : (a : ℕ) → is_hex a ≡ true → a < 103
hex_small a h = grind (arith, nat_tests)

worth : (a : ℕ) → is_hex a ≡ true → (digit (hex_value a) ≡ a) × (hex_value a < 16)
worth a h =
    let k : has_own a ≡ true = below 103 has_own a has_all (hex_small a h) in
    let both : ((digit (hex_value a) == a) && nat_lt (hex_value a) 16)
    ≡ true = subst (λ (v : Bool). (not v || ((digit (hex_value a) == a) && nat_lt (hex_value a) 16)) ≡ true) h k in
    let small : nat_lt (hex_value a) 16 ≡ true = both_right (digit (hex_value a) == a) (nat_lt (hex_value a) 16) both in (
      eqb-true (digit (hex_value a)) a (both_left (digit (hex_value a) == a) (nat_lt (hex_value a) 16) both),
      grind (arith, nat_tests),
    )

-- a byte as two digits
abbrev two : ℕ → List ℕ
two b = digit (b / 16) ∷ digit (b % 16) ∷ []

-- the second digit of a byte
abbrev Low : ℕ → ℕ → Type 0
Low high b = (low : ℕ) × (is_hex low ≡ true) × (16 * hex_value high + hex_value low ≡ b)

texts_low : (high : ℕ) → HasTexts (Is (Low high) (λ (b : ℕ). digit (b % 16) ∷ [])) (as_value (λ low. 16 * hex_value high + hex_value low) (byte_in is_hex))
texts_low high = texts_value (λ low. 16 * hex_value high + hex_value low) (Low high) (λ (b : ℕ). digit (b % 16) ∷ []) (λ low h. (low, h, refl))
    (λ low h. let w = worth low h in let small = w.1 in
    let r : (16 * hex_value high + hex_value low) % 16 ≡ hex_value low = omega (arith, small) in
    ap (λ (d : ℕ). digit d ∷ []) r ∙ ap (λ (a : ℕ). a ∷ []) w.0) (λ b h. (h.0, h.1, h.2)) (texts_byte is_hex)

-- both digits of a byte
abbrev Both : ℕ → List ℕ → Type 0
Both b w = (high : ℕ) × (is_hex high ≡ true) × Low high b × (w ≡ high ∷ digit (b % 16) ∷ [])

pair_from : (b : ℕ) (w : List ℕ) → Both b w → Is (λ (b : ℕ). b < 256) two b w
pair_from b w h =
    let v = worth h.0 h.1 in
    let u = worth h.2.0 h.2.1 in
    let e = h.2.2 in
    let top : b / 16 ≡ hex_value h.0 = omega (arith, v.1, u.1, e) in
    (omega (arith, v.1, u.1, e), h.3 ∙ ap (λ (a : ℕ). a ∷ digit (b % 16) ∷ []) (sym v.0 ∙ ap digit (sym top)))

pair_to : (b : ℕ) (w : List ℕ) → Is (λ (b : ℕ). b < 256) two b w → Both b w
pair_to b w h =
    let small = h.0 in
    let high = own_digit (b / 16) (omega (arith, small)) in
    let low = own_digit (b % 16) (omega arith) in
    let sum : 16 * (b / 16) + b % 16 ≡ b = omega arith in (
      digit (b / 16),
      high.0,
      (
        digit (b % 16),
        low.0,
        ap (λ (k : ℕ). 16 * k + hex_value (digit (b % 16))) high.1 ∙ ap (λ (k : ℕ). 16 * (b / 16) + k) low.1
            ∙ sum,
      ),
      h.1,
    )

texts_pair : HasTexts (Is (λ (b : ℕ). b < 256) two) pair
unfolding pair
texts_pair = texts_as pair_from pair_to (texts_follow (texts_byte is_hex) (λ high k. texts_low high))

-- some bytes, and the byte that ends them
module _ (c : ℕ) where
  -- the text of all bytes but the first
  abbrev rest_of : List ℕ → List ℕ
  rest_of [] = []
  rest_of (b ∷ bs) = flat_map two bs ++ c ∷ []

  texts_rest : (b : ℕ) → HasTexts (Is (λ (bytes : List ℕ). (bs : List ℕ) × AreBytes bs × (b ∷ bs ≡ bytes)) rest_of) (as_value (λ bs. b ∷ bs) (many c pair))
  texts_rest b = texts_value (λ bs. b ∷ bs) (λ (bytes : List ℕ). (bs : List ℕ) × AreBytes bs × (b ∷ bs ≡ bytes)) rest_of (λ bs h. (bs, h, refl)) (λ bs h. refl)
      (λ bytes h. (h.0, h.1, h.2)) (texts_many c texts_pair)

  -- bytes of which there is one at least
  abbrev Some : List ℕ → Type 0
  Some [] = ⊥
  Some (b ∷ bs) = (b < 256) × AreBytes bs

  -- the text of bytes, and the byte that ends it
  abbrev body : List ℕ → List ℕ
  body bytes = hex_text bytes ++ c ∷ []

  pairs : (bs : List ℕ) → flat_map two bs ≡ encode_lower bs
  unfolding encode_with
  pairs [] = refl
  pairs (b ∷ bs) = ap (λ (l : List ℕ). digit (b / 16) ∷ digit (b % 16) ∷ l) (pairs bs)

  -- a first byte, and those behind it
  abbrev Begun : List ℕ → List ℕ → Type 0
  Begun bytes w = (b : ℕ) × (b < 256) × ((bs : List ℕ) × AreBytes bs × (b ∷ bs ≡ bytes)) × (w ≡ two b ++ rest_of bytes)

  some_text : (b : ℕ) (bs : List ℕ) → two b ++ (flat_map two bs ++ c ∷ []) ≡ body (b ∷ bs)
  some_text b bs = sym (append_assoc (two b) (flat_map two bs) (c ∷ [])) ∙ ap (λ (l : List ℕ). l ++ c ∷ []) (pairs (b ∷ bs))

  some_from : (bytes w : List ℕ) → Begun bytes w → Is Some body bytes w
  some_from bytes w h = subst (λ (l : List ℕ). Is Some body l w) h.2.2
      ((h.1, h.2.1), h.3 ∙ ap (λ (l : List ℕ). two h.0 ++ rest_of l) (sym h.2.2) ∙ some_text h.0 h.2.0)

  some_to : (bytes w : List ℕ) → Is Some body bytes w → Begun bytes w
  some_to [] w h = absurd h.0
  some_to (b ∷ bs) w h = (b, h.0.0, (bs, h.0.1, refl), h.1 ∙ sym (some_text b bs))

  texts_some : HasTexts (Is Some body) (pair then λ b. as_value (λ bs. b ∷ bs) (many c pair))
  texts_some = texts_as some_from some_to (texts_follow texts_pair (λ b k. texts_rest b))

  texts_none : HasTexts (Is (λ (bytes : List ℕ). bytes ≡ []) body) (dash ▸ closed c [])
  texts_none = texts_fine (λ bytes h. h) (λ bytes h. h) (λ bytes h. ap body (sym h)) (texts_before dash (texts_closed c []))

  all_of : (bytes : List ℕ) → (bytes ≡ []) ⊎ Some bytes → AreBytes bytes
  all_of [] h = tt
  all_of (b ∷ bs) (inl e) = absurd (cc)
  all_of (b ∷ bs) (inr h) = h

  of_all : (bytes : List ℕ) → AreBytes bytes → (bytes ≡ []) ⊎ Some bytes
  of_all [] h = inl refl
  of_all (b ∷ bs) h = inr h

  pub texts_hex : HasTexts (Is AreBytes (λ bytes. hex_text bytes ++ c ∷ [])) (hex c)
  unfolding hex
  texts_hex = texts_fine all_of of_all (λ bytes h. refl) (texts_choice _ texts_none texts_some)
