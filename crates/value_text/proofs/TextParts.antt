-- The text of a number and of a string is the one text of its value.
use Rattle.std.proofs.Common.{◌≡◌, ℕ, ℤ, zero, suc, ◌+◌, ◌-◌, ◌*◌, ◌/◌, ◌%◌, ◌^◌, ◌≤◌, ◌<◌, List, [], ◌∷◌, ◌++◌, Option, Some, None, Bool, true, false}
use Rattle.std.proofs.Common.{cond, ◌==◌, ◌&&◌, ◌⊎◌, inl, inr, refl, sym, ap, ◌∙◌, append_assoc, arith}
use Rattle.std.specs.Prelude.{pos, decimal, nat_le, nat_lt}
use Rattle.std.specs.List.{flat_map}
use Rattle.std.specs.Fmt.{signed_decimal}
use Rattle.std.proofs.lemmas.Bool.Decides.{nat_tests}
use Rattle.std.proofs.lemmas.Grind.{flat_map-append}
use Rattle.std.proofs.lemmas.List.{append-nil}
use Rattle.mj_schema.specs.declared.kind.Width.{Width}
use Rattle.mj_schema.specs.declared.rows.EnumRow.{EnumRow}
use Rattle.mj_schema.specs.Sizes.{bits_of}
use Rattle.byte_rules.specs.Lang.{Lang, byte_in, as_value, closed, choice, ◌then◌, ◌▸◌, many}
use Rattle.byte_rules.proofs.Parts.{Parts, AllOf, parts_byte, parts_value, parts_then, parts_choice, parts_words, parts_many, parts_wider, parts_closed}
use Rattle.byte_rules.proofs.Parts.{parts_before, parts_among}
use Rattle.value_text.specs.Numbers.{numbers, number, minus, integer, whole, index, enum_number, number_of, members_numbers, tag_of}
use Rattle.value_text.specs.Characters.{is_hex, hex_value, low_pair, escape, is_plain, leads_two, leads_three, leads_four, goes_on, second_of, two_bytes}
use Rattle.value_text.specs.Characters.{three_bytes, four_bytes, character, all_of, text}
use Rattle.value_text.specs.Escapes.{hex_digit, escaped, quoted}
use Rattle.value_text.proofs.NumberLaws.{both_left}
use Rattle.value_text.proofs.TextShows.{itself}

-- numbers
abbrev IsNumber : ℕ → ℕ → ℕ → List ℕ → Type 0
IsNumber low high x w = ((low ≤ x) × (x ≤ high)) × (w ≡ decimal x)

pub number_parts : (low high : ℕ) → Parts (λ x w. w ≡ decimal x) (number low high)
number_parts low high = parts_wider (IsNumber low high) (λ x w. w ≡ decimal x) (number low high) (λ x w k. k.1) (parts_words (numbers low high))

pub index_parts : Parts (λ x w. w ≡ decimal x) index
index_parts = number_parts 0 (2 ^ 32 - 1)

abbrev IsInteger : ℤ → List ℕ → Type 0
IsInteger z w = w ≡ signed_decimal z

minus_text : (x : ℕ) → 1 ≤ x → 45 ∷ decimal x ≡ signed_decimal (minus x)
minus_text zero h = absurd (omega (arith, h))
minus_text (suc n) h = refl

natural_parts : (high : ℕ) → Parts IsInteger (as_value pos (number 0 high))
natural_parts high =
    parts_wider (λ z w. (x : ℕ) × (w ≡ decimal x) × (pos x ≡ z)) IsInteger (as_value pos (number 0 high))
    (λ z w k. k.1 ∙ ap signed_decimal k.2) (parts_value (λ x w. w ≡ decimal x) pos (number 0 high) (number_parts 0 high))

negative_parts : (low : ℕ) → Parts IsInteger (45 ▸ as_value minus (number 1 low))
negative_parts low =
    parts_wider (λ z w. (v : List ℕ) × ((x : ℕ) × IsNumber 1 low x v × (minus x ≡ z)) × (w ≡ 45 ∷ v)) IsInteger (45 ▸ as_value minus (number 1 low))
    (λ z w k. k.2 ∙ ap (λ (l : List ℕ). 45 ∷ l) k.1.1.1 ∙ minus_text k.1.0 k.1.1.0.0 ∙ ap signed_decimal k.1.2)
    (parts_before (λ z v. (x : ℕ) × IsNumber 1 low x v × (minus x ≡ z)) 45 (as_value minus (number 1 low))
    (parts_value (IsNumber 1 low) minus (number 1 low) (parts_words (numbers 1 low))))

same_said : (z : ℤ) (w : List ℕ) → IsInteger z w ⊎ IsInteger z w → IsInteger z w
same_said z w (inl h) = h
same_said z w (inr h) = h

pub integer_parts : (low high : ℕ) → Parts IsInteger (integer low high)
integer_parts low high =
    parts_wider (λ z w. IsInteger z w ⊎ IsInteger z w) IsInteger (integer low high) same_said
    (parts_choice IsInteger IsInteger (λ b. b == 45) (45 ▸ as_value minus (number 1 low)) (as_value pos (number 0 high)) (negative_parts low)
    (natural_parts high))

pub whole_parts : (w : Width) (signed : Bool) → Parts IsInteger (whole w signed)
whole_parts w true = integer_parts (2 ^ (bits_of w - 1)) (2 ^ (bits_of w - 1) - 1)
whole_parts w false = natural_parts (2 ^ bits_of w - 1)

enum_parts : (extensible : Bool) (zs : List ℤ) → Parts IsInteger (enum_number extensible zs)
enum_parts true zs = integer_parts (2 ^ 31) (2 ^ 31 - 1)
enum_parts false zs = parts_among (pos 0) signed_decimal zs

pub number_of_parts : (row : Option EnumRow) → Parts IsInteger (number_of row)
number_of_parts None = integer_parts (2 ^ 31) (2 ^ 31 - 1)
number_of_parts (Some row) = enum_parts row.extensible (members_numbers row.members)

pub tag_parts : (extensible : Bool) (tags : List ℕ) → Parts (λ x w. w ≡ decimal x) (tag_of extensible tags)
tag_parts true tags = index_parts
tag_parts false tags = parts_among 0 decimal tags

-- characters
abbrev IsEscaped : List ℕ → List ℕ → Type 0
IsEscaped c w = w ≡ flat_map escaped c

abbrev IsByte : (ℕ → Bool) → ℕ → List ℕ → Type 0
IsByte p b w = (p b ≡ true) × (w ≡ b ∷ [])

hex_back : (b : ℕ) → is_hex b ≡ true → (hex_value b < 16) × (hex_digit (hex_value b) ≡ b)
hex_back b h = of (nat_le b 57) refl
  where
    of : (v : Bool) → nat_le b 57 ≡ v → (cond v (b - 48) (b - 87) < 16) × (hex_digit (cond v (b - 48) (b - 87)) ≡ b)
    of true e =
        let l : b ≤ 57 = grind (arith, nat_tests) in
        let m : 48 ≤ b = grind (arith, nat_tests) in
        let t : nat_lt (b - 48) 10 ≡ true = grind (arith, nat_tests) in
        (omega (arith, l, m), rw t (omega (arith, l, m)))
    of false e =
        let l : 97 ≤ b = grind (arith, nat_tests) in
        let m : b ≤ 102 = grind (arith, nat_tests) in
        let t : nat_lt (b - 87) 10 ≡ false = grind (arith, nat_tests) in
        (omega (arith, l, m), rw t (omega (arith, l, m)))

low_back : (a b : ℕ) → (nat_le 48 a && nat_le a 49) ≡ true → is_hex b ≡ true → escaped (16 * (a - 48) + hex_value b) ≡ 92 ∷ 120 ∷ a ∷ b ∷ []
unfolding escaped
low_back a b h k =
    let n = 16 * (a - 48) + hex_value b in
    let x = hex_back b k in
    let l : 48 ≤ a = grind (arith, nat_tests) in
    let m : a ≤ 49 = grind (arith, nat_tests) in
    let small : n < 32 = omega (arith, l, m, x.0) in
    let p : (n == 34) ≡ false = grind (arith, nat_tests) in
    let q : (n == 92) ≡ false = grind (arith, nat_tests) in
    let r : nat_lt n 32 ≡ true = grind (arith, nat_tests) in
    let s : 48 + n / 16 ≡ a = omega (arith, l, m, x.0) in
    let t : n % 16 ≡ hex_value b = omega (arith, l, m, x.0) in
    rw (p, q, r) (ap (λ (c : ℕ). 92 ∷ 120 ∷ c ∷ hex_digit (n % 16) ∷ []) s ∙ ap (λ (c : ℕ). 92 ∷ 120 ∷ a ∷ hex_digit c ∷ []) t
    ∙ ap (λ (c : ℕ). 92 ∷ 120 ∷ a ∷ c ∷ []) x.1)

plain_itself : (b : ℕ) → is_plain b ≡ true → escaped b ≡ b ∷ []
unfolding escaped
plain_itself b h =
    let p : (b == 34) ≡ false = grind (arith, nat_tests) in
    let q : (b == 92) ≡ false = grind (arith, nat_tests) in
    let r : nat_lt b 32 ≡ false = grind (arith, nat_tests) in
    rw (p, q, r) refl

-- a value of one byte
one_byte : (b : ℕ) (c w : List ℕ) → b ∷ [] ≡ c → escaped b ≡ w → w ≡ flat_map escaped c
one_byte b c w e f = sym f ∙ sym (append-nil (escaped b)) ∙ ap (flat_map escaped) e

pair_parts : Parts (λ c w. 92 ∷ 120 ∷ w ≡ flat_map escaped c) low_pair
pair_parts =
    parts_wider
    (λ c w. (a : ℕ) × (v : List ℕ) × (u : List ℕ) × IsByte (λ b. nat_le 48 b && nat_le b 49) a v
    × ((b : ℕ) × IsByte is_hex b u × ((16 * (a - 48) + hex_value b) ∷ [] ≡ c)) × (w ≡ v ++ u))
    (λ c w. 92 ∷ 120 ∷ w ≡ flat_map escaped c) low_pair of
    (parts_then (IsByte (λ b. nat_le 48 b && nat_le b 49)) (λ a c u. (b : ℕ) × IsByte is_hex b u × ((16 * (a - 48) + hex_value b) ∷ [] ≡ c))
    (byte_in (λ b. nat_le 48 b && nat_le b 49)) (λ a. as_value (λ b. (16 * (a - 48) + hex_value b) ∷ []) (byte_in is_hex))
    (parts_byte (λ b. nat_le 48 b && nat_le b 49))
    (λ a. parts_value (IsByte is_hex) (λ b. (16 * (a - 48) + hex_value b) ∷ []) (byte_in is_hex) (parts_byte is_hex)))
  where
    of : (c w : List ℕ) → (a : ℕ) × (v : List ℕ) × (u : List ℕ) × IsByte (λ b. nat_le 48 b && nat_le b 49) a v
        × ((b : ℕ) × IsByte is_hex b u × ((16 * (a - 48) + hex_value b) ∷ [] ≡ c)) × (w ≡ v ++ u)
        → 92 ∷ 120 ∷ w ≡ flat_map escaped c
    of c w k =
        let b = k.4.0 in
        one_byte (16 * (k.0 - 48) + hex_value b) c (92 ∷ 120 ∷ w) k.4.2
        (low_back k.0 b k.3.0 k.4.1.0 ∙ ap (λ (l : List ℕ). 92 ∷ 120 ∷ l)
        (sym (k.5 ∙ ap (λ (l : List ℕ). l ++ k.2) k.3.1 ∙ ap (λ (l : List ℕ). k.0 ∷ l) k.4.1.1)))

abbrev IsEscape : List ℕ → List ℕ → Type 0
IsEscape c w = 92 ∷ w ≡ flat_map escaped c

escape_parts : Parts IsEscape escape
unfolding escape escaped
escape_parts =
    parts_wider (λ c w. ((c ≡ 34 ∷ []) × (w ≡ 34 ∷ []))
    ⊎ (((c ≡ 92 ∷ []) × (w ≡ 92 ∷ [])) ⊎ ((v : List ℕ) × (92 ∷ 120 ∷ v ≡ flat_map escaped c) × (w ≡ 120 ∷ v)))) IsEscape
    (choice (λ b. b == 34) (closed 34 (34 ∷ [])) (choice (λ b. b == 92) (closed 92 (92 ∷ [])) (120 ▸ low_pair))) of
    (parts_choice (λ c w. (c ≡ 34 ∷ []) × (w ≡ 34 ∷ []))
    (λ c w. ((c ≡ 92 ∷ []) × (w ≡ 92 ∷ [])) ⊎ ((v : List ℕ) × (92 ∷ 120 ∷ v ≡ flat_map escaped c) × (w ≡ 120 ∷ v)))
    (λ b. b == 34) (closed 34 (34 ∷ [])) (choice (λ b. b == 92) (closed 92 (92 ∷ [])) (120 ▸ low_pair)) (parts_closed 34 (34 ∷ []))
    (parts_choice (λ c w. (c ≡ 92 ∷ []) × (w ≡ 92 ∷ [])) (λ c w. (v : List ℕ) × (92 ∷ 120 ∷ v ≡ flat_map escaped c) × (w ≡ 120 ∷ v))
    (λ b. b == 92) (closed 92 (92 ∷ [])) (120 ▸ low_pair) (parts_closed 92 (92 ∷ []))
    (parts_before (λ c w. 92 ∷ 120 ∷ w ≡ flat_map escaped c) 120 low_pair pair_parts)))
  where
    of : (c w : List ℕ) → ((c ≡ 34 ∷ []) × (w ≡ 34 ∷ []))
        ⊎ (((c ≡ 92 ∷ []) × (w ≡ 92 ∷ [])) ⊎ ((v : List ℕ) × (92 ∷ 120 ∷ v ≡ flat_map escaped c) × (w ≡ 120 ∷ v))) → 92 ∷ w ≡ flat_map escaped c
    of c w (inl k) = ap (λ (l : List ℕ). 92 ∷ l) k.1 ∙ ap (flat_map escaped) (sym k.0)
    of c w (inr (inl k)) = ap (λ (l : List ℕ). 92 ∷ l) k.1 ∙ ap (flat_map escaped) (sym k.0)
    of c w (inr (inr k)) = ap (λ (l : List ℕ). 92 ∷ l) k.2 ∙ k.1

-- bytes beyond ASCII stand for themselves
two_itself : (a b : ℕ) → 128 ≤ a → 128 ≤ b → flat_map escaped (a ∷ b ∷ []) ≡ a ∷ b ∷ []
two_itself a b l m = rw (itself a l, itself b m) refl

three_itself : (a b c : ℕ) → 128 ≤ a → 128 ≤ b → 128 ≤ c → flat_map escaped (a ∷ b ∷ c ∷ []) ≡ a ∷ b ∷ c ∷ []
three_itself a b c l m n = rw (itself a l, itself b m, itself c n) refl

four_itself : (a b c d : ℕ) → 128 ≤ a → 128 ≤ b → 128 ≤ c → 128 ≤ d → flat_map escaped (a ∷ b ∷ c ∷ d ∷ []) ≡ a ∷ b ∷ c ∷ d ∷ []
four_itself a b c d l m n o = rw (itself a l, itself b m, itself c n, itself d o) refl

high_on : (b : ℕ) → goes_on b ≡ true → 128 ≤ b
high_on b h = grind (arith, nat_tests)

high_two : (b : ℕ) → leads_two b ≡ true → 128 ≤ b
high_two b h = grind (arith, nat_tests)

high_three : (b : ℕ) → leads_three b ≡ true → 128 ≤ b
high_three b h = grind (arith, nat_tests)

high_four : (b : ℕ) → leads_four b ≡ true → 128 ≤ b
high_four b h = grind (arith, nat_tests)

high_second : (a b : ℕ) → second_of a b ≡ true → 128 ≤ b
high_second a b h = of (a == 224) (a == 240)
    (both_left (nat_le (cond (a == 224) 160 (cond (a == 240) 144 128)) b) (nat_le b (cond (a == 237) 159 (cond (a == 244) 143 191))) h)
  where
    of : (v w : Bool) → nat_le (cond v 160 (cond w 144 128)) b ≡ true → 128 ≤ b
    of true w e = let l : 160 ≤ b = grind (arith, nat_tests) in omega (arith, l)
    of false true e = let l : 144 ≤ b = grind (arith, nat_tests) in omega (arith, l)
    of false false e = grind (arith, nat_tests)

-- the last byte, behind those of `front`
last_parts : (f : ℕ → List ℕ) (p : ℕ → Bool) → Parts (λ c w. (b : ℕ) × IsByte p b w × (f b ≡ c)) (as_value f (byte_in p))
last_parts f p = parts_value (IsByte p) f (byte_in p) (parts_byte p)

abbrev Two : ℕ → List ℕ → List ℕ → Type 0
Two a c w = (b : ℕ) × IsByte goes_on b w × (a ∷ b ∷ [] ≡ c)

two_parts : Parts IsEscaped two_bytes
unfolding two_bytes
two_parts =
    parts_wider (λ c w. (a : ℕ) × (v : List ℕ) × (u : List ℕ) × IsByte leads_two a v × Two a c u × (w ≡ v ++ u)) IsEscaped
    (byte_in leads_two then λ a. as_value (λ b. a ∷ b ∷ []) (byte_in goes_on)) of
    (parts_then (IsByte leads_two) Two (byte_in leads_two) (λ a. as_value (λ b. a ∷ b ∷ []) (byte_in goes_on)) (parts_byte leads_two)
    (λ a. last_parts (λ b. a ∷ b ∷ []) goes_on))
  where
    of : (c w : List ℕ) → (a : ℕ) × (v : List ℕ) × (u : List ℕ) × IsByte leads_two a v × Two a c u × (w ≡ v ++ u) → w ≡ flat_map escaped c
    of c w k =
        k.5 ∙ ap (λ (l : List ℕ). l ++ k.2) k.3.1 ∙ ap (λ (l : List ℕ). k.0 ∷ l) k.4.1.1
        ∙ sym (two_itself k.0 k.4.0 (high_two k.0 k.3.0) (high_on k.4.0 k.4.1.0)) ∙ ap (flat_map escaped) k.4.2

abbrev Three : ℕ → List ℕ → List ℕ → Type 0
Three a c w = (b : ℕ) × (v : List ℕ) × (u : List ℕ) × IsByte (second_of a) b v × ((d : ℕ) × IsByte goes_on d u × (a ∷ b ∷ d ∷ [] ≡ c)) × (w ≡ v ++ u)

three_parts : Parts IsEscaped three_bytes
unfolding three_bytes
three_parts =
    parts_wider (λ c w. (a : ℕ) × (v : List ℕ) × (u : List ℕ) × IsByte leads_three a v × Three a c u × (w ≡ v ++ u)) IsEscaped
    (byte_in leads_three then λ a. byte_in (second_of a) then λ b. as_value (λ c. a ∷ b ∷ c ∷ []) (byte_in goes_on)) of
    (parts_then (IsByte leads_three) Three (byte_in leads_three) (λ a. byte_in (second_of a) then λ b. as_value (λ c. a ∷ b ∷ c ∷ []) (byte_in goes_on))
    (parts_byte leads_three)
    (λ a. parts_then (IsByte (second_of a)) (λ b c u. (d : ℕ) × IsByte goes_on d u × (a ∷ b ∷ d ∷ [] ≡ c)) (byte_in (second_of a))
    (λ b. as_value (λ c. a ∷ b ∷ c ∷ []) (byte_in goes_on)) (parts_byte (second_of a))
    (λ b. last_parts (λ c. a ∷ b ∷ c ∷ []) goes_on)))
  where
    of : (c w : List ℕ) → (a : ℕ) × (v : List ℕ) × (u : List ℕ) × IsByte leads_three a v × Three a c u × (w ≡ v ++ u) → w ≡ flat_map escaped c
    of c w k =
        let t = k.4 in
        k.5 ∙ ap (λ (l : List ℕ). l ++ k.2) k.3.1
        ∙ ap (λ (l : List ℕ). k.0 ∷ l) (t.5 ∙ ap (λ (l : List ℕ). l ++ t.2) t.3.1 ∙ ap (λ (l : List ℕ). t.0 ∷ l) t.4.1.1)
        ∙ sym (three_itself k.0 t.0 t.4.0 (high_three k.0 k.3.0) (high_second k.0 t.0 t.3.0) (high_on t.4.0 t.4.1.0)) ∙ ap (flat_map escaped) t.4.2

abbrev Last : ℕ → ℕ → ℕ → List ℕ → List ℕ → Type 0
Last a b d c w = (e : ℕ) × IsByte goes_on e w × (a ∷ b ∷ d ∷ e ∷ [] ≡ c)

abbrev Third : ℕ → ℕ → List ℕ → List ℕ → Type 0
Third a b c w = (d : ℕ) × (v : List ℕ) × (u : List ℕ) × IsByte goes_on d v × Last a b d c u × (w ≡ v ++ u)

abbrev Second : ℕ → List ℕ → List ℕ → Type 0
Second a c w = (b : ℕ) × (v : List ℕ) × (u : List ℕ) × IsByte (second_of a) b v × Third a b c u × (w ≡ v ++ u)

four_parts : Parts IsEscaped four_bytes
unfolding four_bytes
four_parts =
    parts_wider (λ c w. (a : ℕ) × (v : List ℕ) × (u : List ℕ) × IsByte leads_four a v × Second a c u × (w ≡ v ++ u)) IsEscaped
    (byte_in leads_four then λ a. byte_in (second_of a) then λ b. byte_in goes_on then λ c. as_value (λ d. a ∷ b ∷ c ∷ d ∷ []) (byte_in goes_on)) of
    (parts_then (IsByte leads_four) Second (byte_in leads_four)
    (λ a. byte_in (second_of a) then λ b. byte_in goes_on then λ c. as_value (λ d. a ∷ b ∷ c ∷ d ∷ []) (byte_in goes_on)) (parts_byte leads_four)
    (λ a. parts_then (IsByte (second_of a)) (Third a) (byte_in (second_of a))
    (λ b. byte_in goes_on then λ c. as_value (λ d. a ∷ b ∷ c ∷ d ∷ []) (byte_in goes_on)) (parts_byte (second_of a))
    (λ b. parts_then (IsByte goes_on) (Last a b) (byte_in goes_on) (λ c. as_value (λ d. a ∷ b ∷ c ∷ d ∷ []) (byte_in goes_on)) (parts_byte goes_on)
    (λ c. last_parts (λ d. a ∷ b ∷ c ∷ d ∷ []) goes_on))))
  where
    of : (c w : List ℕ) → (a : ℕ) × (v : List ℕ) × (u : List ℕ) × IsByte leads_four a v × Second a c u × (w ≡ v ++ u) → w ≡ flat_map escaped c
    of c w k =
        let s = k.4 in
        let t = s.4 in
        let l = t.4 in
        k.5 ∙ ap (λ (x : List ℕ). x ++ k.2) k.3.1
        ∙ ap (λ (x : List ℕ). k.0 ∷ x)
        (s.5 ∙ ap (λ (x : List ℕ). x ++ s.2) s.3.1
        ∙ ap (λ (x : List ℕ). s.0 ∷ x) (t.5 ∙ ap (λ (x : List ℕ). x ++ t.2) t.3.1 ∙ ap (λ (x : List ℕ). t.0 ∷ x) l.1.1))
        ∙ sym (four_itself k.0 s.0 t.0 l.0 (high_four k.0 k.3.0) (high_second k.0 s.0 s.3.0) (high_on t.0 t.3.0) (high_on l.0 l.1.0))
        ∙ ap (flat_map escaped) l.2

plain_parts : Parts IsEscaped (as_value (λ b. b ∷ []) (byte_in is_plain))
plain_parts =
    parts_wider (λ c w. (b : ℕ) × IsByte is_plain b w × (b ∷ [] ≡ c)) IsEscaped (as_value (λ b. b ∷ []) (byte_in is_plain))
    (λ c w k. one_byte k.0 c w k.2 (plain_itself k.0 k.1.0 ∙ sym k.1.1)) (last_parts (λ b. b ∷ []) is_plain)

escaped_parts : Parts IsEscaped (92 ▸ escape)
escaped_parts = parts_wider (λ c w. (v : List ℕ) × IsEscape c v × (w ≡ 92 ∷ v)) IsEscaped (92 ▸ escape) (λ c w k. k.2 ∙ k.1)
    (parts_before IsEscape 92 escape escape_parts)

either : (c w : List ℕ) → IsEscaped c w ⊎ IsEscaped c w → IsEscaped c w
either c w (inl h) = h
either c w (inr h) = h

one_or_other : (p : ℕ → Bool) (one two : Lang (List ℕ)) → Parts IsEscaped one → Parts IsEscaped two → Parts IsEscaped (choice p one two)
one_or_other p one two o t = parts_wider (λ c w. IsEscaped c w ⊎ IsEscaped c w) IsEscaped (choice p one two) either
    (parts_choice IsEscaped IsEscaped p one two o t)

character_parts : Parts IsEscaped character
unfolding character
character_parts =
    one_or_other (λ b. b == 92) (92 ▸ escape)
    (choice is_plain (as_value (λ b. b ∷ []) (byte_in is_plain)) (choice leads_two two_bytes (choice leads_three three_bytes four_bytes))) escaped_parts
    (one_or_other is_plain (as_value (λ b. b ∷ []) (byte_in is_plain))
    (choice leads_two two_bytes (choice leads_three three_bytes four_bytes)) plain_parts
    (one_or_other leads_two two_bytes (choice leads_three three_bytes four_bytes) two_parts
    (one_or_other leads_three three_bytes four_bytes three_parts four_parts)))

all_escaped : (cs : List (List ℕ)) (w : List ℕ) → AllOf IsEscaped 34 cs w → w ≡ flat_map escaped (all_of cs) ++ 34 ∷ []
all_escaped [] w h = h
all_escaped (c ∷ cs) w h =
    h.4 ∙ ap (λ (l : List ℕ). l ++ h.1) h.2 ∙ ap (λ (l : List ℕ). flat_map escaped c ++ l) (all_escaped cs h.1 h.3)
    ∙ sym (append_assoc (flat_map escaped c) (flat_map escaped (all_of cs)) (34 ∷ []))
    ∙ ap (λ (l : List ℕ). l ++ 34 ∷ []) (sym (flat_map-append escaped c (all_of cs)))

abbrev IsQuoted : List ℕ → List ℕ → Type 0
IsQuoted bs w = w ≡ quoted bs

pub text_parts : Parts IsQuoted text
unfolding text
text_parts =
    parts_wider (λ bs w. (v : List ℕ) × ((cs : List (List ℕ)) × AllOf IsEscaped 34 cs v × (all_of cs ≡ bs)) × (w ≡ 34 ∷ v)) IsQuoted
    (34 ▸ as_value all_of (many 34 character))
    (λ bs w k. k.2 ∙ ap (λ (l : List ℕ). 34 ∷ l) (all_escaped k.1.0 k.0 k.1.1) ∙ ap quoted k.1.2)
    (parts_before (λ bs v. (cs : List (List ℕ)) × AllOf IsEscaped 34 cs v × (all_of cs ≡ bs)) 34 (as_value all_of (many 34 character))
    (parts_value (AllOf IsEscaped 34) all_of (many 34 character) (parts_many IsEscaped 34 character character_parts)))
