-- What stands for a text between quotes is spelled by the rule of texts.
use Rattle.std.proofs.Common.{◌≡◌, ℕ, ◌+◌, ◌-◌, ◌*◌, ◌/◌, ◌%◌, ◌≤◌, ◌<◌, List, [], ◌∷◌, ◌++◌, length, map, Bool, true, false, cond, ◌==◌, ◌&&◌}
use Rattle.std.proofs.Common.{◌⊎◌, inl, inr, refl, sym, ◌∙◌, ap, subst, append_assoc, arith}
use Rattle.std.specs.Prelude.{IsUtf8, nat_le, nat_lt}
use Rattle.std.specs.List.{flat_map}
use Rattle.std.proofs.lemmas.Bool.{eqb-true}
use Rattle.std.proofs.lemmas.List.{append-nil}
use Rattle.std.proofs.lemmas.Bool.Decides.{nat_tests}
use Rattle.std.proofs.lemmas.Grind.{flat_map-append}
use Rattle.std.proofs.lemmas.Str.{encode_ascii}
use lib.Utf8.{scalar, scalars, encode, encodes}
use Rattle.byte_rules.specs.Lang.{Mode, until}
use Rattle.value_text.specs.Characters.{is_hex, hex_value, escape, leads_two, leads_three, leads_four, goes_on, second_of, two_bytes, three_bytes}
use Rattle.value_text.specs.Characters.{four_bytes, character, all_of, text}
use Rattle.value_text.specs.Escapes.{hex_digit, escaped, quoted}
use Rattle.value_text.proofs.NumberLaws.{both_left, both_right}

pub itself : (b : ℕ) → 128 ≤ b → escaped b ≡ b ∷ []
unfolding escaped
itself b h =
    let p : (b == 34) ≡ false = grind (arith, nat_tests) in
    let q : (b == 92) ≡ false = grind (arith, nat_tests) in
    let r : nat_lt b 32 ≡ false = grind (arith, nat_tests) in
    rw (p, q, r) refl

-- the bounds of the bytes of a character beyond ASCII
lead_two : (c : ℕ) → 128 ≤ c → c < 2048 → leads_two (192 + c / 64) ≡ true
lead_two c l h = let a : 2 ≤ c / 64 = omega arith in let b : c / 64 ≤ 31 = omega arith in grind (arith, nat_tests)

lead_three : (c : ℕ) → c < 65536 → leads_three (224 + c / 4096) ≡ true
lead_three c h = let b : c / 4096 ≤ 15 = omega arith in grind (arith, nat_tests)

lead_four : (c : ℕ) → c < 1114112 → leads_four (240 + c / 262144) ≡ true
lead_four c h = let b : c / 262144 ≤ 4 = omega arith in grind (arith, nat_tests)

part : (n : ℕ) → n < 64 → goes_on (128 + n) ≡ true
part n h = grind (arith, nat_tests)

between : (low high b : ℕ) → low ≤ b → b ≤ high → (nat_le low b && nat_le b high) ≡ true
between low high b l h = grind (arith, nat_tests)

second_by : (a b : ℕ) → 128 ≤ b → b ≤ 191 → (a ≡ 224 → 160 ≤ b) → (a ≡ 240 → 144 ≤ b) → (a ≡ 237 → b ≤ 159) → (a ≡ 244 → b ≤ 143) → second_of a b ≡ true
second_by a b l h p q r s = between (cond (a == 224) 160 (cond (a == 240) 144 128)) (cond (a == 237) 159 (cond (a == 244) 143 191)) b
    (low (a == 224) (a == 240) refl refl) (top (a == 237) (a == 244) refl refl)
  where
    low : (v w : Bool) → (a == 224) ≡ v → (a == 240) ≡ w → cond v 160 (cond w 144 128) ≤ b
    low true w e f = p (eqb-true a 224 e)
    low false true e f = q (eqb-true a 240 f)
    low false false e f = l

    top : (v w : Bool) → (a == 237) ≡ v → (a == 244) ≡ w → b ≤ cond v 159 (cond w 143 191)
    top true w e f = r (eqb-true a 237 e)
    top false true e f = s (eqb-true a 244 f)
    top false false e f = h

second_three : (c : ℕ) → 2048 ≤ c → c < 65536 → (c < 55296) ⊎ (57344 ≤ c) → second_of (224 + c / 4096) (128 + c / 64 % 64) ≡ true
second_three c l h (inl s) = second_by (224 + c / 4096) (128 + c / 64 % 64) (omega arith) (omega arith) (λ e. omega arith) (λ e. absurd (omega arith))
    (λ e. omega arith) (λ e. absurd (omega arith))
second_three c l h (inr s) = second_by (224 + c / 4096) (128 + c / 64 % 64) (omega arith) (omega arith) (λ e. absurd (omega arith))
    (λ e. absurd (omega arith)) (λ e. absurd (omega arith)) (λ e. absurd (omega arith))

second_four : (c : ℕ) → 65536 ≤ c → c < 1114112 → second_of (240 + c / 262144) (128 + c / 4096 % 64) ≡ true
second_four c l h = second_by (240 + c / 262144) (128 + c / 4096 % 64) (omega arith) (omega arith) (λ e. absurd (omega arith)) (λ e. omega arith)
    (λ e. absurd (omega arith)) (λ e. omega arith)

-- a scalar is no surrogate, and below 0x110000
within : (c : ℕ) → scalar c ≡ true → c < 1114112
within c h = grind (arith, nat_tests)

no_surrogate : (c : ℕ) → scalar c ≡ true → (c < 55296) ⊎ (57344 ≤ c)
no_surrogate c h = of (nat_lt c 55296) refl
  where
    of : (v : Bool) → nat_lt c 55296 ≡ v → (c < 55296) ⊎ (57344 ≤ c)
    of true e = inl (grind (arith, nat_tests))
    of false e = inr (grind (arith, nat_tests))

-- what an escape writes
hex_is : (d : ℕ) → d < 16 → is_hex (hex_digit d) ≡ true
hex_is d h = of (nat_lt d 10) refl
  where
    of : (v : Bool) → nat_lt d 10 ≡ v → is_hex (cond v (48 + d) (87 + d)) ≡ true
    of true e = grind (arith, nat_tests)
    of false e = grind (arith, nat_tests)

hex_worth : (d : ℕ) → d < 16 → hex_value (hex_digit d) ≡ d
hex_worth d h = of (nat_lt d 10) refl
  where
    of : (v : Bool) → nat_lt d 10 ≡ v → hex_value (cond v (48 + d) (87 + d)) ≡ d
    of true e = let k : nat_le (48 + d) 57 ≡ true = grind (arith, nat_tests) in rw k (omega arith)
    of false e = let k : nat_le (87 + d) 57 ≡ false = grind (arith, nat_tests) in rw k (omega arith)

module _ (m : Mode) (K : List ℕ → List ℕ → Type 0) (q : List ℕ) where
  low_to : (b : ℕ) → b < 128 → K (b ∷ []) q → character.followed m K (escaped b ++ q)
  unfolding character escape escaped
  low_to b h k = of (b == 34) (b == 92) (nat_lt b 32) refl refl refl
    where
      of : (v w x : Bool) → (b == 34) ≡ v → (b == 92) ≡ w → nat_lt b 32 ≡ x
          → character.followed m K
          (cond v (92 ∷ 34 ∷ []) (cond w (92 ∷ 92 ∷ []) (cond x (92 ∷ 120 ∷ (48 + b / 16) ∷ hex_digit (b % 16) ∷ []) (b ∷ []))) ++ q)
      of true w x e f g = inl (refl, inl (refl, subst (λ (c : ℕ). K (c ∷ []) q) (eqb-true b 34 e) k))
      of false true x e f g = inl (refl, inr (inl (refl, subst (λ (c : ℕ). K (c ∷ []) q) (eqb-true b 92 f) k)))
      of false false true e f g =
          let n : b < 32 = grind (arith, nat_tests) in
          let z : b / 16 ≤ 1 = omega arith in
          let one : (nat_le 48 (48 + b / 16) && nat_le (48 + b / 16) 49) ≡ true = between 48 49 (48 + b / 16) (omega arith) (omega arith) in
          let w : 16 * ((48 + b / 16) - 48) + hex_value (hex_digit (b % 16)) ≡ b = let v = hex_worth (b % 16) (omega arith) in omega arith in
          inl (refl, inr (inr (refl, (one, (hex_is (b % 16) (omega arith), subst (λ (c : ℕ). K (c ∷ []) q) (sym w) k)))))
      of false false false e f g = inr (inl ((let l : nat_lt b 32 ≡ false = g in grind (arith, nat_tests)), k))

  high_to : (c : ℕ) → scalar c ≡ true → 128 ≤ c → K (encode c) q → character.followed m K (encode c ++ q)
  unfolding encode character two_bytes three_bytes four_bytes
  high_to c s h k = of (nat_lt c 128) (nat_lt c 2048) (nat_lt c 65536) refl refl refl k
    where
      of : (u v w : Bool) → nat_lt c 128 ≡ u → nat_lt c 2048 ≡ v → nat_lt c 65536 ≡ w
          → K (cond u (c ∷ [])
          (cond v ((192 + c / 64) ∷ (128 + c % 64) ∷ [])
          (cond w ((224 + c / 4096) ∷ (128 + c / 64 % 64) ∷ (128 + c % 64) ∷ [])
          ((240 + c / 262144) ∷ (128 + c / 4096 % 64) ∷ (128 + c / 64 % 64) ∷ (128 + c % 64) ∷ [])))) q
          → character.followed m K
          (cond u (c ∷ []) (cond v ((192 + c / 64) ∷ (128 + c % 64) ∷ [])
          (cond w ((224 + c / 4096) ∷ (128 + c / 64 % 64) ∷ (128 + c % 64) ∷ [])
          ((240 + c / 262144) ∷ (128 + c / 4096 % 64) ∷ (128 + c / 64 % 64) ∷ (128 + c % 64) ∷ []))) ++ q)
      of true v w e f g k = absurd (let l : c < 128 = grind (arith, nat_tests) in omega (arith, l, h))
      of false true w e f g k = let l : c < 2048 = grind (arith, nat_tests) in inr (inr (inl (lead_two c h l, (part (c % 64) (omega arith), k))))
      of false false true e f g k =
          let l : c < 65536 = grind (arith, nat_tests) in
          let o : 2048 ≤ c = grind (arith, nat_tests) in
          inr (inr (inr (inl (lead_three c l, (second_three c o l (no_surrogate c s), (part (c % 64) (omega arith), k))))))
      of false false false e f g k =
          let o : 65536 ≤ c = grind (arith, nat_tests) in
          let l = within c s in
          inr (inr (inr (inr (lead_four c l, (second_four c o l, (part (c / 64 % 64) (omega arith), (part (c % 64) (omega arith), k)))))))

above : (a n : ℕ) → 128 ≤ a → escaped (a + n) ≡ (a + n) ∷ []
above a n h = itself (a + n) (omega (arith, h))

-- a character beyond ASCII stands for itself
same_high : (c : ℕ) → 128 ≤ c → flat_map escaped (encode c) ≡ encode c
unfolding encode
same_high c h = of (nat_lt c 128) (nat_lt c 2048) (nat_lt c 65536) refl
  where
    of : (u v w : Bool) → nat_lt c 128 ≡ u
        → flat_map escaped (cond u (c ∷ [])
        (cond v ((192 + c / 64) ∷ (128 + c % 64) ∷ [])
        (cond w ((224 + c / 4096) ∷ (128 + c / 64 % 64) ∷ (128 + c % 64) ∷ [])
        ((240 + c / 262144) ∷ (128 + c / 4096 % 64) ∷ (128 + c / 64 % 64) ∷ (128 + c % 64) ∷ []))))
        ≡ cond u (c ∷ []) (cond v ((192 + c / 64) ∷ (128 + c % 64) ∷ [])
        (cond w ((224 + c / 4096) ∷ (128 + c / 64 % 64) ∷ (128 + c % 64) ∷ [])
        ((240 + c / 262144) ∷ (128 + c / 4096 % 64) ∷ (128 + c / 64 % 64) ∷ (128 + c % 64) ∷ [])))
    of true v w e = absurd (let l : c < 128 = grind (arith, nat_tests) in omega (arith, l, h))
    of false true w e = rw (above 192 (c / 64) (omega arith), above 128 (c % 64) (omega arith)) refl
    of false false true e = rw (above 224 (c / 4096) (omega arith), above 128 (c / 64 % 64) (omega arith), above 128 (c % 64) (omega arith)) refl
    of false false false e = rw (
      above 240 (c / 262144) (omega arith),
      above 128 (c / 4096 % 64) (omega arith),
      above 128 (c / 64 % 64) (omega arith),
      above 128 (c % 64)
          (omega arith),
    ) refl

char_to : (m : Mode) (K : List ℕ → List ℕ → Type 0) (q : List ℕ) (c : ℕ) → scalar c ≡ true → K (encode c) q
    → character.followed m K (flat_map escaped (encode c) ++ q)
char_to m K q c s k = of (nat_lt c 128) refl
  where
    of : (v : Bool) → nat_lt c 128 ≡ v → character.followed m K (flat_map escaped (encode c) ++ q)
    of true e =
        let l : c < 128 = grind (arith, nat_tests) in
        let one : encode c ≡ c ∷ [] = encode_ascii c l in
        subst (λ (bs : List ℕ). character.followed m K (flat_map escaped bs ++ q)) (sym one)
        (subst (λ (bs : List ℕ). character.followed m K (bs ++ q)) (sym (append-nil (escaped c)))
        (low_to m K q c l (subst (λ (bs : List ℕ). K bs q) one k)))
    of false e =
        let l : 128 ≤ c = grind (arith, nat_tests) in
        subst (λ (bs : List ℕ). character.followed m K (bs ++ q)) (sym (same_high c l)) (high_to m K q c s l k)

chars_to : (m : Mode) (K : List (List ℕ) → List ℕ → Type 0) (q : List ℕ) (cs : List ℕ) → scalars cs ≡ true → K (map encode cs) q
    → (until 34 (length cs) character).followed m K (flat_map escaped (encodes cs) ++ 34 ∷ q)
unfolding until
chars_to m K q [] s k = (refl, k)
chars_to m K q (c ∷ cs) s k =
    let cut : flat_map escaped (encodes (c ∷ cs)) ++ 34 ∷ q ≡ flat_map escaped (encode c) ++ (flat_map escaped (encodes cs) ++ 34 ∷ q) =
    ap (λ (bs : List ℕ). bs ++ 34 ∷ q) (flat_map-append escaped (encode c) (encodes cs))
    ∙ append_assoc (flat_map escaped (encode c)) (flat_map escaped (encodes cs)) (34 ∷ q) in
    inr (subst (λ (bs : List ℕ). character.followed m (λ x. (until 34 (length cs) character).followed m (λ xs. K (x ∷ xs))) bs) (sym cut)
    (char_to m (λ x. (until 34 (length cs) character).followed m (λ xs. K (x ∷ xs))) (flat_map escaped (encodes cs) ++ 34 ∷ q) c
    (both_left (scalar c) (scalars cs) s) (chars_to m (λ xs. K (encode c ∷ xs)) q cs (both_right (scalar c) (scalars cs) s) k)))

all_encoded : (cs : List ℕ) → all_of (map encode cs) ≡ encodes cs
all_encoded [] = refl
all_encoded (c ∷ cs) = ap (λ (bs : List ℕ). encode c ++ bs) (all_encoded cs)

pub text_to : (m : Mode) (K : List ℕ → List ℕ → Type 0) (q bytes : List ℕ) → IsUtf8 bytes → K bytes q → text.followed m K (quoted bytes ++ q)
unfolding text
text_to m K q bytes u k =
    let is : encodes u.0 ≡ bytes = u.1.1 in
    subst (λ (bs : List ℕ). text.followed m K (quoted bs ++ q)) is
    (subst (λ (bs : List ℕ). text.followed m K (34 ∷ bs)) (sym (append_assoc (flat_map escaped (encodes u.0)) (34 ∷ []) q))
    (refl, (length u.0, chars_to m (λ cs. K (all_of cs)) q u.0 u.1.0 (subst (λ (bs : List ℕ). K bs q) (sym is ∙ sym (all_encoded u.0)) k))))
