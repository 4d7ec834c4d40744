-- A text with its escapes, and an escaped text without them, are UTF-8 where the other is.
use Rattle.std.proofs.Common.{◌≡◌, ℕ, zero, suc, ◌+◌, ◌/◌, ◌%◌, ◌≤◌, ◌<◌, List, [], ◌∷◌, ◌++◌, Bool, true, false, cond, ◌==◌, ◌&&◌, refl, sym, ◌∙◌, ap, subst, arith, lit<}
use Rattle.std.specs.Prelude.{IsUtf8, nat_le, nat_lt}
use Rattle.std.specs.Str.{IsAscii}
use Rattle.std.specs.List.{list_all, flat_map}
use Rattle.std.proofs.lemmas.Bool.Decides.{nat_tests}
use Rattle.std.proofs.lemmas.List.{append-nil}
use Rattle.std.proofs.lemmas.Grind.{flat_map-append}
use Rattle.std.proofs.lemmas.Str.{IsUtf8-nil, IsUtf8-append, IsUtf8-from_ascii, encode_ascii}
use lib.Utf8.{scalar, scalars, encode, encodes}
use Rattle.mojom_lexer.proofs.Runs.{left, right, both}
use Rattle.mojom_print.specs.Words.{string_byte}

-- beyond ASCII
unfoldable pub high : ℕ → Bool
high b = nat_le 128 b

-- the bytes of a character beyond ASCII
pub record HighBytes (c : ℕ) : Type 0 where
  pub first : ℕ
  pub more : List ℕ
  pub is : encode c ≡ first ∷ more
  pub first_high : high first ≡ true
  pub more_high : list_all high more ≡ true

over : (n k : ℕ) → 128 ≤ k → high (k + n) ≡ true
unfolding high
over n k h = grind (arith, nat_tests)

-- for `string_utf8`: bytes of a character behind ASCII
pub encode_high : (c : ℕ) → nat_lt c 128 ≡ false → HighBytes c
unfolding encode
encode_high c low = of (nat_lt c 128) (nat_lt c 2048) (nat_lt c 65536) low refl
  where
    of : (a b d : Bool) → a ≡ false → encode c
        ≡ cond a (c ∷ []) (cond b ((192 + c / 64) ∷ (128 + c % 64) ∷ [])
        (cond d ((224 + c / 4096) ∷ (128 + c / 64 % 64) ∷ (128 + c % 64) ∷ [])
        ((240 + c / 262144) ∷ (128 + c / 4096 % 64) ∷ (128 + c / 64 % 64) ∷ (128 + c % 64) ∷ []))) → HighBytes c
    of true b d e f = absurd (cc)
    of false true d e f =
        record {
          first = 192 + c / 64;
          more = (128 + c % 64) ∷ [];
          is = f;
          first_high = over (c / 64) 192 (omega arith);
          more_high = both (high (128 + c % 64)) true (over (c % 64) 128 (omega arith)) refl;
        }
    of false false true e f =
        record {
          first = 224 + c / 4096;
          more = (128 + c / 64 % 64) ∷ (128 + c % 64) ∷ [];
          is = f;
          first_high = over (c / 4096) 224 (omega arith);
          more_high = both (high (128 + c / 64 % 64)) (high (128 + c % 64) && true) (over (c / 64 % 64) 128 (omega arith))
              (both (high (128 + c % 64)) true (over (c % 64) 128 (omega arith)) refl);
        }
    of false false false e f =
        record {
          first = 240 + c / 262144;
          more = (128 + c / 4096 % 64) ∷ (128 + c / 64 % 64) ∷ (128 + c % 64) ∷ [];
          is = f;
          first_high = over (c / 262144) 240 (omega arith);
          more_high =
              both (high (128 + c / 4096 % 64)) (high (128 + c / 64 % 64) && (high (128 + c % 64) && true)) (over (c / 4096 % 64) 128 (omega arith))
              (both (high (128 + c / 64 % 64)) (high (128 + c % 64) && true) (over (c / 64 % 64) 128 (omega arith))
              (both (high (128 + c % 64)) true (over (c % 64) 128 (omega arith)) refl));
        }

-- for `string_utf8`: each is 128 or more
pub high_bytes : (c : ℕ) (h : HighBytes c) → list_all high (encode c) ≡ true
high_bytes c h = subst (λ (bs : List ℕ). list_all high bs ≡ true) (sym h.is) (both (high h.first) (list_all high h.more) h.first_high h.more_high)

-- for `string_utf8`: a character
pub one_char : (c : ℕ) → scalar c ≡ true → IsUtf8 (encode c)
one_char c h = (c ∷ [], (both (scalar c) true h refl, append-nil (encode c)))

-- a byte beyond ASCII has no escape
high_plain : (b : ℕ) → high b ≡ true → string_byte b ≡ b ∷ []
unfolding high string_byte
high_plain b h =
    let p : (b == 34) ≡ false = grind (arith, nat_tests) in
    let q : (b == 92) ≡ false = grind (arith, nat_tests) in
    let r : (b == 10) ≡ false = grind (arith, nat_tests) in
    let s : (b == 9) ≡ false = grind (arith, nat_tests) in
    rw (p, q, r, s) refl

all_plain : (bs : List ℕ) → list_all high bs ≡ true → flat_map string_byte bs ≡ bs
all_plain [] h = refl
all_plain (b ∷ bs) h =
    ap (λ (l : List ℕ). l ++ flat_map string_byte bs) (high_plain b (left (high b) (list_all high bs) h))
    ∙ ap (λ (l : List ℕ). b ∷ l) (all_plain bs (right (high b) (list_all high bs) h))

two_ascii : (a b : ℕ) → a < 128 → b < 128 → IsAscii (a ∷ b ∷ [])
two_ascii a b h k zero = h
two_ascii a b h k (suc zero) = k
two_ascii a b h k (suc (suc i)) = lit< tt

-- for `string_utf8`: a byte of ASCII
pub one_ascii : (a : ℕ) → a < 128 → IsAscii (a ∷ [])
one_ascii a h zero = h
one_ascii a h (suc i) = lit< tt

low_byte : (b : ℕ) → b < 128 → IsUtf8 (string_byte b)
unfolding string_byte
low_byte b h = of (b == 34) (b == 92) (b == 10) (b == 9)
  where
    of : (p q r s : Bool) → IsUtf8 (cond p (92 ∷ 34 ∷ []) (cond q (92 ∷ 92 ∷ []) (cond r (92 ∷ 110 ∷ []) (cond s (92 ∷ 116 ∷ []) (b ∷ [])))))
    of true q r s = IsUtf8-from_ascii (92 ∷ 34 ∷ []) (two_ascii 92 34 (lit< tt) (lit< tt))
    of false true r s = IsUtf8-from_ascii (92 ∷ 92 ∷ []) (two_ascii 92 92 (lit< tt) (lit< tt))
    of false false true s = IsUtf8-from_ascii (92 ∷ 110 ∷ []) (two_ascii 92 110 (lit< tt) (lit< tt))
    of false false false true = IsUtf8-from_ascii (92 ∷ 116 ∷ []) (two_ascii 92 116 (lit< tt) (lit< tt))
    of false false false false = IsUtf8-from_ascii (b ∷ []) (one_ascii b h)

-- each character of a text, and its escape
char_utf8 : (c : ℕ) → scalar c ≡ true → IsUtf8 (flat_map string_byte (encode c))
char_utf8 c h = of (nat_lt c 128) refl
  where
    of : (v : Bool) → nat_lt c 128 ≡ v → IsUtf8 (flat_map string_byte (encode c))
    of true e =
        let low : c < 128 = grind (arith, nat_tests) in
        subst (λ (bs : List ℕ). IsUtf8 (flat_map string_byte bs)) (sym (encode_ascii c low)) (IsUtf8-append (string_byte c) [] (low_byte c low) IsUtf8-nil)
    of false e = subst IsUtf8 (sym (all_plain (encode c) (high_bytes c (encode_high c e)))) (one_char c h)

chars_utf8 : (cs : List ℕ) → scalars cs ≡ true → IsUtf8 (flat_map string_byte (encodes cs))
chars_utf8 [] h = IsUtf8-nil
chars_utf8 (c ∷ cs) h =
    subst IsUtf8 (sym (flat_map-append string_byte (encode c) (encodes cs)))
    (IsUtf8-append (flat_map string_byte (encode c)) (flat_map string_byte (encodes cs)) (char_utf8 c (left (scalar c) (scalars cs) h))
    (chars_utf8 cs (right (scalar c) (scalars cs) h)))

quote_utf8 : IsUtf8 (34 ∷ [])
quote_utf8 = IsUtf8-from_ascii (34 ∷ []) (one_ascii 34 (lit< tt))

-- a text between quotes, with its escapes
pub string_utf8 : (bytes : List ℕ) → IsUtf8 bytes → IsUtf8 (34 ∷ (flat_map string_byte bytes ++ 34 ∷ []))
string_utf8 bytes h =
    let inside : IsUtf8 (flat_map string_byte bytes) = subst (λ (bs : List ℕ). IsUtf8 (flat_map string_byte bs)) h.1.1 (chars_utf8 h.0 h.1.0) in
    IsUtf8-append (34 ∷ []) (flat_map string_byte bytes ++ 34 ∷ []) quote_utf8 (IsUtf8-append (flat_map string_byte bytes) (34 ∷ []) inside quote_utf8)
