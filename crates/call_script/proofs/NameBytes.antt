-- Names are ASCII.
use Rattle.std.proofs.Common.{◌≡◌, ◌<◌, ℕ, zero, suc, List, [], ◌∷◌, length, refl, true, false, arith, lit≤}
use Rattle.std.specs.Prelude.{Bool, ◌&&◌, ◌||◌, ◌==◌, nat_le}
use Rattle.std.specs.List.{list_all}
use Rattle.std.specs.Str.{IsAscii}
use Rattle.std.proofs.lemmas.Bool.Decides.{nat_tests}
use Rattle.script_words.specs.Letters.{is_name, is_name_byte, is_small_letter}
use Rattle.script_words.proofs.Splits.{both}

pub letter_small : (c : ℕ) → is_small_letter c ≡ true → c < 128
letter_small c e = let t = (both (nat_le 97 c) (nat_le c 122) e).1 in grind (arith, nat_tests)

byte_small : (c : ℕ) → is_name_byte c ≡ true → c < 128
byte_small c e = go (is_small_letter c) (nat_le 48 c && nat_le c 57) (c == 95) refl refl refl e
  where
    go : (a b d : Bool) → is_small_letter c ≡ a → (nat_le 48 c && nat_le c 57) ≡ b → (c == 95) ≡ d → (a || (b || d)) ≡ true → c < 128
    go true b d ea eb ed f = letter_small c ea
    go false true d ea eb ed f = let t = (both (nat_le 48 c) (nat_le c 57) eb).1 in grind (arith, nat_tests)
    go false false true ea eb ed f = grind (arith, nat_tests)
    go false false false ea eb ed f = absurd cc

bytes_small : (cs : List ℕ) → list_all is_name_byte cs ≡ true → IsAscii cs
bytes_small [] e i = lit≤ tt
bytes_small (c ∷ cs) e zero = byte_small c (both (is_name_byte c) (list_all is_name_byte cs) e).0
bytes_small (c ∷ cs) e (suc i) = bytes_small cs (both (is_name_byte c) (list_all is_name_byte cs) e).1 i

-- a name is text
pub name_is_ascii : (word : List ℕ) → is_name word ≡ true → IsAscii word
name_is_ascii [] e i = absurd cc
name_is_ascii (c ∷ cs) e zero = letter_small c (both (is_small_letter c) (list_all is_name_byte cs && nat_le (length cs) 31) e).0
name_is_ascii (c ∷ cs) e (suc i) =
    bytes_small cs (both (list_all is_name_byte cs) (nat_le (length cs) 31)
    (both (is_small_letter c) (list_all is_name_byte cs && nat_le (length cs) 31) e).1).0 i
