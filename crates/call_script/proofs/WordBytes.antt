-- The words of interfaces and methods are ASCII.
use Rattle.std.proofs.Common.{◌≡◌, ◌<◌, ℕ, zero, suc, List, [], ◌∷◌, ◌++◌, length, take, drop, Bor, Some, None, sym, ap, ◌∙◌, ◌+◌, refl, true, false, arith, lit≤, subst}
use Rattle.std.specs.Prelude.{Bool, Option, option_map, ◌&&◌, ◌||◌, ◌==◌, nat_le}
use Rattle.std.specs.List.{list_all, flat_map}
use Rattle.std.specs.Option.{option_map_or}
use Rattle.std.specs.Str.{IsAscii}
use Rattle.std.proofs.lemmas.Bool.Decides.{nat_tests}
use Rattle.script_words.specs.Letters.{is_identifier, is_interface_word, is_method_word, is_letter, is_first_letter, is_digit, is_small_letter}
use Rattle.script_words.specs.Pieces.{pieces}
use Rattle.call_script.specs.Targets.{last_dot, split_word}
use Rattle.call_script.proofs.NameBytes.{letter_small}
use Rattle.script_words.proofs.Splits.{both, joined, joined_pieces}

-- a byte below 128
abbrev is_small : ℕ → Bool
is_small c = nat_le c 127

small : (c : ℕ) → c < 128 → is_small c ≡ true
small c h = grind (arith, nat_tests)

first_small : (c : ℕ) → is_first_letter c ≡ true → c < 128
first_small c e = go (is_small_letter c) (nat_le 65 c && nat_le c 90) (c == 95) refl refl refl e
  where
    go : (a b d : Bool) → is_small_letter c ≡ a → (nat_le 65 c && nat_le c 90) ≡ b → (c == 95) ≡ d → (a || (b || d)) ≡ true → c < 128
    go true b d ea eb ed f = letter_small c ea
    go false true d ea eb ed f = let t = (both (nat_le 65 c) (nat_le c 90) eb).1 in grind (arith, nat_tests)
    go false false true ea eb ed f = grind (arith, nat_tests)
    go false false false ea eb ed f = absurd cc

letter_of_word_small : (c : ℕ) → is_letter c ≡ true → c < 128
letter_of_word_small c e = go (is_first_letter c) (is_digit c) refl refl e
  where
    go : (a b : Bool) → is_first_letter c ≡ a → is_digit c ≡ b → (a || b) ≡ true → c < 128
    go true b ea eb f = first_small c ea
    go false true ea eb f = let t = (both (nat_le 48 c) (nat_le c 57) eb).1 in grind (arith, nat_tests)
    go false false ea eb f = absurd cc

letters_small : (cs : List ℕ) → list_all is_letter cs ≡ true → list_all is_small cs ≡ true
letters_small [] e = refl
letters_small (c ∷ cs) e =
    let h = both (is_letter c) (list_all is_letter cs) e in
    rw (small c (letter_of_word_small c h.0), letters_small cs h.1) refl

identifier_small : (word : List ℕ) → is_identifier word ≡ true → list_all is_small word ≡ true
identifier_small [] e = refl
identifier_small (c ∷ cs) e =
    let h = both (is_first_letter c) (list_all is_letter cs) e in
    rw (small c (first_small c h.0), letters_small cs h.1) refl

all_append : (xs ys : List ℕ) → list_all is_small xs ≡ true → list_all is_small ys ≡ true → list_all is_small (xs ++ ys) ≡ true
all_append [] ys h k = k
all_append (x ∷ xs) ys h k = let b = both (is_small x) (list_all is_small xs) h in rw (b.0, all_append xs ys b.1 k) refl

tail_small : (parts : List (List ℕ)) → list_all is_identifier parts ≡ true → list_all is_small (flat_map (λ part. 46 ∷ part) parts) ≡ true
tail_small [] e = refl
tail_small (p ∷ ps) e =
    let h = both (is_identifier p) (list_all is_identifier ps) e in
    all_append (46 ∷ p) (flat_map (λ part. 46 ∷ part) ps) (identifier_small p h.0) (tail_small ps h.1)

joined_small : (parts : List (List ℕ)) → list_all is_identifier parts ≡ true → list_all is_small (joined 46 parts) ≡ true
joined_small [] e = refl
joined_small (p ∷ ps) e =
    let h = both (is_identifier p) (list_all is_identifier ps) e in
    all_append p (flat_map (λ part. 46 ∷ part) ps) (identifier_small p h.0) (tail_small ps h.1)

ascii : (bytes : List ℕ) → list_all is_small bytes ≡ true → IsAscii bytes
ascii [] e i = lit≤ tt
ascii (c ∷ cs) e zero = let h = (both (is_small c) (list_all is_small cs) e).0 in grind (arith, nat_tests)
ascii (c ∷ cs) e (suc i) = ascii cs (both (is_small c) (list_all is_small cs) e).1 i

take_small : (n : ℕ) (bytes : List ℕ) → list_all is_small bytes ≡ true → list_all is_small (take n bytes) ≡ true
take_small zero bytes e = refl
take_small (suc n) [] e = refl
take_small (suc n) (c ∷ cs) e =
    let h = both (is_small c) (list_all is_small cs) e in rw (h.0, take_small n cs h.1) refl

word_small : (word : List ℕ) → is_interface_word word ≡ true → list_all is_small word ≡ true
word_small word e = subst (λ bytes. list_all is_small bytes ≡ true) (joined_pieces 46 word) (joined_small (pieces 46 word) e)

-- the word of an interface is text
pub interface_is_ascii : (word : List ℕ) → is_interface_word word ≡ true → IsAscii word
interface_is_ascii word e = ascii word (word_small word e)

-- and so is that of a method
pub method_is_ascii : (word : List ℕ) → is_method_word word ≡ true → IsAscii word
method_is_ascii word e = interface_is_ascii word (both (is_interface_word word) (nat_le 2 (length (pieces 46 word))) e).0

-- and so is what stands before the last dot of one of a method
pub front_is_ascii : (word : List ℕ) (parts : Option (Bor (List ℕ) × Bor (List ℕ))) (interface method : Bor (List ℕ))
    → option_map (λ (p : Bor (List ℕ) × Bor (List ℕ)). (p.0.now, p.1.now)) parts ≡ split_word word → parts ≡ Some (interface, method)
    → is_method_word word ≡ true → IsAscii interface.now
front_is_ascii word parts interface method split is e =
    go (last_dot word (length word)) (sym (ap (option_map (λ (p : Bor (List ℕ) × Bor (List ℕ)). (p.0.now, p.1.now))) is) ∙ split)
  where
    small_word : list_all is_small word ≡ true
    small_word = word_small word (both (is_interface_word word) (nat_le 2 (length (pieces 46 word))) e).0

    go : (dot : Option ℕ) → ◌≡◌ {A = Option (List ℕ × List ℕ)} (Some (interface.now, method.now))
        (option_map (λ (place : ℕ). (take place word, drop (place + 1) word)) dot)
        → IsAscii interface.now
    go None f = absurd cc
    go (Some place) f =
        let front : interface.now ≡ take place word = ap (λ (parts : Option (List ℕ × List ℕ)). option_map_or (λ (p : List ℕ × List ℕ). p.0) parts []) f in
        subst IsAscii (sym front) (ascii (take place word) (take_small place word small_word))
