-- The text of a string is its token.
use Rattle.std.proofs.Common.{◌≡◌, ℕ, suc, ◌+◌, List, [], ◌∷◌, ◌++◌, length, Bool, true, false, not, cond, ◌==◌, Option, Some, Result, Ok, refl, sym, ◌∙◌, ap, subst, append_assoc, length-append, arith}
use Rattle.std.specs.Prelude.{map}
use Rattle.std.specs.List.{list_all, flat_map}
use Rattle.mojom_ast.specs.declared.token.Sort.TheVariants as sorts
use Rattle.mojom_lexer.specs.Strings.{Part, spelled, is_part, IsStringOf, meaning, then_text, text_of}
use Rattle.mojom_lexer.specs.Strings.Part.{Literal, Escape}
use Rattle.mojom_lexer.specs.Pieces.{IsLongest}
use Rattle.mojom_lexer.specs.steps.Scans.{before_quote}
use Rattle.mojom_lexer.proofs.Runs.{both}
use Rattle.mojom_lexer.proofs.FirstBytes.{eqb_same}
use Rattle.mojom_lexer.proofs.QuoteFronts.{quote_again, quote_longest}
use Rattle.mojom_print.specs.Words.{string_byte, string_text}
use Rattle.mojom_print.proofs.Utf8Texts.{string_utf8}
use Rattle.mojom_print.proofs.Lexes.{Tells, none, one}

part_by : (a b c d : Bool) → ℕ → Part
part_by true b c d x = Escape 34
part_by false true c d x = Escape 92
part_by false false true d x = Escape 110
part_by false false false true x = Escape 116
part_by false false false false x = Literal x

-- the part that a byte is written as
part_for : ℕ → Part
part_for x = part_by (x == 34) (x == 92) (x == 10) (x == 9) x

spelled_by : (a b c d : Bool) (x : ℕ) → spelled (part_by a b c d x) ≡ cond a (92 ∷ 34 ∷ [])
    (cond b (92 ∷ 92 ∷ []) (cond c (92 ∷ 110 ∷ []) (cond d (92 ∷ 116 ∷ []) (x ∷ []))))
unfolding part_by
spelled_by true b c d x = refl
spelled_by false true c d x = refl
spelled_by false false true d x = refl
spelled_by false false false true x = refl
spelled_by false false false false x = refl

spelled_for : (x : ℕ) → spelled (part_for x) ≡ string_byte x
unfolding part_for string_byte
spelled_for x = spelled_by (x == 34) (x == 92) (x == 10) (x == 9) x

good_by : (a b c d : Bool) (x : ℕ) → (x == 34) ≡ a → (x == 92) ≡ b → (x == 10) ≡ c → is_part (part_by a b c d x) ≡ true
unfolding part_by
good_by true b c d x e f g = refl
good_by false true c d x e f g = refl
good_by false false true d x e f g = refl
good_by false false false true x e f g = refl
good_by false false false false x e f g = rw (e, f, g) refl

good_for : (x : ℕ) → is_part (part_for x) ≡ true
unfolding part_for
good_for x = good_by (x == 34) (x == 92) (x == 10) (x == 9) x refl refl refl

meaning_by : (a b c d : Bool) (x : ℕ) → (x == 34) ≡ a → (x == 92) ≡ b → (x == 10) ≡ c → (x == 9) ≡ d → meaning (part_by a b c d x) ≡ Some x
unfolding part_by
meaning_by true b c d x e f g h = ap Some (sym (eqb_same x 34 e))
meaning_by false true c d x e f g h = ap Some (sym (eqb_same x 92 f))
meaning_by false false true d x e f g h = ap Some (sym (eqb_same x 10 g))
meaning_by false false false true x e f g h = ap Some (sym (eqb_same x 9 h))
meaning_by false false false false x e f g h = refl

meaning_for : (x : ℕ) → meaning (part_for x) ≡ Some x
unfolding part_for
meaning_for x = meaning_by (x == 34) (x == 92) (x == 10) (x == 9) x refl refl refl refl

-- the parts that spell the bytes
pub parts_for : List ℕ → List Part
parts_for bytes = map part_for bytes

all_good : (bytes : List ℕ) → list_all is_part (parts_for bytes) ≡ true
unfolding parts_for
all_good [] = refl
all_good (x ∷ xs) = both (is_part (part_for x)) (list_all is_part (map part_for xs)) (good_for x) (all_good xs)

flat_is : (bytes : List ℕ) → flat_map spelled (parts_for bytes) ≡ flat_map string_byte bytes
unfolding parts_for
flat_is [] = refl
flat_is (x ∷ xs) = ap (λ (l : List ℕ). l ++ flat_map spelled (map part_for xs)) (spelled_for x) ∙ ap (λ (l : List ℕ). string_byte x ++ l) (flat_is xs)

text_is : (at : ℕ) (bytes : List ℕ) → text_of at (parts_for bytes) ≡ Ok bytes
unfolding parts_for
text_is at [] = refl
text_is at (x ∷ xs) =
    ap (λ (o : Option ℕ). then_text at o (text_of (at + length (spelled (part_for x))) (map part_for xs))) (meaning_for x)
    ∙ ap (λ (r : Result (List ℕ) ℕ). then_text at (Some x) r) (text_is (at + length (spelled (part_for x))) xs)

string_is : (bytes : List ℕ) → IsStringOf (parts_for bytes) (34 ∷ (flat_map string_byte bytes ++ 34 ∷ []))
string_is bytes = record { are_parts = all_good bytes; is_spelled = ap (λ (l : List ℕ). 34 ∷ (l ++ 34 ∷ [])) (sym (flat_is bytes)) }

closes : (bytes rest : List ℕ) → before_quote false ((flat_map string_byte bytes ++ 34 ∷ []) ++ rest) ≡ Some (length (flat_map string_byte bytes))
closes bytes rest =
    ap (before_quote false) (append_assoc (flat_map string_byte bytes) (34 ∷ []) rest)
    ∙ subst (λ (l : List ℕ). before_quote false (l ++ 34 ∷ rest) ≡ Some (length l)) (flat_is bytes) (quote_again (parts_for bytes) rest (all_good bytes))

string_longest : (bytes rest : List ℕ)
    → IsLongest ((34 ∷ (flat_map string_byte bytes ++ 34 ∷ [])) ++ rest) (length (34 ∷ (flat_map string_byte bytes ++ 34 ∷ [])))
string_longest bytes rest =
    let n : ℕ = length (flat_map string_byte bytes) in
    let m : length (flat_map string_byte bytes ++ 34 ∷ []) ≡ n + 1 = length-append (flat_map string_byte bytes) (34 ∷ []) in
    let e : n + 2 ≡ suc (length (flat_map string_byte bytes ++ 34 ∷ [])) = omega arith in
    subst (λ (k : ℕ). IsLongest ((34 ∷ (flat_map string_byte bytes ++ 34 ∷ [])) ++ rest) k) e
    (quote_longest ((34 ∷ (flat_map string_byte bytes ++ 34 ∷ [])) ++ rest) n refl (closes bytes rest)).0

-- for the texts that have a string
pub string_tells : {p : ℕ → Bool} (bytes : List ℕ) → not (p 34) ≡ true → Tells p none (string_text bytes) (sorts.String bytes ∷ [])
unfolding string_text
string_tells bytes f =
    one none 34 (flat_map string_byte bytes ++ 34 ∷ []) (sorts.String bytes) (parts_for bytes, string_is bytes, text_is 1 bytes)
    (λ g. string_utf8 bytes g.0.text) f (λ rest s. string_longest bytes rest)
