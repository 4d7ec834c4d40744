-- The words of endpoints.
use Rattle.std.proofs.Common.{◌≡◌, ◌<◌, ◌≤◌, ℕ, List, [], ◌∷◌, ◌++◌, length, refl, sym, ap, ◌∙◌, true, false, arith, lit≤, append-nil}
use Rattle.std.specs.Prelude.{Bool, None, not, ◌==◌, ◌&&◌, nat_le, decimal}
use Rattle.std.specs.List.{list_all}
use Rattle.std.specs.Char.{digit_value}
use Rattle.std.specs.Str.Parse.{AllDigits}
use Rattle.std.proofs.lemmas.Bool.Decides.{nat_tests}
use Rattle.std.proofs.lemmas.Fmt.{decimal_is_IsNumeral}
use Rattle.script_words.specs.Pieces.{pieces}
use Rattle.script_words.specs.Letters.{is_name, is_name_byte, endpoint_word, is_small_letter}
use Rattle.script_forms.specs.steps.Numbers.{IsEndpoint, NoEndpoint, SpellsNumber}
use Rattle.script_words.proofs.Splits.{joined, lacks, one_part, pieces_joined, joined_pieces, and_true, both}

-- no digit is the mark
no_mark : (x : ℕ) → digit_value x < 10 → not (x == 35) ≡ true
no_mark x d = go (x == 35) refl
  where
    go : (b : Bool) → (x == 35) ≡ b → not b ≡ true
    go false e = refl
    go true e =
        let f : x ≡ 35 = grind (arith, nat_tests) in
        let g : digit_value x ≡ digit_value 35 = ap digit_value f in
        let h : 10 ≤ digit_value 35 = lit≤ tt in absurd (omega (arith, d, g, h))

digits_lack : (ds : List ℕ) → AllDigits 10 ds → lacks 35 ds
digits_lack [] a = refl
digits_lack (x ∷ ds) a = and_true (not (x == 35)) (list_all (λ b. not (b == 35)) ds) (no_mark x a.0) (digits_lack ds a.1)

-- nor is a byte of a name
byte_unlike : (c : ℕ) → is_name_byte c ≡ true → not (c == 35) ≡ true
byte_unlike c h = go (c == 35) refl
  where
    go : (b : Bool) → (c == 35) ≡ b → not b ≡ true
    go false e = refl
    go true e =
        let f : c ≡ 35 = grind (arith, nat_tests) in
        let g : is_name_byte c ≡ false = ap is_name_byte f in absurd cc

bytes_lack : (cs : List ℕ) → list_all is_name_byte cs ≡ true → lacks 35 cs
bytes_lack [] h = refl
bytes_lack (c ∷ cs) h =
    let k = both (is_name_byte c) (list_all is_name_byte cs) h in
    and_true (not (c == 35)) (list_all (λ b. not (b == 35)) cs) (byte_unlike c k.0) (bytes_lack cs k.1)

letter_unlike : (c : ℕ) → is_small_letter c ≡ true → not (c == 35) ≡ true
letter_unlike c h = byte_unlike c (rw h refl)

name_lacks : (name : List ℕ) → is_name name ≡ true → lacks 35 name
name_lacks [] h = absurd cc
name_lacks (c ∷ cs) h =
    let k = both (is_small_letter c) (list_all is_name_byte cs && nat_le (length cs) 31) h in
    let l = both (list_all is_name_byte cs) (nat_le (length cs) 31) k.1 in
    and_true (not (c == 35)) (list_all (λ b. not (b == 35)) cs) (letter_unlike c k.0) (bytes_lack cs l.0)

-- the parts of an endpoint's word
pub parts_of : (word name : List ℕ) (id : ℕ) → IsEndpoint word name id → pieces 35 word ≡ name ∷ decimal id ∷ []
parts_of word name id (e, named, small) =
    let whole : joined 35 (name ∷ decimal id ∷ []) ≡ word = ap (λ t. name ++ 35 ∷ t) (append-nil (decimal id)) ∙ sym e in
    sym (ap (pieces 35) whole)
    ∙ pieces_joined 35 (name ∷ decimal id ∷ []) (omega arith)
    (name_lacks name named, (digits_lack (decimal id) (decimal_is_IsNumeral id (omega (arith, small))).0.1, tt))

-- a name is one part
pub name_parts : (name : List ℕ) → is_name name ≡ true → pieces 35 name ≡ name ∷ []
name_parts name named = one_part 35 name (name_lacks name named)

-- the word of two parts
pub word_is : (word name digits : List ℕ) (id : ℕ) → pieces 35 word ≡ name ∷ digits ∷ [] → digits ≡ decimal id → word ≡ endpoint_word name id
word_is word name digits id e d =
    sym (joined_pieces 35 word) ∙ (ap (joined 35) e ∙ (ap (λ t. name ++ 35 ∷ t) (append-nil digits) ∙ ap (λ t. name ++ 35 ∷ t) d))

-- parts that are those of no endpoint
pub no_parts : (word : List ℕ) → ((a b : List ℕ) → pieces 35 word ≡ a ∷ b ∷ [] → ⊥) → NoEndpoint word
no_parts word none name id is = none name (decimal id) (parts_of word name id is)

pub no_name : (word a b : List ℕ) → pieces 35 word ≡ a ∷ b ∷ [] → is_name a ≡ false → NoEndpoint word
no_name word a b e h name id is =
    let p : name ∷ decimal id ∷ [] ≡ a ∷ b ∷ [] = sym (parts_of word name id is) ∙ e in
    let same : name ≡ a = cc in
    let yes : is_name name ≡ true = is.1 in
    let no : is_name name ≡ false = ap is_name same ∙ h in absurd cc

pub no_number : (word a b : List ℕ) → pieces 35 word ≡ a ∷ b ∷ [] → SpellsNumber b None → NoEndpoint word
no_number word a b e none name id is =
    let p : name ∷ decimal id ∷ [] ≡ a ∷ b ∷ [] = sym (parts_of word name id is) ∙ e in
    let same : b ≡ decimal id = cc in
    none id is.2 same
