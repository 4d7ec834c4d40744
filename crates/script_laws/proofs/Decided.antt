-- What can be decided: it holds, or it doesn't.
use Rattle.std.proofs.Common.{◌≡◌, ◌<◌, ℕ, zero, suc, Bool, true, false, List, [], ◌∷◌, length, Result, Ok, Err, refl, sym, ap, ◌∙◌, subst, arith, inl, inr}
use Rattle.std.specs.Prelude.{◌⊎◌, ◌==◌, codes}
use Rattle.std.specs.Str.{bytes_eq}
use Rattle.std.proofs.lemmas.Slice.Eq.{bytes_eq-Decides}
use Rattle.hex.specs.Hex.{decode_of, encode_lower}
use Rattle.hex.specs.declared.error.FromHexError.{FromHexError}
use Rattle.hex.proofs.HexLemmas.{decode_of-encode_lower}
use Rattle.script_words.specs.Letters.{IsHexOf, IsHexWord}
use Rattle.script_forms.proofs.Hexes.{never_empty, spelled_again, spelled_otherwise}

-- it is decided whether this holds
abbrev pub Decided : Type 0 → Type 0
Decided A = A ⊎ (A → ⊥)

-- by a test
pub by_test : (b : Bool) → Decided (b ≡ true)
by_test true = inl refl
by_test false = inr (λ e. absurd (let f : false ≡ true = e in cc))

-- two at once
pub both : {A B : Type 0} → Decided A → Decided B → Decided (A × B)
both (inl a) (inl b) = inl (a, b)
both (inl a) (inr other) = inr (λ x. other x.1)
both (inr other) d = inr (λ x. other x.0)

-- whether a number is below another
pub below : (m n : ℕ) → Decided (m < n)
below m zero = inr (λ e. absurd (omega (arith, e)))
below zero (suc n) = inl (omega arith)
below (suc m) (suc n) = go (below m n)
  where
    go : Decided (m < n) → Decided (suc m < suc n)
    go (inl e) = inl (omega (arith, e))
    go (inr other) = inr (λ e. other (omega (arith, e)))

-- words, and lists of them, are the same
pub same_word : (a b : List ℕ) → Decided (a ≡ b)
same_word a b = go (bytes_eq a b) refl
  where
    go : (t : Bool) → bytes_eq a b ≡ t → Decided (a ≡ b)
    go true e = inl ((bytes_eq-Decides a b).0 e)
    go false e = inr (λ s. let f : bytes_eq a b ≡ true = (bytes_eq-Decides a b).1 s in absurd cc)

-- as are lists of words
pub same_words : (xs ys : List (List ℕ)) → Decided (xs ≡ ys)
same_words [] [] = inl refl
same_words [] (y ∷ ys) = inr (λ e. absurd cc)
same_words (x ∷ xs) [] = inr (λ e. absurd cc)
same_words (x ∷ xs) (y ∷ ys) = go (same_word x y) (same_words xs ys)
  where
    go : Decided (x ≡ y) → Decided (xs ≡ ys) → Decided (◌≡◌ {A = List (List ℕ)} (x ∷ xs) (y ∷ ys))
    go (inl e) (inl f) = inl (cc)
    go (inl e) (inr other) = inr (λ g. other cc)
    go (inr other) d = inr (λ g. other cc)

-- of what can be in one way alone, that way decides
pub by_one : {A : Type 0} (P : A → Type 0) (x : A) → Decided (P x) → ((a : A) → P a → x ≡ a) → Decided ((a : A) × P a)
by_one P x (inl is) one = inl (x, is)
by_one P x (inr other) one = inr (λ a. other (subst P (sym (one a.0 a.1)) a.1))

-- a word of bytes in hexadecimal
pub hex_word : (word : List ℕ) → Decided (IsHexWord word)
hex_word word = by_length (length word == 0) refl
  where
    read : (length word == 0) ≡ false → (dash : Bool) → bytes_eq word (codes "-") ≡ dash → Decided (IsHexWord word)
    read some true e =
        inl ([], ((λ i. omega arith), (bytes_eq-Decides word (codes "-")).0 e))
    read some false e = by_digits (decode_of word) refl
      where
        bytes_of : (bytes : List ℕ) → decode_of word ≡ Ok bytes → (t : Bool) → bytes_eq (encode_lower bytes) word ≡ t → Decided (IsHexWord word)
        bytes_of bytes got true s = inl (bytes, spelled_again word bytes (encode_lower bytes) some got refl (sym s))
        bytes_of bytes got false s = inr (spelled_otherwise word bytes (encode_lower bytes) (sym e) got refl (sym s))

        no_bytes : (error : FromHexError) → decode_of word ≡ Err error → (bytes : List ℕ) → IsHexOf word bytes → ⊥
        no_bytes error got [] is = let f : bytes_eq word (codes "-") ≡ true = (bytes_eq-Decides word (codes "-")).1 is.1 in cc
        no_bytes error got (b ∷ bs) is = let f = sym got ∙ (ap decode_of is.1 ∙ decode_of-encode_lower (b ∷ bs) is.0) in cc

        by_digits : (r : Result (List ℕ) FromHexError) → decode_of word ≡ r → Decided (IsHexWord word)
        by_digits (Ok bytes) got = bytes_of bytes got (bytes_eq (encode_lower bytes) word) refl
        by_digits (Err error) got = inr (λ is. no_bytes error got is.0 is.1)

    by_length : (none : Bool) → (length word == 0) ≡ none → Decided (IsHexWord word)
    by_length true e = inr (never_empty word e)
    by_length false e = read e (bytes_eq word (codes "-")) refl

-- three at once, four, five and six
pub three : {A B C : Type 0} → Decided A → Decided B → Decided C → Decided (A × B × C)
three {A} {B} {C} a b c = go (both (both a b) c)
  where
    go : Decided ((A × B) × C) → Decided (A × B × C)
    go (inl x) = inl (x.0.0, x.0.1, x.1)
    go (inr other) = inr (λ x. other ((x.0, x.1), x.2))

-- four at once
pub four : {A B C D : Type 0} → Decided A → Decided B → Decided C → Decided D → Decided (A × B × C × D)
four {A} {B} {C} {D} a b c d = go (both (three a b c) d)
  where
    go : Decided ((A × B × C) × D) → Decided (A × B × C × D)
    go (inl x) = inl (x.0.0, x.0.1, x.0.2, x.1)
    go (inr other) = inr (λ x. other ((x.0, x.1, x.2), x.3))

-- five at once
pub five : {A B C D E : Type 0} → Decided A → Decided B → Decided C → Decided D → Decided E → Decided (A × B × C × D × E)
five {A} {B} {C} {D} {E} a b c d e = go (both (four a b c d) e)
  where
    go : Decided ((A × B × C × D) × E) → Decided (A × B × C × D × E)
    go (inl x) = inl (x.0.0, x.0.1, x.0.2, x.0.3, x.1)
    go (inr other) = inr (λ x. other ((x.0, x.1, x.2, x.3), x.4))

-- and six
pub six : {A B C D E F : Type 0} → Decided A → Decided B → Decided C → Decided D → Decided E → Decided F → Decided (A × B × C × D × E × F)
six {A} {B} {C} {D} {E} {F} a b c d e f = go (both (five a b c d e) f)
  where
    go : Decided ((A × B × C × D × E) × F) → Decided (A × B × C × D × E × F)
    go (inl x) = inl (x.0.0, x.0.1, x.0.2, x.0.3, x.0.4, x.1)
    go (inr other) = inr (λ x. other ((x.0, x.1, x.2, x.3, x.4), x.5))
