-- Names with a dot between them: they come apart in one way at the last dot, and are a word.
use Rattle.std.proofs.Common.{◌≡◌, ℕ, ◌||◌, Bool, false, true, List, [], ◌∷◌, ◌++◌, refl, sym, ap, ◌∙◌, subst, inl, inr, codes}
use Rattle.std.specs.List.{list_all, list_any}
use Rattle.std.specs.Str.{bytes_eq}
use Rattle.std.proofs.lemmas.Bool.{and_from}
use Rattle.std.proofs.lemmas.Slice.Eq.{bytes_eq-Decides}
use Rattle.value_text.proofs.NumberLaws.{both_left, both_right}
use Rattle.line_parts.specs.Names.{is_word}
use Rattle.line_parts.specs.Signs.{dot}
use Rattle.schema_laws.proofs.Among.{IsAmong}
use Rattle.printed_schemas.proofs.WordNames.{is_not_blank, is_plain_byte, is_plain}

-- texts that are one, and texts that differ

pub same_text : (text : List ℕ) → bytes_eq text text ≡ true
same_text text = (bytes_eq-Decides text text).1 refl

pub differ : (one other : List ℕ) → (one ≡ other → ⊥) → bytes_eq one other ≡ false
differ one other apart = go (bytes_eq one other) refl
  where
    go : (b : Bool) → bytes_eq one other ≡ b → b ≡ false
    go true e = absurd (apart ((bytes_eq-Decides one other).0 e))
    go false e = refl

pub apart : (one other : List ℕ) → bytes_eq one other ≡ false → one ≡ other → ⊥
apart one other e same = let is : bytes_eq one other ≡ true = (bytes_eq-Decides one other).1 same in absurd (cc)

-- what is none of these differs from each
pub differs_from : (one : List ℕ) (others : List (List ℕ)) (other : List ℕ) → list_any (bytes_eq one) others ≡ false → IsAmong others other
    → bytes_eq one other ≡ false
differs_from one [] other e among = absurd among
differs_from one (x ∷ xs) other e among = go (bytes_eq one x) refl e (differs_from one xs other) among
  where
    go : (b : Bool) → bytes_eq one x ≡ b → (b || list_any (bytes_eq one) xs) ≡ false
        → (list_any (bytes_eq one) xs ≡ false → IsAmong xs other → bytes_eq one other ≡ false) → IsAmong (x ∷ xs) other → bytes_eq one other ≡ false
    go true is e rest among = absurd (cc)
    go false is e rest (inl same) = ap (bytes_eq one) (sym same) ∙ is
    go false is e rest (inr among) = rest e among

-- the last dot

has_dot : (front last : List ℕ) → list_all is_plain_byte (front ++ dot ∷ last) ≡ true → ⊥
has_dot [] last e = absurd (cc)
has_dot (b ∷ bs) last e = has_dot bs last (both_right (is_plain_byte b) (list_all is_plain_byte (bs ++ dot ∷ last)) e)

-- what has no dot stands behind the last one
pub same_front : (one other last other_last : List ℕ) → list_all is_plain_byte last ≡ true → list_all is_plain_byte other_last ≡ true
    → one ++ dot ∷ last ≡ other ++ dot ∷ other_last → one ≡ other
same_front [] [] last other_last p q e = refl
same_front [] (y ∷ ys) last other_last p q e =
    let same : last ≡ ys ++ dot ∷ other_last = cc in
    absurd (has_dot ys other_last (subst (λ (bs : List ℕ). list_all is_plain_byte bs ≡ true) same p))
same_front (x ∷ xs) [] last other_last p q e =
    let same : xs ++ dot ∷ last ≡ other_last = cc in
    absurd (has_dot xs last (subst (λ (bs : List ℕ). list_all is_plain_byte bs ≡ true) (sym same) q))
same_front (x ∷ xs) (y ∷ ys) last other_last p q e =
    let head : x ≡ y = cc in
    let rest : xs ++ dot ∷ last ≡ ys ++ dot ∷ other_last = cc in
    ap (λ (b : ℕ). b ∷ xs) head ∙ ap (λ (bs : List ℕ). y ∷ bs) (same_front xs ys last other_last p q rest)

pub same_back : (front one other : List ℕ) → front ++ one ≡ front ++ other → one ≡ other
same_back [] one other e = e
same_back (b ∷ bs) one other e = let rest : bs ++ one ≡ bs ++ other = cc in same_back bs one other rest

-- words

-- each byte of a plain name passes
pub plain_bytes : (name : List ℕ) → is_plain name ≡ true → list_all is_plain_byte name ≡ true
plain_bytes [] e = refl
plain_bytes (b ∷ bs) e = e

pub word_bytes : (name : List ℕ) → is_word name ≡ true → list_all is_not_blank name ≡ true
word_bytes [] e = refl
word_bytes (b ∷ bs) e = e

pub no_blanks : (bytes : List ℕ) → list_all is_plain_byte bytes ≡ true → list_all is_not_blank bytes ≡ true
no_blanks [] e = refl
no_blanks (b ∷ bs) e =
    let here = both_left (is_plain_byte b) (list_all is_plain_byte bs) e in
    and_from (is_not_blank b) (list_all is_not_blank bs) (both_left (is_not_blank b) _ here)
    (no_blanks bs (both_right (is_plain_byte b) (list_all is_plain_byte bs) e))

pub none_blank : (one other : List ℕ) → list_all is_not_blank one ≡ true → list_all is_not_blank other ≡ true → list_all is_not_blank (one ++ other) ≡ true
none_blank [] other p q = q
none_blank (b ∷ bs) other p q =
    and_from (is_not_blank b) (list_all is_not_blank (bs ++ other)) (both_left (is_not_blank b) (list_all is_not_blank bs) p)
    (none_blank bs other (both_right (is_not_blank b) (list_all is_not_blank bs) p) q)

-- names without blanks and a dot between them are a word
pub dotted_word : (outer inner : List ℕ) → list_all is_not_blank outer ≡ true → list_all is_not_blank inner ≡ true
    → is_word (outer ++ (codes "." ++ inner)) ≡ true
dotted_word [] inner p q = q
dotted_word (b ∷ bs) inner p q = none_blank (b ∷ bs) (dot ∷ inner) p q

pub plain_word : (name : List ℕ) → is_plain name ≡ true → is_word name ≡ true
plain_word [] e = e
plain_word (b ∷ bs) e = no_blanks (b ∷ bs) e
