-- The laws of words that are known beforehand: a blank or a line's end stands behind them.
use Rattle.std.proofs.Common.{◌≡◌, ℕ, List, [], ◌∷◌, map, Bool, true, false, ◌==◌, ◌&&◌, ◌||◌, inl, inr, refl, sym, ap, ◌∙◌, subst, arith}
use Rattle.std.specs.Prelude.{not, if◌then◌else◌}
use Rattle.std.specs.List.{list_all}
use Rattle.std.proofs.lemmas.Bool.{false≢true}
use Rattle.std.proofs.lemmas.Bool.Decides.{nat_tests}
use Rattle.byte_rules.specs.Among.{IsAmong}
use Rattle.byte_rules.proofs.Among.{good_among}
use Rattle.byte_rules.proofs.Good.{Good, Apart, good_value}
use Rattle.value_text.proofs.NumberLaws.{both_left, both_right}
use Rattle.line_parts.specs.Signs.{line_end, blank}
use Rattle.line_parts.specs.Keywords.{keyword}

-- a byte that a word may have
abbrev pub is_letter : ℕ → Bool
is_letter b = not (b == line_end) && not (b == blank)

-- a word that begins with one of these
abbrev pub is_word_of : (ℕ → Bool) → List ℕ → Bool
is_word_of S [] = false
is_word_of S (b ∷ bs) = S b && list_all is_letter bs

-- whether two words are the same
abbrev pub same : List ℕ → List ℕ → Bool
same [] [] = true
same [] (b ∷ w) = false
same (a ∷ v) [] = false
same (a ∷ v) (b ∷ w) = if a == b then same v w else false

-- a word is none of these
abbrev pub unlike : List ℕ → List (List ℕ) → Bool
unlike w [] = true
unlike w (v ∷ vs) = not (same w v) && unlike w vs

-- no two of these are the same
abbrev pub all_unlike : List (List ℕ) → Bool
all_unlike [] = true
all_unlike (w ∷ ws) = unlike w ws && all_unlike ws

same_byte : (b : ℕ) → (b == b) ≡ true
same_byte b = grind (arith, nat_tests)

same_self : (w : List ℕ) → same w w ≡ true
same_self [] = refl
same_self (b ∷ w) = rw (same_byte b) (same_self w)

module _ {A : Type 0} (spelled : A → List ℕ) where
  not_again : (w : List ℕ) (xs : List A) (y : A) → unlike w (map spelled xs) ≡ true → IsAmong y xs → w ≡ spelled y → ⊥
  not_again w [] y u i e = absurd i
  not_again w (x ∷ xs) y u (inl s) e =
      let t : same w (spelled x) ≡ true = subst (λ (v : List ℕ). same w v ≡ true) (e ∙ ap spelled s) (same_self w) in
      let n : not (same w (spelled x)) ≡ true = both_left (not (same w (spelled x))) (unlike w (map spelled xs)) u in
      absurd (false≢true (subst (λ (b : Bool). not b ≡ true) t n))
  not_again w (x ∷ xs) y u (inr i) e = not_again w xs y (both_right (not (same w (spelled x))) (unlike w (map spelled xs)) u) i e

  one_of : (xs : List A) (x y : A) → all_unlike (map spelled xs) ≡ true → IsAmong x xs → IsAmong y xs → spelled x ≡ spelled y → x ≡ y
  one_of [] x y u i j e = absurd i
  one_of (z ∷ zs) x y u (inl s) (inl t) e = s ∙ sym t
  one_of (z ∷ zs) x y u (inl s) (inr j) e =
      absurd (not_again (spelled z) zs y (both_left (unlike (spelled z) (map spelled zs)) (all_unlike (map spelled zs)) u) j (ap spelled (sym s) ∙ e))
  one_of (z ∷ zs) x y u (inr i) (inl t) e =
      absurd (not_again (spelled z) zs x (both_left (unlike (spelled z) (map spelled zs)) (all_unlike (map spelled zs)) u) i (ap spelled (sym t) ∙ sym e))
  one_of (z ∷ zs) x y u (inr i) (inr j) e =
      one_of zs x y (both_right (unlike (spelled z) (map spelled zs)) (all_unlike (map spelled zs)) u) i j e

  pub one_passes : (p : List ℕ → Bool) (xs : List A) (x : A) → list_all p (map spelled xs) ≡ true → IsAmong x xs → p (spelled x) ≡ true
  one_passes p [] x h i = absurd i
  one_passes p (y ∷ ys) x h (inl s) = ap (λ (z : A). p (spelled z)) s ∙ both_left (p (spelled y)) (list_all p (map spelled ys)) h
  one_passes p (y ∷ ys) x h (inr i) = one_passes p ys x (both_right (p (spelled y)) (list_all p (map spelled ys)) h) i

letters_of : (S : ℕ → Bool) (w : List ℕ) → is_word_of S w ≡ true
    → (b : ℕ) × (bs : List ℕ) × (w ≡ b ∷ bs) × (S b ≡ true) × (list_all is_letter bs ≡ true)
letters_of S [] h = absurd (false≢true h)
letters_of S (b ∷ bs) h = (b, bs, refl, both_left (S b) (list_all is_letter bs) h, both_right (S b) (list_all is_letter bs) h)

-- the words of a table
abbrev pub words_in : {A : Type 0} → List (A × List ℕ) → List (List ℕ)
words_in {A} table = map (λ (entry : A × List ℕ). entry.1) table

pub good_keyword : {A : Type 0} (S : ℕ → Bool) (first : A × List ℕ) (rest : List (A × List ℕ)) → all_unlike (words_in (first ∷ rest)) ≡ true
    → list_all (is_word_of S) (words_in (first ∷ rest)) ≡ true → Good S is_letter (keyword (first ∷ rest))
good_keyword {A} S first rest unlike letters =
    good_value (λ (entry : A × List ℕ). entry.0) (good_among S is_letter first (λ (entry : A × List ℕ). entry.1) (first ∷ rest) (record {
      one = λ x y i j e. one_of (λ (entry : A × List ℕ). entry.1) (first ∷ rest) x y unlike i j e;
      first = λ x i. letters_of S x.1 (one_passes (λ (entry : A × List ℕ). entry.1) (is_word_of S) (first ∷ rest) x letters i);
    }))

-- the same of a table that is not empty
abbrev pub has_entry : {A : Type 0} → List A → Bool
has_entry [] = false
has_entry (x ∷ xs) = true

pub good_table : {A : Type 0} (S : ℕ → Bool) (table : List (A × List ℕ)) → has_entry table ≡ true → all_unlike (words_in table) ≡ true
    → list_all (is_word_of S) (words_in table) ≡ true → Good S is_letter (keyword table)
good_table S [] some unlike letters = absurd (false≢true some)
good_table S (first ∷ rest) some unlike letters = good_keyword S first rest unlike letters

-- no word goes on at a blank or a line's end
pub apart_blank : Apart (λ b. b == blank) is_letter
apart_blank b e = grind (arith, nat_tests)

-- a blank or the end of the line ends a word
abbrev pub ends_word : ℕ → Bool
ends_word b = (b == blank) || (b == line_end)

pub apart_end : Apart ends_word is_letter
apart_end b e = grind (arith, nat_tests)
