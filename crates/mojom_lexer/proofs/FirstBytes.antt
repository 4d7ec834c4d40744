-- The first byte tells the kind of a piece.
use Rattle.std.proofs.Common.{◌≡◌, ℕ, zero, suc, ◌≤◌, List, [], ◌∷◌, length, take, Bool, true, false, cond, ◌==◌, ◌&&◌, ◌||◌, inl, inr, Option, Some, None, refl, sym, ap, ◌∙◌, subst, arith}
use Rattle.std.specs.Prelude.{is_some}
use Rattle.std.specs.List.{list_all}
use Rattle.std.proofs.lemmas.Bool.Decides.{nat_tests}
use Rattle.mojom_ast.specs.declared.token.Symbol.{Symbol}
use Rattle.mojom_lexer.specs.Bytes.{is_blank, is_digit, is_letter, is_hex_digit, goes_on, is_run, stays_on_line}
use Rattle.mojom_lexer.specs.Words.{single_symbol, symbol_of, symbol_in, symbols}
use Rattle.mojom_lexer.specs.Numbers.{is_decimal, is_hexadecimal, is_number}
use Rattle.mojom_lexer.specs.Pieces.{Kind, Is, IsLongest, BeginsNone, is_line_comment}
use Rattle.mojom_lexer.specs.Pieces.Kind.{Blank, Comment, Word, Numeral, Quoted, Sign}
use Rattle.mojom_lexer.specs.steps.Scans.{kind_of, kind_at}
use Rattle.mojom_lexer.proofs.Runs.{left, right}

abbrev pub first_of : List ℕ → ℕ
first_of [] = 0
first_of (c ∷ cs) = c

or_else : Kind → Option Kind → Kind
or_else k (Some x) = x
or_else k None = k

-- kinds that are there and equal are the same
pub same_kind : (j k : Kind) → Some j ≡ Some k → j ≡ k
unfolding or_else
same_kind j k e = ap (or_else j) e

-- bytes that the test calls equal are the same
pub eqb_same : (a b : ℕ) → (a == b) ≡ true → a ≡ b
eqb_same a b e = grind (arith, nat_tests)

letter_not_blank : (c : ℕ) → is_letter c ≡ true → is_blank c ≡ false
letter_not_blank c e = grind (arith, nat_tests)

digit_not_blank : (c : ℕ) → is_digit c ≡ true → is_blank c ≡ false
digit_not_blank c e = grind (arith, nat_tests)

digit_not_letter : (c : ℕ) → is_digit c ≡ true → is_letter c ≡ false
digit_not_letter c e = grind (arith, nat_tests)

blank_kind : (c : ℕ) → is_blank c ≡ true → kind_of c ≡ Some Blank
blank_kind c e = rw e refl

word_kind : (c : ℕ) → is_letter c ≡ true → kind_of c ≡ Some Word
word_kind c e = rw (letter_not_blank c e, e) refl

numeral_kind : (c : ℕ) → is_digit c ≡ true → kind_of c ≡ Some Numeral
numeral_kind c e = rw (digit_not_blank c e, digit_not_letter c e, e) refl

-- each symbol's character begins a symbol
is_sign : ℕ → Bool
is_sign c = cond (is_blank c) false (cond (is_letter c) false (cond (is_digit c) false (cond (c == 34) false (cond (c == 47) false true))))

in_table : (table : List (ℕ × Symbol)) (c : ℕ) → list_all (λ entry. is_sign entry.0) table ≡ true → is_some (symbol_in table c) ≡ true → is_sign c ≡ true
in_table [] c all e = absurd (cc)
in_table (entry ∷ entries) c all e =
    step (in_table entries c (right (is_sign entry.0) (list_all (λ entry. is_sign entry.0) entries) all)) (c == entry.0) refl e
  where
    step : (is_some (symbol_in entries c) ≡ true → is_sign c ≡ true)
        → (v : Bool) → (c == entry.0) ≡ v → is_some (cond v (Some entry.1) (symbol_in entries c)) ≡ true → is_sign c ≡ true
    step others true f g =
        subst (λ (d : ℕ). is_sign d ≡ true) (sym (eqb_same c entry.0 f)) (left (is_sign entry.0) (list_all (λ entry. is_sign entry.0) entries) all)
    step others false f g = others g

all_signs : list_all (λ entry. is_sign entry.0) symbols ≡ true
unfolding is_sign
all_signs = refl

sign_kind : (c : ℕ) → is_some (single_symbol c) ≡ true → kind_of c ≡ Some Sign
unfolding single_symbol is_sign
sign_kind c e = step (is_blank c) (is_letter c) (is_digit c) (c == 34) (c == 47) (is_some (single_symbol c)) (in_table symbols c all_signs e) e
  where
    step : (b l d q s x : Bool)
        → cond b false (cond l false (cond d false (cond q false (cond s false true)))) ≡ true → x ≡ true
        → cond b (Some Blank) (cond l (Some Word) (cond d (Some Numeral) (cond q (Some Quoted) (cond s (Some Comment) (cond x (Some Sign) None))))) ≡ Some Sign
    step true l d q s x f g = absurd (cc)
    step false true d q s x f g = absurd (cc)
    step false false true q s x f g = absurd (cc)
    step false false false true s x f g = absurd (cc)
    step false false false false true x f g = absurd (cc)
    step false false false false false true f g = refl
    step false false false false false false f g = absurd (cc)

equals_kind : kind_of 61 ≡ Some Sign
unfolding single_symbol
equals_kind = refl

symbol_kind : (c : ℕ) (cs : List ℕ) → is_some (symbol_of (c ∷ cs)) ≡ true → kind_of c ≡ Some Sign
symbol_kind c [] e = sign_kind c e
symbol_kind c (d ∷ []) e = step (c == 61 && d == 62) refl e
  where
    step : (v : Bool)
        → (c == 61 && d == 62) ≡ v → is_some (cond v (Some Rattle.mojom_ast.specs.declared.token.Symbol.TheVariants.Arrow) None) ≡ true
        → kind_of c ≡ Some Sign
    step true f g = subst (λ (b : ℕ). kind_of b ≡ Some Sign) (sym (eqb_same c 61 (left (c == 61) (d == 62) f))) equals_kind
    step false f g = absurd (cc)
symbol_kind c (d ∷ x ∷ cs) e = absurd (cc)

number_digit : (c : ℕ) (cs : List ℕ) → is_number (c ∷ cs) ≡ true → is_digit c ≡ true
number_digit c cs e = step (is_decimal (c ∷ cs)) refl e
  where
    zero_digit : (c == 48) ≡ true → is_digit c ≡ true
    zero_digit f = subst (λ (b : ℕ). is_digit b ≡ true) (sym (eqb_same c 48 f)) refl

    hex : (cs : List ℕ) → is_hexadecimal (c ∷ cs) ≡ true → is_digit c ≡ true
    hex [] f = absurd (cc)
    hex (x ∷ xs) f = zero_digit (left (c == 48) (x == 120 || x == 88) (left (c == 48 && (x == 120 || x == 88)) (is_run is_hex_digit xs) f))

    step : (v : Bool) → is_decimal (c ∷ cs) ≡ v → (v || is_hexadecimal (c ∷ cs)) ≡ true → is_digit c ≡ true
    step true f g = left (is_digit c) (list_all is_digit cs) f
    step false f g = hex cs g

line_first : (c : ℕ) (cs : List ℕ) → is_line_comment (c ∷ cs) ≡ true → c ≡ 47
line_first c [] e = absurd (cc)
line_first c (d ∷ cs) e = eqb_same c 47 (left (c == 47) (d == 47) (left (c == 47 && d == 47) (list_all stays_on_line cs) e))

comment_first : (c : ℕ) (cs : List ℕ) → Is Comment (c ∷ cs) → c ≡ 47
comment_first c cs (inl e) = line_first c cs e
comment_first c cs (inr e) = ap first_of e.1.is_spelled

quoted_first : (c : ℕ) (cs : List ℕ) → Is Quoted (c ∷ cs) → c ≡ 34
quoted_first c cs e = ap first_of e.1.is_spelled

-- a piece is of the kind that its first byte begins
pub first_tells : (k : Kind) (c : ℕ) (cs : List ℕ) → Is k (c ∷ cs) → kind_of c ≡ Some k
first_tells Blank c cs e = blank_kind c (left (is_blank c) (list_all is_blank cs) e)
first_tells Comment c cs e = subst (λ (b : ℕ). kind_of b ≡ Some Comment) (sym (comment_first c cs e)) refl
first_tells Word c cs e = word_kind c (left (is_letter c) (list_all goes_on cs) e)
first_tells Numeral c cs e = numeral_kind c (number_digit c cs e)
first_tells Quoted c cs e = subst (λ (b : ℕ). kind_of b ≡ Some Quoted) (sym (quoted_first c cs e)) refl
first_tells Sign c cs e = symbol_kind c cs e

-- no piece is empty
pub none_empty : (k : Kind) → Is k [] → ⊥
none_empty Blank e = absurd (cc)
none_empty Comment (inl e) = absurd (cc)
none_empty Comment (inr e) = let h = e.1.is_spelled in absurd (cc)
none_empty Word e = absurd (cc)
none_empty Numeral e = absurd (cc)
none_empty Quoted e = let h = e.1.is_spelled in absurd (cc)
none_empty Sign e = absurd (cc)

-- the kind of a piece at the front is the one that begins there
pub only_kind : (j k : Kind) (bs : List ℕ) (n : ℕ) → kind_at bs ≡ Some k → Is j (take n bs) → Is k (take n bs)
only_kind j k [] zero e h = absurd (cc)
only_kind j k [] (suc n) e h = absurd (cc)
only_kind j k (c ∷ cs) zero e h = absurd (none_empty j h)
only_kind j k (c ∷ cs) (suc n) e h = subst (λ (i : Kind). Is i (c ∷ take n cs)) (same_kind j k (sym (first_tells j c (take n cs) h) ∙ e)) h

-- where no kind begins no piece stands
pub none_kind : (j : Kind) (bs : List ℕ) (n : ℕ) → kind_at bs ≡ None → Is j (take n bs) → ⊥
none_kind j [] zero e h = none_empty j h
none_kind j [] (suc n) e h = none_empty j h
none_kind j (c ∷ cs) zero e h = none_empty j h
none_kind j (c ∷ cs) (suc n) e h = let f = first_tells j c (take n cs) h in absurd (cc)

-- the longest of its kind is the longest piece
pub longest_of : (k : Kind) (bs : List ℕ) (len : ℕ)
    → kind_at bs ≡ Some k → len ≤ length bs → Is k (take len bs) → ((more : ℕ) → more ≤ length bs → Is k (take more bs) → more ≤ len)
    → IsLongest bs len
longest_of k bs len e le h most = record {
  within = le;
  is = (k, h);
  longest = λ more lt within piece. let m : more ≤ len = most more within (only_kind piece.0 k bs more e piece.1) in omega arith;
}

-- where none of the kind that begins there stands, no piece does
pub none_of : (k : Kind) (bs : List ℕ) → kind_at bs ≡ Some k → ((len : ℕ) → Is k (take len bs) → ⊥) → BeginsNone bs
none_of k bs e none len piece = none len (only_kind piece.0 k bs len e piece.1)

-- what the first byte passes, by the kind that begins there
Tested : Bool → Bool → Bool → Bool → Bool → Bool → Kind → Type 0
Tested b l d q s x Blank = b ≡ true
Tested b l d q s x Comment = s ≡ true
Tested b l d q s x Word = l ≡ true
Tested b l d q s x Numeral = d ≡ true
Tested b l d q s x Quoted = q ≡ true
Tested b l d q s x Sign = x ≡ true

tested : (b l d q s x : Bool) (k : Kind)
    → cond b (Some Blank) (cond l (Some Word) (cond d (Some Numeral) (cond q (Some Quoted) (cond s (Some Comment) (cond x (Some Sign) None))))) ≡ Some k
    → Tested b l d q s x k
unfolding Tested
tested true l d q s x k e = subst (λ (i : Kind). Tested true l d q s x i) (same_kind Blank k e) refl
tested false true d q s x k e = subst (λ (i : Kind). Tested false true d q s x i) (same_kind Word k e) refl
tested false false true q s x k e = subst (λ (i : Kind). Tested false false true q s x i) (same_kind Numeral k e) refl
tested false false false true s x k e = subst (λ (i : Kind). Tested false false false true s x i) (same_kind Quoted k e) refl
tested false false false false true x k e = subst (λ (i : Kind). Tested false false false false true x i) (same_kind Comment k e) refl
tested false false false false false true k e = subst (λ (i : Kind). Tested false false false false false true i) (same_kind Sign k e) refl
tested false false false false false false k e = absurd (cc)

passes_for : (c : ℕ) (k : Kind) → kind_of c ≡ Some k → Tested (is_blank c) (is_letter c) (is_digit c) (c == 34) (c == 47) (is_some (single_symbol c)) k
passes_for c k e = tested (is_blank c) (is_letter c) (is_digit c) (c == 34) (c == 47) (is_some (single_symbol c)) k e

-- what begins blank space
pub begins_blank : (c : ℕ) → kind_of c ≡ Some Blank → is_blank c ≡ true
unfolding Tested
begins_blank c e = passes_for c Blank e

-- what begins a word
pub begins_word : (c : ℕ) → kind_of c ≡ Some Word → is_letter c ≡ true
unfolding Tested
begins_word c e = passes_for c Word e

-- what begins a number
pub begins_numeral : (c : ℕ) → kind_of c ≡ Some Numeral → is_digit c ≡ true
unfolding Tested
begins_numeral c e = passes_for c Numeral e

-- what begins a string
pub begins_quoted : (c : ℕ) → kind_of c ≡ Some Quoted → c ≡ 34
unfolding Tested
begins_quoted c e = eqb_same c 34 (passes_for c Quoted e)

-- what begins a symbol
pub begins_sign : (c : ℕ) → kind_of c ≡ Some Sign → is_some (single_symbol c) ≡ true
unfolding Tested
begins_sign c e = passes_for c Sign e
