-- The texts of words and symbols are these tokens.
use Rattle.std.proofs.Common.{◌≡◌, ℕ, zero, suc, ◌≤◌, ◌<◌, List, [], ◌∷◌, ◌++◌, length, take, Bool, true, false, not, ◌&&◌, Some, None, refl, sym, subst, length-append, arith, codes, nat_eq}
use Rattle.std.specs.Prelude.{IsUtf8}
use Rattle.std.specs.Str.{IsAscii}
use Rattle.std.proofs.Common.{lit<}
use Rattle.std.proofs.lemmas.Str.{IsUtf8-append, IsUtf8-from_ascii}
use Rattle.std.specs.List.{list_all, starts_with}
use Rattle.std.proofs.Math.Seq.{take-append_seam}
use Rattle.mojom_ast.specs.declared.token.Symbol as symbol
use Rattle.mojom_ast.specs.declared.token.Sort.{Sort}
use Rattle.mojom_ast.specs.declared.token.Sort.TheVariants as sorts
use Rattle.mojom_lexer.specs.Bytes.{is_letter, goes_on}
use Rattle.mojom_lexer.specs.Words.{is_word, keyword_of, single_symbol}
use Rattle.mojom_lexer.specs.Pieces.{IsLongest}
use Rattle.mojom_lexer.specs.Pieces.Kind.{Word, Sign}
use Rattle.mojom_lexer.specs.Lexed.{SpellsSort}
use Rattle.mojom_lexer.specs.steps.Scans.{kind_of}
use Rattle.mojom_lexer.proofs.Runs.{left, right, both, word_utf8}
use Rattle.mojom_lexer.proofs.FirstBytes.{first_tells, longest_of}
use Rattle.mojom_lexer.proofs.SignFronts.{symbol_longest, arrow_longest}
use Rattle.mojom_print.proofs.Lexes.{stops, run_stops, Lexes, Tells, none, stops_none, one}

-- a front as long as itself
pub whole_front : (xs rest : List ℕ) → length xs ≤ length (xs ++ rest)
whole_front xs rest = let e = length-append xs rest in omega arith

letter_on : (c : ℕ) → is_letter c ≡ true → goes_on c ≡ true
letter_on c e = rw e refl

-- for words: each byte goes on
pub word_each : (bs : List ℕ) → is_word bs ≡ true → list_all goes_on bs ≡ true
word_each [] e = refl
word_each (c ∷ cs) e =
    both (goes_on c) (list_all goes_on cs) (letter_on c (left (is_letter c) (list_all goes_on cs) e)) (right (is_letter c) (list_all goes_on cs) e)

-- a word before what goes on no word
pub word_longest : (c : ℕ) (cs rest : List ℕ) → is_word (c ∷ cs) ≡ true → stops goes_on rest ≡ true → IsLongest ((c ∷ cs) ++ rest) (length (c ∷ cs))
word_longest c cs rest e s =
    longest_of Word ((c ∷ cs) ++ rest) (length (c ∷ cs)) (first_tells Word c cs e) (whole_front (c ∷ cs) rest)
    (subst (λ (bs : List ℕ). is_word bs ≡ true) (sym (take-append_seam (c ∷ cs) rest)) e)
    (λ more le h. run_stops goes_on (c ∷ cs) rest s more le (word_each (take more ((c ∷ cs) ++ rest)) h))

-- for the texts that have a word
pub word_tells : (c : ℕ) (cs : List ℕ) (s : Sort) → is_word (c ∷ cs) ≡ true → SpellsSort s (c ∷ cs) → Tells none goes_on (c ∷ cs) (s ∷ [])
word_tells c cs s w h = one goes_on c cs s h (λ g. word_utf8 (c ∷ cs) w) refl (λ rest e. word_longest c cs rest w e)

-- an identifier
pub of_identifier : (text bytes : List ℕ) → SpellsSort (sorts.Identifier text) bytes → (is_word text ≡ true) × SpellsSort (sorts.Identifier text) text
of_identifier text bytes h =
    let e : bytes ≡ text = sym h.2 in (
      subst (λ (bs : List ℕ). is_word bs ≡ true) e h.0,
      (subst (λ (bs : List ℕ). is_word bs ≡ true) e h.0, subst (λ (bs : List ℕ). keyword_of bs ≡ None) e h.1, refl),
    )

identifier_told : (text : List ℕ) → (is_word text ≡ true) → SpellsSort (sorts.Identifier text) text → (rest : List ℕ) (more : List Sort)
    → stops goes_on rest ≡ true → Lexes rest more → Lexes (text ++ rest) (sorts.Identifier text ∷ more)
identifier_told [] w h rest more s l = absurd (cc)
identifier_told (c ∷ cs) w h rest more s l =
    (word_tells c cs (sorts.Identifier (c ∷ cs)) w h).told (record { bytes = c ∷ cs; spelled = h; text = tt }, tt) rest more s l

-- for the texts that have an identifier
pub identifier_tells : (text : List ℕ) → Tells none goes_on text (sorts.Identifier text ∷ [])
identifier_tells text = record {
  parts = λ h rest s. stops_none (text ++ rest);
  told = λ h rest more s l. let is = of_identifier text h.0.bytes h.0.spelled in identifier_told text is.0 is.1 rest more s l;
  utf8 = λ h. word_utf8 text (of_identifier text h.0.bytes h.0.spelled).0;
}

-- a symbol of one byte that isn't `=`
not_arrow : (c : ℕ) (cs : List ℕ) → nat_eq 61 c ≡ false → starts_with nat_eq (c ∷ cs) (codes "=>") ≡ false
not_arrow c cs e = rw e refl

-- a byte below 128
pub ascii_byte : (c : ℕ) → c < 128 → IsUtf8 (c ∷ [])
ascii_byte c h = IsUtf8-from_ascii (c ∷ []) of
  where
    of : IsAscii (c ∷ [])
    of zero = h
    of (suc i) = lit< tt

-- for the texts that have a symbol
pub symbol_tells : {p : ℕ → Bool} (c : ℕ) (s : symbol.Symbol) → single_symbol c ≡ Some s → kind_of c ≡ Some Sign → nat_eq 61 c ≡ false → c < 128
    → not (p c) ≡ true → Tells p none (c ∷ []) (sorts.Symbol s ∷ [])
symbol_tells c s is k e low f = one none c [] (sorts.Symbol s) is (λ g. ascii_byte c low) f (λ rest t. (symbol_longest c rest s k (not_arrow c rest e) is).0)

-- `=` before what isn't `>`
abbrev pub greater : ℕ → Bool
greater c = nat_eq 62 c

no_arrow : (rest : List ℕ) → stops greater rest ≡ true → starts_with nat_eq (61 ∷ rest) (codes "=>") ≡ false
no_arrow [] s = refl
no_arrow (c ∷ cs) s = of (nat_eq 62 c) s
  where
    of : (v : Bool) → not v ≡ true → (v && true) ≡ false
    of true e = absurd (cc)
    of false e = refl

equals_kind : kind_of 61 ≡ Some Sign
unfolding single_symbol
equals_kind = refl

equals_is : single_symbol 61 ≡ Some symbol.TheVariants.Equals
unfolding single_symbol
equals_is = refl

-- for the texts that have `=`, which `=>` also begins with
pub equals_tells : {p : ℕ → Bool} → not (p 61) ≡ true → Tells p greater (codes "=") (sorts.Symbol symbol.TheVariants.Equals ∷ [])
equals_tells f =
    one greater 61 [] (sorts.Symbol symbol.TheVariants.Equals) equals_is (λ g. ascii_byte 61 (lit< tt)) f
    (λ rest t. (symbol_longest 61 rest symbol.TheVariants.Equals equals_kind (no_arrow rest t) equals_is).0)

-- `=>`
pub arrow_tells : {p : ℕ → Bool} → not (p 61) ≡ true → Tells p none (codes "=>") (sorts.Symbol symbol.TheVariants.Arrow ∷ [])
arrow_tells f =
    one none 61 (62 ∷ []) (sorts.Symbol symbol.TheVariants.Arrow) refl
    (λ g. IsUtf8-append (61 ∷ []) (62 ∷ []) (ascii_byte 61 (lit< tt)) (ascii_byte 62 (lit< tt))) f (λ rest t. (arrow_longest (61 ∷ 62 ∷ rest) refl).0)
