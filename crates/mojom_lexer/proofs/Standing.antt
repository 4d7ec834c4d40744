-- What the reader found stands at the front.
use Rattle.std.proofs.Common.{◌≡◌, ℕ, ◌+◌, ◌-◌, ◌^◌, ◌≤◌, ◌<◌, List, [], ◌∷◌, length, take, drop, get_or, true, false, cond, inl, inr, Option, Some, None, Ok, nat_eq, codes, refl, sym, ap, ◌∙◌, subst, arith}
use Rattle.std.specs.Prelude.{is_some}
use Rattle.std.specs.List.{starts_with}
use Rattle.std.proofs.lemmas.List.{take_all, length-drop, length-take-le}
use Rattle.mojom_ast.specs.declared.token.Sort.{Sort}
use Rattle.mojom_ast.specs.declared.token.Sort.TheVariants.{Number, String, Symbol}
use Rattle.mojom_ast.specs.declared.token.Symbol.TheVariants.{Arrow}
use Rattle.mojom_lexer.specs.declared.error.LexError.{LexError}
use Rattle.mojom_lexer.specs.declared.error.LexError.TheVariants.{BadUtf8, BadChar, OpenComment, OpenString, LeadingZero, NumberTooLong, Memory}
use Rattle.mojom_lexer.specs.Bytes.{is_blank, goes_on, stays_on_line}
use Rattle.mojom_lexer.specs.Words.{is_word, single_symbol}
use Rattle.mojom_lexer.specs.Numbers.{is_number, has_leading_zero, number_value}
use Rattle.mojom_lexer.specs.Strings.{IsStringOf, text_of}
use Rattle.mojom_lexer.specs.Pieces.{Is, IsLongest, BeginsNone}
use Rattle.mojom_lexer.specs.Pieces.Kind.{Blank, Comment, Word, Numeral, Quoted, Sign}
use Rattle.mojom_lexer.specs.Lexed.{SpellsSort, HasFront, HasLeadingZero, IsTooLong, IsBadChar, Refuses, begins_comment, begins_string}
use Rattle.mojom_lexer.specs.steps.Scans.{kind_of, kind_at, BeginsSign, run_len, number_len, before_close, before_quote, parts_of, IsBadEscape, Stands}
use Rattle.mojom_lexer.proofs.Runs.{run_within}
use Rattle.mojom_lexer.proofs.RunFronts.{blank_longest, word_longest, number_longest}
use Rattle.mojom_lexer.proofs.QuoteFronts.{quote_longest, quote_none}
use Rattle.mojom_lexer.proofs.CommentFronts.{line_longest, block_longest, block_none}
use Rattle.mojom_lexer.proofs.SignFronts.{arrow_longest, symbol_longest, bad_char}

-- `&bytes[n..]`
pub rest_of : (n : ℕ) (bs : List ℕ) → take (length bs - n) (drop n bs) ≡ drop n bs
rest_of n bs = take_all (length bs - n) (drop n bs) (omega (arith, length-drop n bs))

-- a run of blanks is the piece
pub blank_stands : (bs : List ℕ) (len : ℕ) → kind_at bs ≡ Some Blank → len ≡ run_len is_blank bs → Stands (record { sort = None; len = len }) bs
blank_stands bs len e l =
    subst (λ (n : ℕ). Stands (record { sort = None; len = n }) bs) (sym l) (record { longest = (blank_longest bs e).0; means = inl (blank_longest bs e).1 })

-- a word is within the bytes
pub word_room : (bs : List ℕ) (len : ℕ) → len ≡ run_len goes_on bs → len ≤ length bs
word_room bs len l = subst (λ (n : ℕ). n ≤ length bs) (sym l) (run_within goes_on bs)

-- what passes behind a letter is a word
pub word_is : (bs : List ℕ) (len : ℕ) → kind_at bs ≡ Some Word → len ≡ run_len goes_on bs → is_word (take len bs) ≡ true
word_is bs len e l = subst (λ (n : ℕ). is_word (take n bs) ≡ true) (sym l) (word_longest bs e).1

-- a word is the piece, with the sort that it spells
pub word_stands : (bs : List ℕ) (len : ℕ) (sort : Sort)
    → kind_at bs ≡ Some Word → len ≡ run_len goes_on bs → SpellsSort sort (take len bs) → Stands (record { sort = Some sort; len = len }) bs
word_stands bs len sort e l h = record { longest = subst (λ (n : ℕ). IsLongest bs n) (sym l) (word_longest bs e).0; means = h }

number_front : (bs : List ℕ) (len : ℕ) → kind_at bs ≡ Some Numeral → len ≡ number_len bs → IsLongest bs len × (is_number (take len bs) ≡ true)
number_front bs len e l = subst (λ (n : ℕ). IsLongest bs n × (is_number (take n bs) ≡ true)) (sym l) (number_longest bs e)

-- a number is within the bytes
pub number_room : (bs : List ℕ) (len : ℕ) → kind_at bs ≡ Some Numeral → len ≡ number_len bs → len ≤ length bs
number_room bs len e l = (number_front bs len e l).0.within

-- the bytes up to the length of a number are one
pub number_is : (bs : List ℕ) (len : ℕ) → kind_at bs ≡ Some Numeral → len ≡ number_len bs → is_number (take len bs) ≡ true
number_is bs len e l = (number_front bs len e l).1

-- a number that may stand is the piece
pub number_stands : (bs : List ℕ) (len value : ℕ)
    → kind_at bs ≡ Some Numeral → len ≡ number_len bs → has_leading_zero (take len bs) ≡ false → value ≡ number_value (take len bs) → value < 2 ^ 64
    → Stands (record { sort = Some (Number value); len = len }) bs
number_stands bs len value e l z v lt = record {
  longest = (number_front bs len e l).0;
  means = record { number = number_is bs len e l; leads = z; worth = sym v; fits = lt };
}

-- a number with a leading zero is refused
pub leading_zero : (bs : List ℕ) (len : ℕ)
    → kind_at bs ≡ Some Numeral → len ≡ number_len bs → has_leading_zero (take len bs) ≡ true → HasFront HasLeadingZero bs
leading_zero bs len e l z = record { len = len; is_longest = (number_front bs len e l).0; is = (number_is bs len e l, z) }

-- a number that is too large is refused
pub too_long : (bs : List ℕ) (len : ℕ)
    → kind_at bs ≡ Some Numeral → len ≡ number_len bs → has_leading_zero (take len bs) ≡ false → 2 ^ 64 ≤ number_value (take len bs)
    → HasFront IsTooLong bs
too_long bs len e l z v = record { len = len; is_longest = (number_front bs len e l).0; is = (number_is bs len e l, z, v) }

string_found : (bs : List ℕ) (n : ℕ)
    → kind_at bs ≡ Some Quoted → Some n ≡ before_quote false (take (length bs - 1) (drop 1 bs))
    → IsLongest bs (n + 2) × IsStringOf (parts_of false (take n (drop 1 bs))) (take (n + 2) bs)
string_found bs n e f = quote_longest bs n e (sym (f ∙ ap (before_quote false) (rest_of 1 bs)))

-- a string is within the bytes
pub string_room : (bs : List ℕ) (n : ℕ) → kind_at bs ≡ Some Quoted → Some n ≡ before_quote false (take (length bs - 1) (drop 1 bs)) → n + 2 ≤ length bs
string_room bs n e f = (string_found bs n e f).0.within

-- `&bytes[1..1 + n]`
up_to : (n : ℕ) → 1 + n - 1 ≡ n
up_to n = omega arith

-- a string with good escapes is the piece
pub string_stands : (bs text : List ℕ) (n : ℕ)
    → kind_at bs ≡ Some Quoted → Some n ≡ before_quote false (take (length bs - 1) (drop 1 bs))
    → text_of 1 (parts_of false (take (1 + n - 1) (drop 1 bs))) ≡ Ok text → Stands (record { sort = Some (String text); len = n + 2 }) bs
string_stands bs text n e f t =
    let meant = subst (λ (k : ℕ). text_of 1 (parts_of false (take k (drop 1 bs))) ≡ Ok text) (up_to n) t in
    record {
      longest = (string_found bs n e f).0;
      means = (parts_of false (take n (drop 1 bs)), (string_found bs n e f).1, meant);
    }

-- a quote that is never closed is refused
pub open_string : (bs : List ℕ)
    → kind_at bs ≡ Some Quoted → None ≡ before_quote false (take (length bs - 1) (drop 1 bs)) → (begins_string bs ≡ true) × BeginsNone bs
open_string bs e f = (starts bs e, quote_none bs e (sym (f ∙ ap (before_quote false) (rest_of 1 bs))))
  where
    starts : (bs : List ℕ) → kind_at bs ≡ Some Quoted → begins_string bs ≡ true
    starts [] e = absurd (cc)
    starts (c ∷ cs) e = subst (λ (b : ℕ). begins_string (b ∷ cs) ≡ true) (sym (Rattle.mojom_lexer.proofs.FirstBytes.begins_quoted c e)) refl

escape_refused : (bs : List ℕ) (at n : ℕ) (error : LexError)
    → kind_at bs ≡ Some Quoted → Some n ≡ before_quote false (take (length bs - 1) (drop 1 bs))
    → IsBadEscape at (parts_of false (take n (drop 1 bs))) error → (error ≡ Memory → ⊥) → Refuses at bs error
escape_refused bs at n (BadUtf8 place) e f h m = absurd h
escape_refused bs at n (BadChar place) e f h m =
    inr (h.0, record { len = n + 2; is_longest = (string_found bs n e f).0; is = (parts_of false (take n (drop 1 bs)), (string_found bs n e f).1, h.1) }, h.2)
escape_refused bs at n (OpenComment place) e f h m = absurd h
escape_refused bs at n (OpenString place) e f h m = absurd h
escape_refused bs at n (LeadingZero place) e f h m = absurd h
escape_refused bs at n (NumberTooLong place) e f h m = absurd h
escape_refused bs at n Memory e f h m = absurd (m refl)

-- a string with a bad escape is refused
pub bad_escape : (bs : List ℕ) (at n : ℕ) (error : LexError)
    → kind_at bs ≡ Some Quoted → Some n ≡ before_quote false (take (length bs - 1) (drop 1 bs))
    → IsBadEscape at (parts_of false (take (1 + n - 1) (drop 1 bs))) error → (error ≡ Memory → ⊥) → Refuses at bs error
bad_escape bs at n error e f h = escape_refused bs at n error e f (subst (λ (k : ℕ). IsBadEscape at (parts_of false (take k (drop 1 bs))) error) (up_to n) h)

-- a comment to the end of its line is the piece
pub line_stands : (bs : List ℕ) (len : ℕ)
    → kind_at bs ≡ Some Comment → starts_with nat_eq bs (codes "//") ≡ true → len ≡ run_len stays_on_line bs
    → Stands (record { sort = None; len = len }) bs
line_stands bs len e f l =
    subst (λ (n : ℕ). Stands (record { sort = None; len = n }) bs) (sym l) (record { longest = (line_longest bs e f).0; means = inr (line_longest bs e f).1 })

block_found : (bs : List ℕ) (n : ℕ)
    → starts_with nat_eq bs (codes "/*") ≡ true → Some n ≡ before_close (take (length bs - 2) (drop 2 bs))
    → IsLongest bs (n + 4) × Is Comment (take (n + 4) bs)
block_found bs n f g = block_longest bs n f (sym (g ∙ ap before_close (rest_of 2 bs)))

-- a comment up to its `*/` is within the bytes
pub block_room : (bs : List ℕ) (n : ℕ)
    → starts_with nat_eq bs (codes "/*") ≡ true → Some n ≡ before_close (take (length bs - 2) (drop 2 bs)) → n + 4 ≤ length bs
block_room bs n f g = (block_found bs n f g).0.within

-- a comment up to its `*/` is the piece
pub block_stands : (bs : List ℕ) (n : ℕ)
    → starts_with nat_eq bs (codes "/*") ≡ true → Some n ≡ before_close (take (length bs - 2) (drop 2 bs))
    → Stands (record { sort = None; len = n + 4 }) bs
block_stands bs n f g = record { longest = (block_found bs n f g).0; means = inr (block_found bs n f g).1 }

-- a comment that is never closed is refused
pub open_comment : (bs : List ℕ)
    → starts_with nat_eq bs (codes "/*") ≡ true → None ≡ before_close (take (length bs - 2) (drop 2 bs)) → (begins_comment bs ≡ true) × BeginsNone bs
open_comment bs f g = (f, block_none bs f (sym (g ∙ ap before_close (rest_of 2 bs))))

-- `=>` is the piece
pub arrow_stands : (bs : List ℕ) → starts_with nat_eq bs (codes "=>") ≡ true → Stands (record { sort = Some (Symbol Arrow); len = 2 }) bs
arrow_stands bs f = record { longest = (arrow_longest bs f).0; means = (arrow_longest bs f).1 }

-- a symbol of one byte is the piece
pub symbol_stands : (bs : List ℕ) (symbol : Rattle.mojom_ast.specs.declared.token.Symbol.Symbol)
    → BeginsSign bs → starts_with nat_eq bs (codes "=>") ≡ false → Some symbol ≡ single_symbol (get_or bs 0 0)
    → Stands (record { sort = Some (Symbol symbol); len = 1 }) bs
symbol_stands [] symbol e f g = absurd e
symbol_stands (c ∷ cs) symbol e f g =
    let k : kind_of c ≡ Some Sign =
    subst (λ (o : Option Rattle.mojom_ast.specs.declared.token.Symbol.Symbol). kind_of c ≡ cond (is_some o) (Some Sign) None) (sym g) e in
    let found = symbol_longest c cs symbol k f (sym g) in
    record { longest = found.0; means = found.1 }

-- a byte that begins nothing is refused
pub no_symbol : (bs : List ℕ) → BeginsSign bs → None ≡ single_symbol (get_or bs 0 0) → IsBadChar bs
no_symbol [] e g = absurd e
no_symbol (c ∷ cs) e g =
    bad_char c cs (subst (λ (o : Option Rattle.mojom_ast.specs.declared.token.Symbol.Symbol). kind_of c ≡ cond (is_some o) (Some Sign) None) (sym g) e)

-- `&bytes[..len]`
pub slice_len : (bs : List ℕ) (len : ℕ) → len ≤ length bs → len ≡ length (take len bs)
slice_len bs len le = sym (length-take-le len bs le)
