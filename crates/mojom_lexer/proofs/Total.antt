-- Each file has tokens or a refusal.
use Rattle.std.proofs.Common.{◌≡◌, ℕ, zero, suc, ◌+◌, ◌-◌, ◌^◌, ◌≤◌, ◌<◌, List, [], ◌∷◌, ◌++◌, length, take, drop, Bool, true, false, cond, ◌⊎◌, inl, inr, Option, Some, None, Result, Ok, Err, nat_eq, codes, refl, sym, ap, ◌∙◌, subst, arith}
use Rattle.std.specs.Prelude.{is_some, nat_lt, IsUtf8}
use Rattle.std.specs.List.{starts_with}
use Rattle.std.specs.Str.{is_utf8}
use Rattle.std.specs.Str.Lossy.{utf8_valid_len}
use Rattle.std.proofs.lemmas.Str.{IsUtf8-from_is_utf8, is_utf8-from_IsUtf8}
use Rattle.std.proofs.lemmas.Bool.Decides.{nat_tests}
use Rattle.std.proofs.lemmas.List.{length-drop}
use Rattle.mojom_ast.specs.declared.token.Keyword as keyword
use Rattle.mojom_ast.specs.declared.token.Symbol as symbol
use Rattle.mojom_ast.specs.declared.token.Sort.{Sort}
use Rattle.mojom_ast.specs.declared.token.Sort.TheVariants.{Identifier, Keyword, Number, String, Symbol}
use Rattle.mojom_ast.specs.declared.token.Token.{Token}
use Rattle.mojom_lexer.specs.declared.pieces.Piece.{Piece}
use Rattle.mojom_lexer.specs.declared.error.LexError.{LexError}
use Rattle.mojom_lexer.specs.declared.error.LexError.TheVariants.{BadUtf8, BadChar, OpenComment, OpenString, LeadingZero, NumberTooLong, Memory}
use Rattle.mojom_lexer.specs.Bytes.{is_blank, goes_on, stays_on_line}
use Rattle.mojom_lexer.specs.Words.{keyword_of, single_symbol}
use Rattle.mojom_lexer.specs.Numbers.{has_leading_zero, number_value}
use Rattle.mojom_lexer.specs.Strings.{text_of}
use Rattle.mojom_lexer.specs.Pieces.{Kind, IsLongest}
use Rattle.mojom_lexer.specs.Pieces.Kind.{Blank, Comment, Word, Numeral, Quoted, Sign}
use Rattle.mojom_lexer.specs.Lexed.{Reaches, AreTokens, Refuses, StopsAt, IsLexicalRefusal}
use Rattle.mojom_lexer.specs.Lexed.Reaches.{starts, passes, takes}
use Rattle.mojom_lexer.specs.steps.Scans.{kind_of, run_len, number_len, before_close, before_quote, parts_of, Means, Stands}
use Rattle.mojom_lexer.proofs.FirstBytes.{begins_sign}
use Rattle.mojom_lexer.proofs.SignFronts.{bad_char, bad_slash}
use Rattle.mojom_lexer.proofs.Standing.{blank_stands, word_is, word_stands, number_stands, leading_zero, too_long, string_stands, open_string, bad_escape, line_stands, block_stands, open_comment, arrow_stands, symbol_stands}
use Rattle.mojom_lexer.proofs.Steps.{token_at, longest_some}

-- a piece stands at the front, or a refusal
abbrev Fronts : ℕ → List ℕ → Type 0
Fronts at bs = ((piece : Piece) × Stands piece bs) ⊎ ((error : LexError) × Refuses at bs error)

module _ (at c : ℕ) (cs : List ℕ) where
  word_front : kind_of c ≡ Some Word → Fronts at (c ∷ cs)
  word_front e = step (keyword_of (take (run_len goes_on (c ∷ cs)) (c ∷ cs))) refl
    where
      step : (k : Option keyword.Keyword) → keyword_of (take (run_len goes_on (c ∷ cs)) (c ∷ cs)) ≡ k → Fronts at (c ∷ cs)
      step (Some k) f =
          inl (
            record { sort = Some (Keyword k); len = run_len goes_on (c ∷ cs) },
            word_stands (c ∷ cs) (run_len goes_on (c ∷ cs)) (Keyword k) e refl (word_is (c ∷ cs) (run_len goes_on (c ∷ cs)) e refl, f),
          )
      step None f =
          inl (
            record { sort = Some (Identifier (take (run_len goes_on (c ∷ cs)) (c ∷ cs))); len = run_len goes_on (c ∷ cs) },
            word_stands (c ∷ cs) (run_len goes_on (c ∷ cs)) (Identifier (take (run_len goes_on (c ∷ cs)) (c ∷ cs))) e refl
                (word_is (c ∷ cs) (run_len goes_on (c ∷ cs)) e refl, f, refl),
          )

  number_front : kind_of c ≡ Some Numeral → (len : ℕ) → len ≡ number_len (c ∷ cs) → Fronts at (c ∷ cs)
  number_front e len l = step (has_leading_zero (take len (c ∷ cs))) (nat_lt (number_value (take len (c ∷ cs))) (2 ^ 64)) refl refl
    where
      step : (v w : Bool) → has_leading_zero (take len (c ∷ cs)) ≡ v → nat_lt (number_value (take len (c ∷ cs))) (2 ^ 64) ≡ w → Fronts at (c ∷ cs)
      step true w z f = inr (LeadingZero at, (leading_zero (c ∷ cs) len e l z, refl))
      step false true z f =
          inl (
            record { sort = Some (Number (number_value (take len (c ∷ cs)))); len = len },
            number_stands (c ∷ cs) len (number_value (take len (c ∷ cs))) e l z refl (grind (arith, nat_tests)),
          )
      step false false z f = inr (NumberTooLong at, (too_long (c ∷ cs) len e l z (grind (arith, nat_tests)), refl))

  string_front : kind_of c ≡ Some Quoted → Fronts at (c ∷ cs)
  string_front e = step (before_quote false (take (length (c ∷ cs) - 1) (drop 1 (c ∷ cs)))) refl
    where
      text : (n : ℕ)
          → Some n ≡ before_quote false (take (length (c ∷ cs) - 1) (drop 1 (c ∷ cs))) → (r : Result (List ℕ) ℕ)
          → text_of 1 (parts_of false (take (1 + n - 1) (drop 1 (c ∷ cs)))) ≡ r → Fronts at (c ∷ cs)
      text n f (Ok t) g = inl (record { sort = Some (String t); len = n + 2 }, string_stands (c ∷ cs) t n e f g)
      text n f (Err b) g = inr (BadChar (at + b), bad_escape (c ∷ cs) at n (BadChar (at + b)) e f (b, g, refl) (λ h. absurd (cc)))

      step : (r : Option ℕ) → r ≡ before_quote false (take (length (c ∷ cs) - 1) (drop 1 (c ∷ cs))) → Fronts at (c ∷ cs)
      step (Some n) f = text n f (text_of 1 (parts_of false (take (1 + n - 1) (drop 1 (c ∷ cs))))) refl
      step None f = let found = open_string (c ∷ cs) e f in inr (OpenString at, (found.0, found.1, refl))

  comment_front : kind_of c ≡ Some Comment → Fronts at (c ∷ cs)
  comment_front e = step (starts_with nat_eq (c ∷ cs) (codes "//")) (starts_with nat_eq (c ∷ cs) (codes "/*")) refl refl
    where
      block : starts_with nat_eq (c ∷ cs) (codes "/*") ≡ true
          → (r : Option ℕ) → r ≡ before_close (take (length (c ∷ cs) - 2) (drop 2 (c ∷ cs))) → Fronts at (c ∷ cs)
      block f (Some n) g = inl (record { sort = None; len = n + 4 }, block_stands (c ∷ cs) n f g)
      block f None g = let found = open_comment (c ∷ cs) f g in inr (OpenComment at, (found.0, found.1, refl))

      step : (v w : Bool) → starts_with nat_eq (c ∷ cs) (codes "//") ≡ v → starts_with nat_eq (c ∷ cs) (codes "/*") ≡ w → Fronts at (c ∷ cs)
      step true w f g = inl (record { sort = None; len = run_len stays_on_line (c ∷ cs) }, line_stands (c ∷ cs) (run_len stays_on_line (c ∷ cs)) e f refl)
      step false true f g = block g (before_close (take (length (c ∷ cs) - 2) (drop 2 (c ∷ cs)))) refl
      step false false f g = inr (BadChar at, inl (bad_slash (c ∷ cs) e f g, refl))

  sign_front : kind_of c ≡ Some Sign → Fronts at (c ∷ cs)
  sign_front e = step (starts_with nat_eq (c ∷ cs) (codes "=>")) (single_symbol c) refl refl
    where
      step : (v : Bool) (o : Option symbol.Symbol) → starts_with nat_eq (c ∷ cs) (codes "=>") ≡ v → single_symbol c ≡ o → Fronts at (c ∷ cs)
      step true o f g = inl (record { sort = Some (Symbol symbol.TheVariants.Arrow); len = 2 }, arrow_stands (c ∷ cs) f)
      step false (Some s) f g =
          let begins : kind_of c ≡ cond (is_some (single_symbol c)) (Some Sign) None =
          e ∙ sym (ap (λ (o : Option symbol.Symbol). cond (is_some o) (Some Sign) None) g) in
          inl (record { sort = Some (Symbol s); len = 1 }, symbol_stands (c ∷ cs) s begins f (sym g))
      step false None f g = let b = begins_sign c e in let n : is_some (single_symbol c) ≡ false = ap is_some g in absurd (cc)

  front_of : (k : Option Kind) → kind_of c ≡ k → Fronts at (c ∷ cs)
  front_of (Some Blank) e = inl (record { sort = None; len = run_len is_blank (c ∷ cs) }, blank_stands (c ∷ cs) (run_len is_blank (c ∷ cs)) e refl)
  front_of (Some Comment) e = comment_front e
  front_of (Some Word) e = word_front e
  front_of (Some Numeral) e = number_front e (number_len (c ∷ cs)) refl
  front_of (Some Quoted) e = string_front e
  front_of (Some Sign) e = sign_front e
  front_of None e = inr (BadChar at, inl (bad_char c cs e, refl))

-- tokens, or a refusal
abbrev pub Reading : List ℕ → Type 0
Reading bs = ((tokens : List Token) × AreTokens bs tokens) ⊎ ((error : LexError) × IsLexicalRefusal bs error)

stop : (bs : List ℕ) (error : LexError) → StopsAt bs error → IsLexicalRefusal bs error
stop bs (BadUtf8 place) h = absurd h.refuses
stop bs (BadChar place) h = h
stop bs (OpenComment place) h = h
stop bs (OpenString place) h = h
stop bs (LeadingZero place) h = h
stop bs (NumberTooLong place) h = h
stop bs Memory h = h

on_from : (bs : List ℕ) (at : ℕ) (tokens : List Token)
    → Reaches bs at tokens → (sort : Option Sort) (len : ℕ) → IsLongest (drop at bs) len → Means sort (take len (drop at bs))
    → (more : List Token) × Reaches bs (at + len) more
on_from bs at tokens r None len l m = (tokens, passes at len tokens r l m)
on_from bs at tokens r (Some sort) len l m = (tokens ++ token_at sort at len ∷ [], takes at len tokens sort r l m)

ends : (bs : List ℕ) (at : ℕ) (tokens : List Token) → IsUtf8 bs → at ≤ length bs → drop at bs ≡ [] → Reaches bs at tokens → AreTokens bs tokens
ends bs at tokens u le e r =
    let n : length bs - at ≡ 0 = sym (length-drop at bs) ∙ ap length e in
    let same : at ≡ length bs = omega arith in
    record { utf8 = u; reaches = subst (λ (k : ℕ). Reaches bs k tokens) same r }

read_on : (fuel : ℕ) (bs : List ℕ) (at : ℕ) (tokens : List Token) → IsUtf8 bs → at ≤ length bs → length bs - at ≤ fuel → Reaches bs at tokens → Reading bs
read_on zero bs at tokens u le f r = step (drop at bs) refl
  where
    step : (rest : List ℕ) → drop at bs ≡ rest → Reading bs
    step [] e = inl (tokens, ends bs at tokens u le e r)
    step (c ∷ cs) e = let n : length bs - at ≡ suc (length cs) = sym (length-drop at bs) ∙ ap length e in absurd (omega arith)
read_on (suc fuel) bs at tokens u le f r = step (λ to more le f r. read_on fuel bs to more u le f r) (drop at bs) refl
  where
    piece : ((to : ℕ) (more : List Token) → to ≤ length bs → length bs - to ≤ fuel → Reaches bs to more → Reading bs) → Fronts at (drop at bs) → Reading bs
    piece others (inl x) =
        let some : 0 < x.0.len = longest_some (drop at bs) x.0.len x.1.longest in
        let within : x.0.len ≤ length (drop at bs) = x.1.longest.within in
        let room : at + x.0.len ≤ length bs = omega (arith, length-drop at bs) in
        let next = on_from bs at tokens r x.0.sort x.0.len x.1.longest x.1.means in
        others (at + x.0.len) next.0 room (omega arith) next.1
    piece others (inr x) = inr (x.0, stop bs x.0 (record { utf8 = u; at = at; tokens = tokens; reaches = r; refuses = x.1 }))

    step : ((to : ℕ) (more : List Token) → to ≤ length bs → length bs - to ≤ fuel → Reaches bs to more → Reading bs)
        → (rest : List ℕ) → drop at bs ≡ rest → Reading bs
    step others [] e = inl (tokens, ends bs at tokens u le e r)
    step others (c ∷ cs) e = piece others (subst (λ (rest : List ℕ). Fronts at rest) (sym e) (front_of at c cs (kind_of c) refl))

-- each file has tokens or a refusal
pub some_reading : (bs : List ℕ) → Reading bs
some_reading bs = step (is_utf8 bs) refl
  where
    step : (v : Bool) → is_utf8 bs ≡ v → Reading bs
    step true e = read_on (length bs) bs 0 [] (IsUtf8-from_is_utf8 bs e) (omega arith) (omega arith) starts
    step false e = inr (BadUtf8 (utf8_valid_len bs), ((λ u. let t = is_utf8-from_IsUtf8 bs u in absurd (cc)), refl))
