-- From the tokens of a file to their sorts, and from texts and sorts to tokens.
use Rattle.std.proofs.Common.{◌≡◌, ℕ, ◌+◌, List, [], ◌∷◌, ◌++◌, length, take, drop, Bool, true, false, not, inl, refl, sym, ◌∙◌, ap, subst, append_assoc, length-append, arith}
use Rattle.std.specs.Prelude.{map, is_some, IsUtf8}
use Rattle.std.specs.List.{list_all, flat_map}
use Rattle.std.proofs.Math.Seq.{take-append_seam, drop-append_seam}
use Rattle.std.proofs.lemmas.List.{append-nil, take-append-drop, map-append, drop-drop}
use Rattle.mojom_ast.specs.declared.token.Sort.{Sort}
use Rattle.mojom_ast.specs.declared.token.Sort.TheVariants as sorts
use Rattle.mojom_ast.specs.declared.token.Token.{Token}
use Rattle.mojom_lexer.specs.Bytes.{is_blank, is_run}
use Rattle.mojom_lexer.specs.Words.{single_symbol}
use Rattle.mojom_lexer.specs.Strings.{Part, spelled, quoted}
use Rattle.mojom_lexer.specs.Pieces.{Kind, Is, IsLongest}
use Rattle.mojom_lexer.specs.Pieces.Kind.{Blank, Word, Numeral, Quoted, Sign}
use Rattle.mojom_lexer.specs.Lexed.{SpellsSort, Reaches, AreTokens}
use Rattle.mojom_lexer.specs.Lexed.Reaches.{starts, passes, takes}
use Rattle.mojom_lexer.proofs.Runs.{left, right, both}
use Rattle.mojom_lexer.proofs.FirstBytes.{same_kind, first_tells, longest_of, none_empty}
use Rattle.mojom_lexer.proofs.RunFronts.{run_each}
use Rattle.mojom_lexer.proofs.Steps.{token_at}
use Rattle.mojom_print.proofs.Shows.{sort_of}
use Rattle.mojom_print.proofs.Prints.{IsText, AllLexical, lexical_both}
use Rattle.mojom_print.proofs.CommaLists.{comma}
use Rattle.mojom_print.proofs.Lexes.{stops, run_stops, Lexes, ends, blank, token}
use Rattle.mojom_print.proofs.WordTexts.{whole_front}
use Rattle.mojom_print.proofs.Utf8Parts.{text_utf8, quoted_utf8}

-- for `prints_file`: a comma has bytes
pub comma_lexical : AllLexical comma
unfolding single_symbol
comma_lexical = (record { bytes = 44 ∷ []; spelled = refl; text = tt }, tt)

-- a piece of a text is a text where it is a string
string_text : (bytes : List ℕ) (at len : ℕ) (ps : List Part) → IsUtf8 bytes → take len (drop at bytes) ≡ quoted ps → IsUtf8 (flat_map spelled ps)
string_text bytes at len ps h e =
    let rest : List ℕ = drop len (drop at bytes) in
    let whole : take at bytes ++ (take len (drop at bytes) ++ rest) ≡ bytes =
    ap (λ (l : List ℕ). take at bytes ++ l) (take-append-drop len (drop at bytes)) ∙ take-append-drop at bytes in
    let parts : take at bytes ++ (quoted ps ++ rest) ≡ bytes = ap (λ (l : List ℕ). take at bytes ++ (l ++ rest)) (sym e) ∙ whole in
    let inside : quoted ps ++ rest ≡ 34 ∷ (flat_map spelled ps ++ 34 ∷ rest) =
    ap (λ (l : List ℕ). 34 ∷ l) (append_assoc (flat_map spelled ps) (34 ∷ []) rest) in
    quoted_utf8 (take at bytes) (flat_map spelled ps) rest (subst IsUtf8 (sym parts ∙ ap (λ (l : List ℕ). take at bytes ++ l) inside) h)

piece_text : (bytes : List ℕ) (at len : ℕ) (s : Sort) → IsUtf8 bytes → SpellsSort s (take len (drop at bytes)) → IsText s
piece_text bytes at len (sorts.Identifier text) h e = tt
piece_text bytes at len (sorts.Keyword k) h e = tt
piece_text bytes at len (sorts.Number n) h e = tt
piece_text bytes at len (sorts.String text) h e = text_utf8 e.0 1 text (string_text bytes at len e.0 h e.1.is_spelled) e.2
piece_text bytes at len (sorts.Symbol s) h e = tt

-- the tokens of a file are lexical
reached_lexical : (bytes : List ℕ) (at : ℕ) (tokens : List Token) → IsUtf8 bytes → Reaches bytes at tokens → AllLexical (map sort_of tokens)
reached_lexical bytes at all h starts = tt
reached_lexical bytes at all h (passes before len tokens r longest over) = reached_lexical bytes before tokens h r
reached_lexical bytes at all h (takes before len earlier s r longest is) =
    subst AllLexical (sym (map-append sort_of earlier (token_at s before len ∷ [])))
    (lexical_both (map sort_of earlier) (s ∷ []) (reached_lexical bytes before earlier h r)
    (record { bytes = take len (drop before bytes); spelled = is; text = piece_text bytes before len s h is }, tt))

-- for `spelled_again`: the sorts of a file's tokens have bytes
pub tokens_lexical : (bytes : List ℕ) (tokens : List Token) → AreTokens bytes tokens → AllLexical (map sort_of tokens)
tokens_lexical bytes tokens a = reached_lexical bytes (length bytes) tokens a.utf8 a.reaches

-- blanks before what isn't blank
blank_longest : (c : ℕ) (cs rest : List ℕ) → list_all is_blank (c ∷ cs) ≡ true → stops is_blank rest ≡ true → IsLongest ((c ∷ cs) ++ rest) (length (c ∷ cs))
blank_longest c cs rest h s = longest_of Blank ((c ∷ cs) ++ rest) (length (c ∷ cs)) (first_tells Blank c cs h) (whole_front (c ∷ cs) rest)
    (subst (λ (bs : List ℕ). is_run is_blank bs ≡ true) (sym (take-append_seam (c ∷ cs) rest)) h)
    (λ more le e. run_stops is_blank (c ∷ cs) rest s more le (run_each is_blank (take more ((c ∷ cs) ++ rest)) e))

-- the blanks before a place are passed over
passed : (bytes : List ℕ) (at : ℕ) (tokens : List Token) (bs rest : List ℕ) → Reaches bytes at tokens → drop at bytes ≡ bs ++ rest
    → list_all is_blank bs ≡ true → stops is_blank rest ≡ true → Reaches bytes (at + length bs) tokens
passed bytes at tokens [] rest r e h s = let n : at ≡ at + 0 = omega arith in subst (λ (k : ℕ). Reaches bytes k tokens) n r
passed bytes at tokens (c ∷ cs) rest r e h s =
    passes at (length (c ∷ cs)) tokens r
    (subst (λ (bs : List ℕ). IsLongest bs (length (c ∷ cs))) (sym e) (blank_longest c cs rest h s))
    (inl (subst (λ (bs : List ℕ). is_run is_blank (take (length (c ∷ cs)) bs) ≡ true) (sym e)
    (subst (λ (bs : List ℕ). is_run is_blank bs ≡ true) (sym (take-append_seam (c ∷ cs) rest)) h)))

-- a token is no blank space
record IsSolid (p : List ℕ) : Type 0 where
  pub kind : Kind
  pub is : Is kind p
  pub no_blank : kind ≡ Blank → ⊥

solid : (s : Sort) (p : List ℕ) → SpellsSort s p → IsSolid p
solid (sorts.Identifier text) p h = record { kind = Word; is = h.0; no_blank = λ e. absurd (cc) }
solid (sorts.Keyword k) p h = record { kind = Word; is = h.0; no_blank = λ e. absurd (cc) }
solid (sorts.Number n) p h = record { kind = Numeral; is = h.number; no_blank = λ e. absurd (cc) }
solid (sorts.String text) p h = record { kind = Quoted; is = (h.0, h.1); no_blank = λ e. absurd (cc) }
solid (sorts.Symbol s) p h = record { kind = Sign; is = ap is_some h; no_blank = λ e. absurd (cc) }

-- no token begins with a blank
solid_front : (p rest : List ℕ) → IsSolid p → stops is_blank (p ++ rest) ≡ true
solid_front [] rest h = absurd (none_empty h.kind h.is)
solid_front (c ∷ cs) rest h = of (is_blank c) refl
  where
    of : (v : Bool) → is_blank c ≡ v → not v ≡ true
    of true e = absurd (h.no_blank (same_kind h.kind Blank (sym (first_tells h.kind c cs h.is) ∙ first_tells Blank c [] (both (is_blank c) true e refl))))
    of false e = refl

-- the tokens from a place on
record Again (bytes : List ℕ) (tokens : List Token) (ss : List Sort) : Type 0 where
  pub more : List Token
  pub reaches : Reaches bytes (length bytes) (tokens ++ more)
  pub sorts : map sort_of more ≡ ss

blanks_more : (xs : List ℕ) (c : ℕ) → list_all is_blank xs ≡ true → is_blank c ≡ true → list_all is_blank (xs ++ c ∷ []) ≡ true
blanks_more [] c h e = both (is_blank c) true e refl
blanks_more (x ∷ xs) c h e =
    both (is_blank x) (list_all is_blank (xs ++ c ∷ [])) (left (is_blank x) (list_all is_blank xs) h)
    (blanks_more xs c (right (is_blank x) (list_all is_blank xs) h) e)

-- a place further on
further : (bytes : List ℕ) (at : ℕ) (xs rest : List ℕ) → drop at bytes ≡ xs ++ rest → drop (at + length xs) bytes ≡ rest
further bytes at xs rest e = sym (drop-drop (length xs) at bytes) ∙ ap (drop (length xs)) e ∙ drop-append_seam xs rest

-- blanks, and a token
record Taken (bytes : List ℕ) (at : ℕ) (tokens : List Token) (s : Sort) (cs : List ℕ) : Type 0 where
  pub to : ℕ
  pub one : Token
  pub sort : one.sort ≡ s
  pub reaches : Reaches bytes to (tokens ++ one ∷ [])
  pub rest : drop to bytes ≡ cs
  pub count : to + length cs ≡ length bytes

taken : (bytes : List ℕ) (at : ℕ) (tokens : List Token) (bs p cs : List ℕ) (s : Sort) → Reaches bytes at tokens → drop at bytes ≡ bs ++ (p ++ cs)
    → at + length (bs ++ (p ++ cs)) ≡ length bytes → list_all is_blank bs ≡ true → SpellsSort s p → IsLongest (p ++ cs) (length p) → Taken bytes at tokens s cs
taken bytes at tokens bs p cs s r e n h is longest =
    let place : ℕ = at + length bs in
    let there : drop place bytes ≡ p ++ cs = further bytes at bs (p ++ cs) e in
    let front : take (length p) (drop place bytes) ≡ p = ap (take (length p)) there ∙ take-append_seam p cs in
    let a : length (bs ++ (p ++ cs)) ≡ length bs + length (p ++ cs) = length-append bs (p ++ cs) in
    let b : length (p ++ cs) ≡ length p + length cs = length-append p cs in
    record {
      to = place + length p;
      one = token_at s place (length p);
      sort = refl;
      reaches = takes place (length p) tokens s (passed bytes at tokens bs (p ++ cs) r e h (solid_front p cs (solid s p is)))
          (subst (λ (l : List ℕ). IsLongest l (length p)) (sym there) longest)
          (subst (λ (l : List ℕ). SpellsSort s l) (sym front) is);
      rest = further bytes place p cs there;
      count = omega arith;
    }

put : (bytes : List ℕ) (at : ℕ) (tokens : List Token) (s : Sort) (cs : List ℕ) (us : List Sort) (t : Taken bytes at tokens s cs)
    → Again bytes (tokens ++ t.one ∷ []) us → Again bytes tokens (s ∷ us)
put bytes at tokens s cs us t a = record {
  more = t.one ∷ a.more;
  reaches = subst (λ (ts : List Token). Reaches bytes (length bytes) ts) (append_assoc tokens (t.one ∷ []) a.more) a.reaches;
  sorts = ap (λ (x : Sort). x ∷ map sort_of a.more) t.sort ∙ ap (λ (l : List Sort). s ∷ l) a.sorts;
}

at_end : (bytes : List ℕ) (at : ℕ) (tokens : List Token) (bs : List ℕ) → Reaches bytes at tokens → drop at bytes ≡ bs ++ []
    → at + length (bs ++ []) ≡ length bytes → list_all is_blank bs ≡ true → Again bytes tokens []
at_end bytes at tokens bs r e n h =
    let m : length (bs ++ []) ≡ length bs = ap length (append-nil bs) in
    let k : at + length bs ≡ length bytes = omega arith in
    record {
      more = [];
      reaches =
          subst (λ (ts : List Token). Reaches bytes (length bytes) ts) (sym (append-nil tokens))
          (subst (λ (i : ℕ). Reaches bytes i tokens) k (passed bytes at tokens bs [] r e h refl));
      sorts = refl;
    }

again : (bytes rest : List ℕ) (ss : List Sort) → Lexes rest ss → (at : ℕ) (tokens : List Token) (bs : List ℕ) → Reaches bytes at tokens
    → drop at bytes ≡ bs ++ rest → at + length (bs ++ rest) ≡ length bytes → list_all is_blank bs ≡ true → Again bytes tokens ss
again bytes rest ss ends at tokens bs r e n h = at_end bytes at tokens bs r e n h
again bytes rest ss (blank c cs us b l) at tokens bs r e n h =
    let f : (bs ++ c ∷ []) ++ cs ≡ bs ++ c ∷ cs = append_assoc bs (c ∷ []) cs in
    again bytes cs us l at tokens (bs ++ c ∷ []) r (e ∙ sym f) (ap (λ (xs : List ℕ). at + length xs) f ∙ n) (blanks_more bs c h b)
again bytes rest ss (token p cs s us is longest l) at tokens bs r e n h =
    let t : Taken bytes at tokens s cs = taken bytes at tokens bs p cs s r e n h is longest in
    put bytes at tokens s cs us t (again bytes cs us l t.to (tokens ++ t.one ∷ []) [] t.reaches t.rest t.count refl)

-- the bytes have tokens of these sorts
pub record HasTokens (bytes : List ℕ) (ss : List Sort) : Type 0 where
  pub tokens : List Token
  pub are : AreTokens bytes tokens
  pub sorts : map sort_of tokens ≡ ss

-- for `spelled_again`: a text has the tokens that it tells
pub has_tokens : (bytes : List ℕ) (ss : List Sort) → IsUtf8 bytes → Lexes bytes ss → HasTokens bytes ss
has_tokens bytes ss u l =
    let a : Again bytes [] ss = again bytes bytes ss l 0 [] [] starts refl (omega arith) refl in
    record { tokens = a.more; are = record { utf8 = u; reaches = a.reaches }; sorts = a.sorts }
