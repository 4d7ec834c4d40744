-- A piece has one meaning, or one refusal.
use Rattle.std.proofs.Common.{◌≡◌, ℕ, zero, suc, ◌+◌, ◌-◌, ◌<◌, List, [], ◌∷◌, ◌++◌, length, take, Bool, true, false, cond, not, ◌==◌, ◌||◌, ◌⊎◌, inl, inr, Option, Some, None, Result, Ok, Err, nat_eq, refl, sym, ap, ◌∙◌, subst, arith, length-append}
use Rattle.std.specs.Prelude.{is_some}
use Rattle.std.specs.List.{list_all, flat_map}
use Rattle.std.proofs.Math.Seq.{take-append_seam}
use Rattle.mojom_ast.specs.declared.token.Keyword as keyword
use Rattle.mojom_ast.specs.declared.token.Symbol as symbol
use Rattle.mojom_ast.specs.declared.token.Sort.{Sort}
use Rattle.mojom_ast.specs.declared.token.Sort.TheVariants.{Identifier, Keyword, Number, String, Symbol}
use Rattle.mojom_lexer.specs.declared.error.LexError.{LexError}
use Rattle.mojom_lexer.specs.declared.error.LexError.TheVariants.{BadUtf8, BadChar, OpenComment, OpenString, LeadingZero, NumberTooLong, Memory}
use Rattle.mojom_lexer.specs.Numbers.{is_number, has_leading_zero}
use Rattle.mojom_lexer.specs.Strings.{Part, spelled, is_part, IsStringOf, text_of}
use Rattle.mojom_lexer.specs.Strings.Part.{Literal, Escape}
use Rattle.mojom_lexer.specs.Pieces.{Kind, Is, IsPiece, IsLongest, BeginsNone}
use Rattle.mojom_lexer.specs.Pieces.Kind.{Blank, Comment, Word, Numeral, Quoted, Sign}
use Rattle.mojom_lexer.specs.Lexed.{IsPassedOver, SpellsSort, HasBadEscape, HasLeadingZero, IsTooLong, Refuses, begins_comment, begins_string}
use Rattle.mojom_lexer.specs.steps.Scans.{parts_of}
use Rattle.mojom_lexer.proofs.Runs.{left, right}
use Rattle.mojom_lexer.proofs.Closes.{behind_first}
use Rattle.mojom_lexer.proofs.FirstBytes.{first_tells, none_empty, same_kind}
use Rattle.mojom_lexer.proofs.CommentFronts.{same_as}

-- bytes are of one kind
pub one_kind : (j k : Kind) (p : List ℕ) → Is j p → Is k p → j ≡ k
one_kind j k [] h g = absurd (none_empty j h)
one_kind j k (c ∷ cs) h g = same_kind j k (sym (first_tells j c cs h) ∙ first_tells k c cs g)

pub sort_kind : Sort → Kind
sort_kind (Identifier text) = Word
sort_kind (Keyword k) = Word
sort_kind (Number value) = Numeral
sort_kind (String text) = Quoted
sort_kind (Symbol s) = Sign

spells_kind : (s : Sort) (p : List ℕ) → SpellsSort s p → Is (sort_kind s) p
unfolding sort_kind
spells_kind (Identifier text) p h = h.0
spells_kind (Keyword k) p h = h.0
spells_kind (Number value) p h = h.number
spells_kind (String text) p h = (h.0, h.1)
spells_kind (Symbol s) p h = ap is_some h

not_passed : (s : Sort) → sort_kind s ≡ Blank → ⊥
unfolding sort_kind
not_passed (Identifier text) e = absurd (cc)
not_passed (Keyword k) e = absurd (cc)
not_passed (Number value) e = absurd (cc)
not_passed (String text) e = absurd (cc)
not_passed (Symbol s) e = absurd (cc)

not_comment : (s : Sort) → sort_kind s ≡ Comment → ⊥
unfolding sort_kind
not_comment (Identifier text) e = absurd (cc)
not_comment (Keyword k) e = absurd (cc)
not_comment (Number value) e = absurd (cc)
not_comment (String text) e = absurd (cc)
not_comment (Symbol s) e = absurd (cc)

-- what is passed over is no token
pub passed_no_token : (s : Sort) (p : List ℕ) → IsPassedOver p → SpellsSort s p → ⊥
passed_no_token s p (inl h) g = not_passed s (one_kind (sort_kind s) Blank p (spells_kind s p g) h)
passed_no_token s p (inr h) g = not_comment s (one_kind (sort_kind s) Comment p (spells_kind s p g) h)

-- the parts of a string are read off its bytes
not_slash : (p q r : Bool) → not (p || q || r) ≡ true → q ≡ false
not_slash true q r e = absurd (cc)
not_slash false true r e = absurd (cc)
not_slash false false r e = refl

parts_again : (ps : List Part) → list_all is_part ps ≡ true → parts_of false (flat_map spelled ps) ≡ ps
parts_again [] e = refl
parts_again (Literal c ∷ ps) e =
    let f : (c == 92) ≡ false = not_slash (c == 34) (c == 92) (c == 10) (left (is_part (Literal c)) (list_all is_part ps) e) in
    rw f (ap (λ (qs : List Part). Literal c ∷ qs) (parts_again ps (right (is_part (Literal c)) (list_all is_part ps) e)))
parts_again (Escape c ∷ ps) e = ap (λ (qs : List Part). Escape c ∷ qs) (parts_again ps (right (is_part (Escape c)) (list_all is_part ps) e))

pub inside_of : List ℕ → List ℕ
inside_of p = take (length p - 2) (behind_first p)

string_parts : (ps : List Part) (p : List ℕ) → IsStringOf ps p → parts_of false (inside_of p) ≡ ps
unfolding inside_of
string_parts ps p h =
    let flat : List ℕ = flat_map spelled ps in
    let size : length (flat ++ 34 ∷ []) ≡ length flat + 1 = length-append flat (34 ∷ []) in
    let n : suc (length (flat ++ 34 ∷ [])) - 2 ≡ length flat = omega arith in
    let inside : take (suc (length (flat ++ 34 ∷ [])) - 2) (flat ++ 34 ∷ []) ≡ flat =
    ap (λ (k : ℕ). take k (flat ++ 34 ∷ [])) n ∙ take-append_seam flat (34 ∷ []) in
    ap (λ (q : List ℕ). parts_of false (inside_of q)) h.is_spelled ∙ ap (parts_of false) inside ∙ parts_again ps h.are_parts

text_or : List ℕ → Result (List ℕ) ℕ → List ℕ
text_or d (Ok text) = text
text_or d (Err at) = d

same_text : (a b : List ℕ) → ◌≡◌ {A = Result (List ℕ) ℕ} (Ok a) (Ok b) → a ≡ b
unfolding text_or
same_text a b e = ap (text_or a) e

keyword_or : keyword.Keyword → Option keyword.Keyword → keyword.Keyword
keyword_or d (Some k) = k
keyword_or d None = d

same_keyword : (a b : keyword.Keyword) → Some a ≡ Some b → a ≡ b
unfolding keyword_or
same_keyword a b e = ap (keyword_or a) e

symbol_or : symbol.Symbol → Option symbol.Symbol → symbol.Symbol
symbol_or d (Some s) = s
symbol_or d None = d

same_symbol : (a b : symbol.Symbol) → Some a ≡ Some b → a ≡ b
unfolding symbol_or
same_symbol a b e = ap (symbol_or a) e

other_kind : (s t : Sort) (p : List ℕ) → SpellsSort s p → SpellsSort t p → sort_kind s ≡ sort_kind t
other_kind s t p h k = one_kind (sort_kind s) (sort_kind t) p (spells_kind s p h) (spells_kind t p k)

-- bytes spell one token
pub one_sort : (s t : Sort) (p : List ℕ) → SpellsSort s p → SpellsSort t p → s ≡ t
unfolding sort_kind
one_sort (Identifier a) (Identifier b) p h k = ap Identifier (h.2 ∙ sym k.2)
one_sort (Identifier a) (Keyword b) p h k = let e = sym h.1 ∙ k.1 in absurd (cc)
one_sort (Keyword a) (Identifier b) p h k = let e = sym h.1 ∙ k.1 in absurd (cc)
one_sort (Keyword a) (Keyword b) p h k = ap Keyword (same_keyword a b (sym h.1 ∙ k.1))
one_sort (Number a) (Number b) p h k = ap Number (sym h.worth ∙ k.worth)
one_sort (String a) (String b) p h k =
    let same : h.0 ≡ k.0 = sym (string_parts h.0 p h.1) ∙ string_parts k.0 p k.1 in
    ap String (same_text a b (sym h.2 ∙ ap (text_of 1) same ∙ k.2))
one_sort (Symbol a) (Symbol b) p h k = ap Symbol (same_symbol a b (sym h ∙ k))
one_sort s t p h k = absurd (cc (other_kind s t p h k))

-- a refusal where no piece begins
pub none_error : ℕ → Bool → Bool → LexError
none_error at true string = OpenComment at
none_error at false true = OpenString at
none_error at false false = BadChar at

pub record IsNoneError (at : ℕ) (bs : List ℕ) (error : LexError) : Type 0 where
  pub some : 0 < length bs
  pub none : BeginsNone bs
  pub is : error ≡ none_error at (begins_comment bs) (begins_string bs)

-- a refusal of the longest piece
bad_place : Result (List ℕ) ℕ → ℕ
bad_place (Ok text) = 0
bad_place (Err at) = at

pub piece_error : ℕ → List ℕ → LexError
piece_error at p =
    cond (is_number p) (cond (has_leading_zero p) (LeadingZero at) (NumberTooLong at)) (BadChar (at + bad_place (text_of 1 (parts_of false (inside_of p)))))

pub record IsPieceError (at : ℕ) (bs : List ℕ) (error : LexError) : Type 0 where
  pub len : ℕ
  pub longest : IsLongest bs len
  pub no_token : (s : Sort) → SpellsSort s (take len bs) → ⊥
  pub no_pass : IsPassedOver (take len bs) → ⊥
  pub is : error ≡ piece_error at (take len bs)

-- what is of another kind is neither
kind_no_pass : (k : Kind) (p : List ℕ) → Is k p → (k ≡ Blank → ⊥) → (k ≡ Comment → ⊥) → IsPassedOver p → ⊥
kind_no_pass k p h b c (inl e) = b (one_kind k Blank p h e)
kind_no_pass k p h b c (inr e) = c (one_kind k Comment p h e)

string_no_number : (p : List ℕ) → Is Quoted p → is_number p ≡ false
string_no_number p h = step (is_number p) refl
  where
    step : (v : Bool) → is_number p ≡ v → v ≡ false
    step true e = let k : Quoted ≡ Numeral = one_kind Quoted Numeral p h e in absurd (cc)
    step false e = refl

escape_no_token : (n : ℕ) (p : List ℕ) → HasBadEscape n p → (s : Sort) → SpellsSort s p → ⊥
unfolding sort_kind
escape_no_token n p h (String text) g =
    let same : h.0 ≡ g.0 = sym (string_parts h.0 p h.1) ∙ string_parts g.0 p g.1 in
    let e : ◌≡◌ {A = Result (List ℕ) ℕ} (Err n) (Ok text) = sym h.2 ∙ ap (text_of 1) same ∙ g.2 in
    absurd (cc)
escape_no_token n p h s g = let e = one_kind (sort_kind s) Quoted p (spells_kind s p g) (h.0, h.1) in absurd (cc)

zero_no_token : (p : List ℕ) → HasLeadingZero p → (s : Sort) → SpellsSort s p → ⊥
unfolding sort_kind
zero_no_token p h (Number value) g = let e : true ≡ false = sym h.1 ∙ g.leads in absurd (cc)
zero_no_token p h s g = let e = one_kind (sort_kind s) Numeral p (spells_kind s p g) h.0 in absurd (cc)

long_no_token : (p : List ℕ) → IsTooLong p → (s : Sort) → SpellsSort s p → ⊥
unfolding sort_kind
long_no_token p h (Number value) g = let w = g.worth in let f = g.fits in let l = h.2 in omega arith
long_no_token p h s g = let e = one_kind (sort_kind s) Numeral p (spells_kind s p g) h.0 in absurd (cc)

bad_escape_error : (at n : ℕ) (p : List ℕ) → HasBadEscape n p → BadChar (at + n) ≡ piece_error at p
unfolding piece_error bad_place
bad_escape_error at n p h =
    let no : is_number p ≡ false = string_no_number p (h.0, h.1) in
    let bad : text_of 1 (parts_of false (inside_of p)) ≡ Err n = ap (text_of 1) (string_parts h.0 p h.1) ∙ h.2 in
    rw (no, bad) refl

comment_no_string : (bs : List ℕ) → begins_string bs ≡ true → begins_comment bs ≡ false
comment_no_string [] e = absurd (cc)
comment_no_string (c ∷ cs) e = subst (λ (b : ℕ). begins_comment (b ∷ cs) ≡ false) (sym (same_as 34 c (left (nat_eq 34 c) true e))) (step cs)
  where
    step : (ds : List ℕ) → begins_comment (34 ∷ ds) ≡ false
    step [] = refl
    step (d ∷ ds) = refl

begins_some : (bs : List ℕ) → (begins_comment bs ≡ true) ⊎ (begins_string bs ≡ true) → 0 < length bs
begins_some [] (inl e) = absurd (cc)
begins_some [] (inr e) = absurd (cc)
begins_some (c ∷ cs) e = omega arith

-- each refusal is of one of the two kinds, and told by the bytes
pub why : (at : ℕ) (bs : List ℕ) (error : LexError) → Refuses at bs error → IsNoneError at bs error ⊎ IsPieceError at bs error
unfolding none_error piece_error
why at bs (BadUtf8 place) h = absurd h
why at bs (BadChar place) (inl h) =
    inl (record { some = h.0.some; none = h.0.none; is = let c = h.0.no_comment in let s = h.0.no_string in rw (c, s) (ap BadChar h.1) })
why at bs (BadChar place) (inr h) =
    let front = h.1 in
    inr (record {
      len = front.len;
      longest = front.is_longest;
      no_token = escape_no_token h.0 (take front.len bs) front.is;
      no_pass = kind_no_pass Quoted (take front.len bs) (front.is.0, front.is.1) (λ e. absurd (cc)) (λ e. absurd (cc));
      is = ap BadChar h.2 ∙ bad_escape_error at h.0 (take front.len bs) front.is;
    })
why at bs (OpenComment place) h = inl (record { some = begins_some bs (inl h.0); none = h.1; is = let c = h.0 in rw c (ap OpenComment h.2) })
why at bs (OpenString place) h =
    inl (record { some = begins_some bs (inr h.0); none = h.1; is = let s = h.0 in let c = comment_no_string bs h.0 in rw (c, s) (ap OpenString h.2) })
why at bs (LeadingZero place) h =
    let front = h.0 in
    inr (record {
      len = front.len;
      longest = front.is_longest;
      no_token = zero_no_token (take front.len bs) front.is;
      no_pass = kind_no_pass Numeral (take front.len bs) front.is.0 (λ e. absurd (cc)) (λ e. absurd (cc));
      is = let n = front.is.0 in let z = front.is.1 in rw (n, z) (ap LeadingZero h.1);
    })
why at bs (NumberTooLong place) h =
    let front = h.0 in
    inr (record {
      len = front.len;
      longest = front.is_longest;
      no_token = long_no_token (take front.len bs) front.is;
      no_pass = kind_no_pass Numeral (take front.len bs) front.is.0 (λ e. absurd (cc)) (λ e. absurd (cc));
      is = let n = front.is.0 in let z = front.is.1 in rw (n, z) (ap NumberTooLong h.1);
    })
why at bs Memory h = absurd h

-- the longest piece has one length
pub one_length : (bs : List ℕ) (n m : ℕ) → IsLongest bs n → IsLongest bs m → n ≡ m
one_length bs n m a b =
    let f : n < m → ⊥ = λ lt. a.longest m lt b.within b.is in
    let g : m < n → ⊥ = λ lt. b.longest n lt a.within a.is in
    omega arith

-- one refusal at a place
pub one_why : (at : ℕ) (bs : List ℕ) (d e : LexError) → Refuses at bs d → Refuses at bs e → d ≡ e
one_why at bs d e h k = step (why at bs d h) (why at bs e k)
  where
    step : IsNoneError at bs d ⊎ IsPieceError at bs d → IsNoneError at bs e ⊎ IsPieceError at bs e → d ≡ e
    step (inl x) (inl y) = x.is ∙ sym y.is
    step (inl x) (inr y) = absurd (x.none y.len y.longest.is)
    step (inr x) (inl y) = absurd (y.none x.len x.longest.is)
    step (inr x) (inr y) = x.is ∙ ap (λ (n : ℕ). piece_error at (take n bs)) (one_length bs x.len y.len x.longest y.longest) ∙ sym y.is

-- a piece that goes on
abbrev pub GoesOn : List ℕ → Type 0
GoesOn p = IsPassedOver p ⊎ ((s : Sort) × SpellsSort s p)

-- where a piece goes on nothing is refused
pub goes_or_stops : (at : ℕ) (bs : List ℕ) (len : ℕ) (error : LexError) → IsLongest bs len → GoesOn (take len bs) → Refuses at bs error → ⊥
goes_or_stops at bs len error l good h = step (why at bs error h)
  where
    clash : (x : IsPieceError at bs error) → GoesOn (take x.len bs) → ⊥
    clash x (inl p) = x.no_pass p
    clash x (inr t) = x.no_token t.0 t.1

    step : IsNoneError at bs error ⊎ IsPieceError at bs error → ⊥
    step (inl x) = x.none len l.is
    step (inr x) = clash x (subst (λ (n : ℕ). GoesOn (take n bs)) (one_length bs len x.len l x.longest) good)

-- at the end of a file nothing is refused
pub none_at_end : (at : ℕ) (error : LexError) → Refuses at [] error → ⊥
none_at_end at error h = step (why at [] error h)
  where
    empty : (n : ℕ) → IsPiece (take n []) → ⊥
    empty zero p = none_empty p.0 p.1
    empty (suc n) p = none_empty p.0 p.1

    step : IsNoneError at [] error ⊎ IsPieceError at [] error → ⊥
    step (inl x) = let s = x.some in omega arith
    step (inr x) = empty x.len x.longest.is
