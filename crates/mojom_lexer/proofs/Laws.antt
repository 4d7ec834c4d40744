-- A file has one list of tokens or one refusal, and its tokens stand in order.
use Rattle.std.proofs.Common.{◌≡◌, ℕ, zero, suc, ◌+◌, ◌≤◌, ◌<◌, List, [], ◌∷◌, ◌++◌, length, take, drop, Bool, true, false, ◌⊎◌, inl, inr, refl, sym, ap, ◌∙◌, subst, arith}
use Rattle.std.specs.Prelude.{IsUtf8}
use Rattle.std.specs.Str.Lossy.{utf8_valid_len}
use Rattle.std.proofs.Math.Seq.{drop-length}
use Rattle.mojom_ast.specs.declared.token.Sort.{Sort}
use Rattle.mojom_ast.specs.declared.token.Token.{Token}
use Rattle.mojom_lexer.specs.declared.error.LexError.{LexError}
use Rattle.mojom_lexer.specs.declared.error.LexError.TheVariants.{BadUtf8, BadChar, OpenComment, OpenString, LeadingZero, NumberTooLong, Memory}
use Rattle.mojom_lexer.specs.Pieces.{IsPiece, IsLongest}
use Rattle.mojom_lexer.specs.Lexed.{IsPassedOver, SpellsSort, Reaches, AreTokens, Refuses, StopsAt, IsLexicalRefusal, OneReading}
use Rattle.mojom_lexer.specs.Lexed.Reaches.{starts, passes, takes}
use Rattle.mojom_lexer.proofs.FirstBytes.{none_empty}
use Rattle.mojom_lexer.proofs.Steps.{token_at}
use Rattle.mojom_lexer.proofs.Total.{some_reading}
use Rattle.mojom_lexer.proofs.Meanings.{one_sort, passed_no_token, one_length, one_why, GoesOn, goes_or_stops, none_at_end}

-- the tokens after a piece: none more, or one more
abbrev pub Adds : ℕ → ℕ → List ℕ → List Token → List Token → Type 0
Adds at len p tokens more = (IsPassedOver p × (more ≡ tokens)) ⊎ ((s : Sort) × SpellsSort s p × (more ≡ tokens ++ token_at s at len ∷ []))

-- one piece more
pub record Step (bs : List ℕ) (at : ℕ) (tokens : List Token) (to : ℕ) (more : List Token) : Type 0 where
  pub len : ℕ
  pub longest : IsLongest (drop at bs) len
  pub to_is : to ≡ at + len
  pub adds : Adds at len (take len (drop at bs)) tokens more

adds_one : (at len : ℕ) (p : List ℕ) (tokens more other : List Token) → Adds at len p tokens more → Adds at len p tokens other → more ≡ other
adds_one at len p tokens more other (inl x) (inl y) = x.1 ∙ sym y.1
adds_one at len p tokens more other (inl x) (inr y) = absurd (passed_no_token y.0 p x.0 y.1)
adds_one at len p tokens more other (inr x) (inl y) = absurd (passed_no_token x.0 p y.0 x.1)
adds_one at len p tokens more other (inr x) (inr y) = x.2 ∙ ap (λ (s : Sort). tokens ++ token_at s at len ∷ []) (one_sort x.0 y.0 p x.1 y.1) ∙ sym y.2

step_one : (bs : List ℕ) (at : ℕ) (tokens : List Token) (a b : ℕ) (us vs : List Token) → Step bs at tokens a us → Step bs at tokens b vs → (a ≡ b) × (us ≡ vs)
step_one bs at tokens a b us vs x y =
    let n : x.len ≡ y.len = one_length (drop at bs) x.len y.len x.longest y.longest in (
      x.to_is ∙ ap (λ (k : ℕ). at + k) n ∙ sym y.to_is,
      adds_one at y.len (take y.len (drop at bs)) tokens us vs (subst (λ (k : ℕ). Adds at k (take k (drop at bs)) tokens us) n x.adds) y.adds,
    )

step_goes : (bs : List ℕ) (at : ℕ) (tokens : List Token) (to : ℕ) (more : List Token) (x : Step bs at tokens to more) → GoesOn (take x.len (drop at bs))
step_goes bs at tokens to more x = of x.adds
  where
    of : Adds at x.len (take x.len (drop at bs)) tokens more → GoesOn (take x.len (drop at bs))
    of (inl p) = inl p.0
    of (inr t) = inr (t.0, t.1)

-- so many pieces
abbrev pub ReachesIn : List ℕ → ℕ → ℕ → List Token → Type 0
ReachesIn bs zero at tokens = (at ≡ 0) × (tokens ≡ [])
ReachesIn bs (suc n) at tokens = (before : ℕ) × (earlier : List Token) × ReachesIn bs n before earlier × Step bs before earlier at tokens

counted : (bs : List ℕ) (at : ℕ) (tokens : List Token) → Reaches bs at tokens → (n : ℕ) × ReachesIn bs n at tokens
counted bs at tokens starts = (0, (refl, refl))
counted bs at tokens (passes before len earlier r l p) =
    let x = counted bs before earlier r in
    (suc x.0, (before, earlier, x.1, record { len = len; longest = l; to_is = refl; adds = inl (p, refl) }))
counted bs at tokens (takes before len earlier s r l h) =
    let x = counted bs before earlier r in
    (suc x.0, (before, earlier, x.1, record { len = len; longest = l; to_is = refl; adds = inr (s, h, refl) }))

step_to : (bs : List ℕ) (at b : ℕ) (ts us : List Token) (to : ℕ) (more : List Token) → at ≡ b → ts ≡ us → Step bs at ts to more → Step bs b us to more
step_to bs at b ts us to more e f x = subst (λ (vs : List Token). Step bs b vs to more) f (subst (λ (k : ℕ). Step bs k ts to more) e x)

in_one : (bs : List ℕ) (n a b : ℕ) (us vs : List Token) → ReachesIn bs n a us → ReachesIn bs n b vs → (a ≡ b) × (us ≡ vs)
in_one bs zero a b us vs h k = (h.0 ∙ sym k.0, h.1 ∙ sym k.1)
in_one bs (suc n) a b us vs h k =
    let same = in_one bs n h.0 k.0 h.1 k.1 h.2 k.2 in
    step_one bs k.0 k.1 a b us vs (step_to bs h.0 k.0 h.1 k.1 a us same.0 same.1 h.3) k.3

-- where more pieces follow, one follows
pub record Follows (bs : List ℕ) (at : ℕ) : Type 0 where
  pub len : ℕ
  pub longest : IsLongest (drop at bs) len
  pub goes : GoesOn (take len (drop at bs))

step_follows : (bs : List ℕ) (a before b : ℕ) (ts vs : List Token) → before ≡ a → Step bs before ts b vs → Follows bs a
step_follows bs a before b ts vs e x = subst (λ (k : ℕ). Follows bs k) e (record { len = x.len; longest = x.longest; goes = step_goes bs before ts b vs x })

in_more : (bs : List ℕ) (m n a b : ℕ) (us vs : List Token) → n < m → ReachesIn bs n a us → ReachesIn bs m b vs → Follows bs a
in_more bs zero n a b us vs lt h k = absurd (omega arith)
in_more bs (suc m) n a b us vs lt h k = step (λ lt. in_more bs m n a k.0 us k.1 lt h k.2) (Rattle.std.specs.Prelude.nat_lt n m) refl
  where
    step : (n < m → Follows bs a) → (v : Bool) → Rattle.std.specs.Prelude.nat_lt n m ≡ v → Follows bs a
    step others true e = others (grind (arith, Rattle.std.proofs.lemmas.Bool.Decides.nat_tests))
    step others false e =
        let ge : m ≤ n = grind (arith, Rattle.std.proofs.lemmas.Bool.Decides.nat_tests) in
        let same : n ≡ m = omega arith in
        let both = in_one bs m k.0 a k.1 us k.2 (subst (λ (i : ℕ). ReachesIn bs i a us) same h) in
        step_follows bs a k.0 b k.1 vs both.0 k.3

-- no piece follows at the end
end_stops : (bs : List ℕ) → Follows bs (length bs) → ⊥
end_stops bs x = none (subst (λ (ds : List ℕ). IsLongest ds x.len) (drop-length bs) x.longest)
  where
    empty : (n : ℕ) → IsPiece (take n []) → ⊥
    empty zero p = none_empty p.0 p.1
    empty (suc n) p = none_empty p.0 p.1

    none : IsLongest [] x.len → ⊥
    none l = empty x.len l.is

-- either count is the less, or they are one
compared : (n m : ℕ) → (n < m) ⊎ ((m < n) ⊎ (n ≡ m))
compared n m = step (Rattle.std.specs.Prelude.nat_lt n m) (Rattle.std.specs.Prelude.nat_lt m n) refl refl
  where
    step : (v w : Bool) → Rattle.std.specs.Prelude.nat_lt n m ≡ v → Rattle.std.specs.Prelude.nat_lt m n ≡ w → (n < m) ⊎ ((m < n) ⊎ (n ≡ m))
    step true w e f = inl (grind (arith, Rattle.std.proofs.lemmas.Bool.Decides.nat_tests))
    step false true e f = inr (inl (grind (arith, Rattle.std.proofs.lemmas.Bool.Decides.nat_tests)))
    step false false e f =
        let a : m ≤ n = grind (arith, Rattle.std.proofs.lemmas.Bool.Decides.nat_tests) in
        let b : n ≤ m = grind (arith, Rattle.std.proofs.lemmas.Bool.Decides.nat_tests) in
        inr (inr (omega arith))

same_tokens : (bs : List ℕ) (n m : ℕ) (us vs : List Token) → ReachesIn bs n (length bs) us → ReachesIn bs m (length bs) vs → us ≡ vs
same_tokens bs n m us vs h k = step (compared n m)
  where
    step : (n < m) ⊎ ((m < n) ⊎ (n ≡ m)) → us ≡ vs
    step (inl lt) = absurd (end_stops bs (in_more bs m n (length bs) (length bs) us vs lt h k))
    step (inr (inl lt)) = absurd (end_stops bs (in_more bs n m (length bs) (length bs) vs us lt k h))
    step (inr (inr e)) = (in_one bs m (length bs) (length bs) us vs (subst (λ (i : ℕ). ReachesIn bs i (length bs) us) e h) k).1

follows_stops : (bs : List ℕ) (at : ℕ) (error : LexError) → Follows bs at → Refuses at (drop at bs) error → ⊥
follows_stops bs at error x h = goes_or_stops at (drop at bs) x.len error x.longest x.goes h

tokens_or_stop : (bs : List ℕ) (n m at : ℕ) (us vs : List Token) (error : LexError)
    → ReachesIn bs n (length bs) us → ReachesIn bs m at vs → Refuses at (drop at bs) error → ⊥
tokens_or_stop bs n m at us vs error h k r = step (compared n m)
  where
    step : (n < m) ⊎ ((m < n) ⊎ (n ≡ m)) → ⊥
    step (inl lt) = end_stops bs (in_more bs m n (length bs) at us vs lt h k)
    step (inr (inl lt)) = follows_stops bs at error (in_more bs n m at (length bs) vs us lt k h) r
    step (inr (inr e)) =
        let same : length bs ≡ at = (in_one bs m (length bs) at us vs (subst (λ (i : ℕ). ReachesIn bs i (length bs) us) e h) k).0 in
        none_at_end at error (subst (λ (ds : List ℕ). Refuses at ds error) (ap (λ (i : ℕ). drop i bs) (sym same) ∙ drop-length bs) r)

one_stop : (bs : List ℕ) (n m a b : ℕ) (us vs : List Token) (d e : LexError)
    → ReachesIn bs n a us → ReachesIn bs m b vs → Refuses a (drop a bs) d → Refuses b (drop b bs) e → d ≡ e
one_stop bs n m a b us vs d e h k r s = step (compared n m)
  where
    step : (n < m) ⊎ ((m < n) ⊎ (n ≡ m)) → d ≡ e
    step (inl lt) = absurd (follows_stops bs a d (in_more bs m n a b us vs lt h k) r)
    step (inr (inl lt)) = absurd (follows_stops bs b e (in_more bs n m b a vs us lt k h) s)
    step (inr (inr f)) =
        let same : a ≡ b = (in_one bs m a b us vs (subst (λ (i : ℕ). ReachesIn bs i a us) f h) k).0 in
        one_why b (drop b bs) d e (subst (λ (i : ℕ). Refuses i (drop i bs) d) same r) s

-- the bytes are no UTF-8, or stop at a piece
pub record IsNoText (bs : List ℕ) (error : LexError) : Type 0 where
  pub no_utf8 : IsUtf8 bs → ⊥
  pub is : error ≡ BadUtf8 (utf8_valid_len bs)

split : (bs : List ℕ) (error : LexError) → IsLexicalRefusal bs error → IsNoText bs error ⊎ StopsAt bs error
split bs (BadUtf8 place) h = inl (record { no_utf8 = h.0; is = ap BadUtf8 h.1 })
split bs (BadChar place) h = inr h
split bs (OpenComment place) h = inr h
split bs (OpenString place) h = inr h
split bs (LeadingZero place) h = inr h
split bs (NumberTooLong place) h = inr h
split bs Memory h = inr h

one_list : (bs : List ℕ) (us vs : List Token) → AreTokens bs us → AreTokens bs vs → us ≡ vs
one_list bs us vs h k = let x = counted bs (length bs) us h.reaches in let y = counted bs (length bs) vs k.reaches in same_tokens bs x.0 y.0 us vs x.1 y.1

one_refusal : (bs : List ℕ) (d e : LexError) → IsLexicalRefusal bs d → IsLexicalRefusal bs e → d ≡ e
one_refusal bs d e h k = step (split bs d h) (split bs e k)
  where
    step : IsNoText bs d ⊎ StopsAt bs d → IsNoText bs e ⊎ StopsAt bs e → d ≡ e
    step (inl x) (inl y) = x.is ∙ sym y.is
    step (inl x) (inr y) = absurd (x.no_utf8 y.utf8)
    step (inr x) (inl y) = absurd (y.no_utf8 x.utf8)
    step (inr x) (inr y) =
        let a = counted bs x.at x.tokens x.reaches in
        let b = counted bs y.at y.tokens y.reaches in
        one_stop bs a.0 b.0 x.at y.at x.tokens y.tokens d e a.1 b.1 x.refuses y.refuses

never_both : (bs : List ℕ) (us : List Token) (e : LexError) → AreTokens bs us → IsLexicalRefusal bs e → ⊥
never_both bs us e h k = step (split bs e k)
  where
    step : IsNoText bs e ⊎ StopsAt bs e → ⊥
    step (inl x) = x.no_utf8 h.utf8
    step (inr x) =
        let a = counted bs (length bs) us h.reaches in
        let b = counted bs x.at x.tokens x.reaches in
        tokens_or_stop bs a.0 b.0 x.at us x.tokens e a.1 b.1 x.refuses

-- the law of `one_reading`
pub one_reading : (bs : List ℕ) → OneReading bs
one_reading bs = record { some = some_reading bs; one_list = one_list bs; one_refusal = one_refusal bs; never_both = never_both bs }
