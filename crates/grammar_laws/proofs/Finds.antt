-- What a rule spells or begins, reading by the rule goes over, and does not stop within it.
use Rattle.std.proofs.Common.{◌≡◌, ℕ, suc, ◌≤◌, List, [], ◌∷◌, ◌++◌, length, Option, Some, None, Ok, Err, Bool, true, false, nat_eq, cond, ◌⊎◌, inl, inr, refl, ap, subst, arith, length-append}
use Rattle.std.proofs.lemmas.Bool.{eqb-true}
use Rattle.mojom_ast.specs.declared.fault.Fault.TheVariants.{Unexpected, TooNested}
use Rattle.mojom_ast.specs.declared.token.Token.{Token}
use Rattle.mojom_ast.specs.Classes.{class}
use Rattle.mojom_ast.specs.Lang.{Lang, Mode, Cut, Read, ◌>>=◌, has, tok, ◌▹◌, as_value, ◌or◌, maybe, maybe_read}
use Rattle.grammar_laws.proofs.Asks.{Ask, Spelled, Sure, Beginning, TooDeep, mode_of}
use Rattle.grammar_laws.proofs.Shows.{Shown, Shows, shows_tok, shows_or, shows_maybe}
use Rattle.grammar_laws.proofs.Opens.{Opens}

-- The reading went on behind all that was given, up to u; or it met a type too deep.
abbrev pub Passes : {A : Type 0} → Ask → List Token → Read A → Type 0
Passes Spelled u (Ok x) = ⊥
Passes Spelled u (Err (Unexpected l)) = ⊥
Passes Spelled u (Err (TooNested l)) = Unit {0}
Passes Sure u r = ⊥
Passes Beginning u (Ok x) = length x.1 ≤ length u
Passes Beginning u (Err (Unexpected l)) = l ≤ length u
Passes Beginning u (Err (TooNested l)) = Unit {0}
Passes TooDeep u (Ok x) = ⊥
Passes TooDeep u (Err (Unexpected l)) = ⊥
Passes TooDeep u (Err (TooNested l)) = l ≡ suc (length u)

-- The reading came to where Rest holds of the tokens before u.
abbrev pub Reaches : {A : Type 0} → (A → List Token → Type 0) → List Token → Read A → Type 0
Reaches {A} K u r = (x : A) × (q : List Token) × K x q × (r ≡ Ok (x, q ++ u))

-- what reading may give where something is asked: a value with what follows it, or a fault far enough on
abbrev pub Outcome : {A : Type 0} → Ask → (A → List Token → Type 0) → List Token → Read A → Type 0
Outcome m K u r = Reaches K u r ⊎ Passes m u r

-- What may follow isn't what may go on with the rule.
abbrev pub Free : {A : Type 0} → List ℕ → (A → List Token → Type 0) → Type 0
Free {A} more K = (x : A) (t : Token) (ts : List Token) → K x (t ∷ ts) → has more (class t) ≡ false

-- what the rest has to fit, where a beginning is asked for
abbrev pub Fits : {A : Type 0} → Ask → List Token → (A → List Token → Type 0) → Type 0
Fits Spelled u K = u ≡ []
Fits Sure u K = u ≡ []
Fits Beginning u K = Unit {0}
Fits {A} TooDeep u K = (x : A) → K x [] → ⊥

-- whether the depth is asked for
abbrev pub Asked : Type 0 → Ask → Type 0
Asked D Spelled = Unit {0}
Asked D Sure = D
Asked D Beginning = Unit {0}
Asked D TooDeep = D

-- what is asked of a list is found by reading, up to a length
abbrev pub Finds : {A : Type 0} → ℕ → Type 0 → List ℕ → Lang A → Lang A → Type 1
Finds {A} b D more one two = (m : Ask) → Asked D m → (K : A → List Token → Type 0) → Free more K → (p u : List Token) → length (p ++ u) ≤ b → Fits m u K
    → one.followed (mode_of m) K p → Outcome m K u (two.read (p ++ u))

passes_then : {A B : Type 0} (m : Ask) (u : List Token) (r : Read A) (g : A × List Token → Read B)
    → ((x : A × List Token) → length x.1 ≤ length u → Passes Beginning u (g x)) → Passes m u r → Passes m u (r >>= g)
passes_then Spelled u (Ok x) g h p = absurd p
passes_then Spelled u (Err (Unexpected l)) g h p = absurd p
passes_then Spelled u (Err (TooNested l)) g h p = tt
passes_then Sure u r g h p = absurd p
passes_then Beginning u (Ok x) g h p = h x p
passes_then Beginning u (Err (Unexpected l)) g h p = p
passes_then Beginning u (Err (TooNested l)) g h p = tt
passes_then TooDeep u (Ok x) g h p = absurd p
passes_then TooDeep u (Err (Unexpected l)) g h p = absurd p
passes_then TooDeep u (Err (TooNested l)) g h p = p

beyond_at : {A : Type 0} (two : Lang A) (ts u : List Token) (r : Read A) → length ts ≤ length u → Shown two ts r → Passes Beginning u r
beyond_at two ts u (Ok x) le t = omega (arith, ap length t.1, length-append t.0 x.1)
beyond_at two ts u (Err (Unexpected l)) le t = omega (arith, ap length t.2, length-append t.0 t.1, t.3)
beyond_at two ts u (Err (TooNested l)) le t = tt

-- reading that stops in the last tokens passes those before
pub beyond : {A : Type 0} (two : Lang A) → Shows two → (ts u : List Token) → length ts ≤ length u → Passes Beginning u (two.read ts)
beyond two t ts u le = beyond_at two ts u (two.read ts) le (t ts)

-- where the list ends, reading passes it
pub cut : {A : Type 0} (m : Ask) (K : A → List Token → Type 0) (two : Lang A) → Shows two → (u : List Token) → Cut (mode_of m) → Outcome m K u (two.read u)
cut Spelled K two t u h = absurd h
cut Sure K two t u h = absurd h
cut Beginning K two t u h = inr (beyond two t u u (omega arith))
cut TooDeep K two t u h = absurd h

-- one token
pub finds_tok : (b : ℕ) (D : Type 0) (c : List ℕ) → Finds b D [] (tok c) (tok c)
finds_tok b D c m ask K free [] u le fits h = cut m K (tok c) (shows_tok c) u h
finds_tok b D c m ask K free (t ∷ ts) u le fits h = inl (t, ts, h.1, rw h.0 refl)

-- an outcome with another value
pub value_outcome : {A B : Type 0} (m : Ask) (K : B → List Token → Type 0) (u : List Token) (g : A → B) (r : Read A) → Outcome m (λ a. K (g a)) u r
    → Outcome m K u (r >>= λ x. Ok (g x.0, x.1))
value_outcome m K u g r (inl h) = inl (g h.0, h.1, h.2, rw h.3 refl)
value_outcome m K u g r (inr h) = inr (passes_then m u r (λ x. Ok (g x.0, x.1)) (λ x le. le) h)

-- the same with another value
pub finds_value : {A B : Type 0} (b : ℕ) (D : Type 0) (more : List ℕ) (g : A → B) (one two : Lang A) → Finds b D more one two → Finds b D more
    (as_value g one) (as_value g two)
finds_value b D more g one two f m ask K free p u le fits h = value_outcome m K u g (two.read (p ++ u))
    (f m ask (λ a. K (g a)) (λ x. free (g x)) p u le (fits_value m fits) h)
  where
    fits_value : (n : Ask) → Fits n u K → Fits n u (λ a. K (g a))
    fits_value Spelled e = e
    fits_value Sure e = e
    fits_value Beginning e = tt
    fits_value TooDeep e = λ x. e (g x)

-- no number is in both
abbrev pub disjoint : List ℕ → List ℕ → Bool
disjoint [] ys = true
disjoint (x ∷ xs) ys = cond (has ys x) false (disjoint xs ys)

apart_here : (v w : Bool) (xs : Bool) → v ≡ true → cond v false xs ≡ true → ⊥
apart_here true w xs e h = absurd (cc)
apart_here false w xs e h = absurd (cc)

apart_rest : (v xs : Bool) → cond v false xs ≡ true → xs ≡ true
apart_rest true xs h = absurd (cc)
apart_rest false xs h = h

apart_step : (v w : Bool) → (v ≡ true → ⊥) → w ≡ false → cond v true w ≡ false
apart_step true w n e = absurd (n refl)
apart_step false w n e = e

-- of two lists without a common class, one lacks what the other has
pub apart : (xs ys : List ℕ) (c : ℕ) → disjoint xs ys ≡ true → has ys c ≡ true → has xs c ≡ false
apart [] ys c d e = refl
apart (x ∷ xs) ys c d e = apart_step (nat_eq c x) (has xs c) (λ same. let eq : c ≡ x = eqb-true c x same in let there : has ys x ≡ true = subst
    (λ (n : ℕ). has ys n ≡ true) eq e in apart_here (has ys x) true (disjoint xs ys) there d) (apart xs ys c (apart_rest (has ys x) (disjoint xs ys) d) e)

neither_left : (v w w' : Bool) → (w ≡ false → w' ≡ false) → cond v true w ≡ false → cond v true w' ≡ false
neither_left true w w' h e = absurd (cc)
neither_left false w w' h e = h e

-- what two lists lack, the first lacks
pub lacks_left : (a b : List ℕ) (c : ℕ) → has (a ++ b) c ≡ false → has a c ≡ false
lacks_left [] b c e = refl
lacks_left (x ∷ xs) b c e = neither_left (nat_eq c x) (has (xs ++ b) c) (has xs c) (lacks_left xs b c) e

lacks_tail : (v w : Bool) → cond v true w ≡ false → w ≡ false
lacks_tail true w e = absurd (cc)
lacks_tail false w e = e

-- what two lists lack, the second lacks
pub lacks_right : (a b : List ℕ) (c : ℕ) → has (a ++ b) c ≡ false → has b c ≡ false
lacks_right [] b c e = e
lacks_right (x ∷ xs) b c e = lacks_right xs b c (lacks_tail (nat_eq c x) (has (xs ++ b) c) e)

lacks_then : (null : Bool) (a b : List ℕ) (c : ℕ) → has (cond null (a ++ b) a) c ≡ false → has a c ≡ false
lacks_then true a b c e = lacks_left a b c e
lacks_then false a b c e = e

lacks_before : (null : Bool) (a b : List ℕ) (c : ℕ) → null ≡ true → has (cond null (a ++ b) a) c ≡ false → has b c ≡ false
lacks_before true a b c n e = lacks_right a b c e
lacks_before false a b c n e = absurd (cc)

module _ {A B : Type 0} (b b2 : ℕ) (D : Type 0) (m1 m2 : List ℕ) (a1 a2 : Lang A) (c1 c2 : Lang B) (opens : Opens c1) (apt : disjoint m1 c1.starts ≡ true) where
  free_first : (m : Ask) (K : A × B → List Token → Type 0) → Free (cond c1.null (m2 ++ m1) m2) K → Free m1 (λ x. c1.followed (mode_of m) (λ y. K (x, y)))
  free_first m K free x t ts h = elim (opens (mode_of m) (λ y. K (x, y)) (t ∷ ts) h) [
    | inl f ↦ apart m1 c1.starts (class t) apt f
    | inr n ↦ lacks_before c1.null m2 m1 (class t) n.0 (free (x, n.1.0) t ts n.1.1)
  ]

  free_second : (K : A × B → List Token → Type 0) → Free (cond c1.null (m2 ++ m1) m2) K → (x : A) → Free m2 (λ y. K (x, y))
  free_second K free x y t ts k = lacks_then c1.null m2 m1 (class t) (free (x, y) t ts k)

  fits_first : (m : Ask) (u : List Token) (K : A × B → List Token → Type 0) → Fits m u K → Fits m u (λ x. c1.followed (mode_of m) (λ y. K (x, y)))
  fits_first Spelled u K e = e
  fits_first Sure u K e = e
  fits_first Beginning u K e = tt
  fits_first TooDeep u K e = λ x h. elim (opens (mode_of TooDeep) (λ y. K (x, y)) [] h) [ inl f ↦ f | inr n ↦ e (x, n.1.0) n.1.1 ]

  fits_second : (m : Ask) (u : List Token) (K : A × B → List Token → Type 0) → Fits m u K → (x : A) → Fits m u (λ y. K (x, y))
  fits_second Spelled u K e x = e
  fits_second Sure u K e x = e
  fits_second Beginning u K e x = tt
  fits_second TooDeep u K e x = λ y. e (x, y)

  -- one rule after the other
  pub finds_seq : Finds b D m1 a1 a2 → Finds b2 D m2 c1 c2 → Shows c2 → ((ts : List Token) (x : A) (rest : List Token) → a2.read ts ≡ Ok (x, rest)
      → length ts ≤ b → length rest ≤ b2) → Finds b D (cond c1.null (m2 ++ m1) m2) (a1 ▹ c1) (a2 ▹ c2)
  finds_seq fa fc shows shrinks m ask K free p u le fits h =
      elim (fa m ask (λ x. c1.followed (mode_of m) (λ y. K (x, y))) (free_first m K free) p u le (fits_first m u K fits) h) [
        | inl r ↦ rw r.3 (value_outcome m K u (λ y. (r.0, y)) (c2.read (r.1 ++ u))
            (fc m ask (λ y. K (r.0, y)) (free_second K free r.0) r.1 u (shrinks (p ++ u) r.0 (r.1 ++ u) r.3 le) (fits_second m u K fits r.0) r.2))
        | inr s ↦ inr (passes_then m u (a2.read (p ++ u)) (λ x. c2.read x.1 >>= λ y. Ok ((x.0, y.0), y.1))
            (λ x short. passes_then Beginning u (c2.read x.1) (λ y. Ok ((x.0, y.0), y.1)) (λ y le2. le2) (beyond c2 shows x.1 u short)) s)
      ]

-- what holds of the first of two holds of the one that is taken
pub pick_true : {A : Type 0} (P : A → Type 0) (v : Bool) (x y : A) → v ≡ true → P x → P (cond v x y)
pick_true P true x y e h = h
pick_true P false x y e h = absurd (cc)

pick_false : {A : Type 0} (P : A → Type 0) (v : Bool) (x y : A) → v ≡ false → P y → P (cond v x y)
pick_false P true x y e h = absurd (cc)
pick_false P false x y e h = h

-- what follows a rule begins with one of its starts
pub front_has : {A : Type 0} (one two : Lang A) → Opens one → one.null ≡ false → one.starts ≡ two.starts → (m : Mode) (K : A → List Token → Type 0)
    (t : Token) (ts : List Token) → one.followed m K (t ∷ ts) → has two.starts (class t) ≡ true
front_has one two o e same m K t ts h = elim (o m K (t ∷ ts) h) [ inl f ↦ subst (λ (cs : List ℕ). has cs (class t) ≡ true) same f | inr n ↦ absurd (cc) ]

-- a rule that is not nothing is followed at the end only where that may be
pub cut_of : {A : Type 0} (one : Lang A) → Opens one → one.null ≡ false → (m : Mode) (K : A → List Token → Type 0) → one.followed m K [] → Cut m
cut_of one o e m K h = elim (o m K [] h) [ inl f ↦ f | inr n ↦ absurd (cc) ]

-- one rule or the other
pub finds_or : {A : Type 0} (b : ℕ) (D : Type 0) (m1 m2 : List ℕ) (a1 a2 c1 c2 : Lang A) → Finds b D m1 a1 a2 → Finds b D m2 c1 c2 → Opens a1 → Opens c1
    → Shows a2 → Shows c2 → a1.null ≡ false → c1.null ≡ false → a1.starts ≡ a2.starts → disjoint a1.starts c1.starts ≡ true → Finds b D (m1 ++ m2) (a1 or c1)
    (a2 or c2)
finds_or b D m1 m2 a1 a2 c1 c2 fa fc oa oc ta tc na nc same apt m ask K free [] u le fits (inl h) = cut m K (a2 or c2) (shows_or a2 c2 ta tc) u
    (cut_of a1 oa na (mode_of m) K h)
finds_or b D m1 m2 a1 a2 c1 c2 fa fc oa oc ta tc na nc same apt m ask K free [] u le fits (inr h) = cut m K (a2 or c2) (shows_or a2 c2 ta tc) u
    (cut_of c1 oc nc (mode_of m) K h)
finds_or b D m1 m2 a1 a2 c1 c2 fa fc oa oc ta tc na nc same apt m ask K free (t ∷ ts) u le fits (inl h) =
    pick_true (Outcome m K u) (has a2.starts (class t)) (a2.read (t ∷ ts ++ u)) (c2.read (t ∷ ts ++ u)) (front_has a1 a2 oa na same (mode_of m) K t ts h)
    (fa m ask K (λ x s ss k. lacks_left m1 m2 (class s) (free x s ss k)) (t ∷ ts) u le fits h)
finds_or b D m1 m2 a1 a2 c1 c2 fa fc oa oc ta tc na nc same apt m ask K free (t ∷ ts) u le fits (inr h) =
    pick_false (Outcome m K u) (has a2.starts (class t)) (a2.read (t ∷ ts ++ u)) (c2.read (t ∷ ts ++ u))
    (subst (λ (cs : List ℕ). has cs (class t) ≡ false) same (apart a1.starts c1.starts (class t) apt (front_has c1 c1 oc nc refl (mode_of m) K t ts h)))
    (fc m ask K (λ x s ss k. lacks_right m1 m2 (class s) (free x s ss k)) (t ∷ ts) u le fits h)

skipped_end : {A : Type 0} (m : Ask) (K : Option A → List Token → Type 0) (two : Lang A) → Shows two → (u : List Token) → Fits m u K → K None []
    → Outcome m K u (maybe_read two u)
skipped_end Spelled K two t u fits k = rw fits (inl (None, [], k, refl))
skipped_end Sure K two t u fits k = rw fits (inl (None, [], k, refl))
skipped_end Beginning K two t u fits k = inr (beyond (maybe two) (shows_maybe two t) u u (omega arith))
skipped_end TooDeep K two t u fits k = absurd (fits None k)

-- a rule that may be left out is left out
pub skipped : {A : Type 0} (m : Ask) (K : Option A → List Token → Type 0) (two : Lang A) → Shows two → Free two.starts K → (p u : List Token) → Fits m u K
    → K None p → Outcome m K u (maybe_read two (p ++ u))
skipped m K two t free [] u fits k = skipped_end m K two t u fits k
skipped m K two t free (s ∷ ss) u fits k = pick_false (Outcome m K u) (has two.starts (class s)) (two.read (s ∷ ss ++ u) >>= λ x. Ok (Some x.0, x.1))
    (Ok (None, s ∷ ss ++ u)) (free None s ss k) (inl (None, s ∷ ss, k, refl))

fits_some : {A : Type 0} (m : Ask) (u : List Token) (K : Option A → List Token → Type 0) → Fits m u K → Fits m u (λ x. K (Some x))
fits_some Spelled u K e = e
fits_some Sure u K e = e
fits_some Beginning u K e = tt
fits_some TooDeep u K e = λ x. e (Some x)

-- at most one
pub finds_maybe : {A : Type 0} (b : ℕ) (D : Type 0) (more : List ℕ) (one two : Lang A) → Finds b D more one two → Opens one → Shows two → one.null ≡ false
    → one.starts ≡ two.starts → Finds b D (two.starts ++ more) (maybe one) (maybe two)
finds_maybe b D more one two f o t e same m ask K free p u le fits (inr k) = skipped m K two t
    (λ x s ss h. lacks_left two.starts more (class s) (free x s ss h)) p u fits k
finds_maybe b D more one two f o t e same m ask K free [] u le fits (inl h) = cut m K (maybe two) (shows_maybe two t) u
    (cut_of one o e (mode_of m) (λ x. K (Some x)) h)
finds_maybe b D more one two f o t e same m ask K free (s ∷ ss) u le fits (inl h) =
    pick_true (Outcome m K u) (has two.starts (class s)) (two.read (s ∷ ss ++ u) >>= λ x. Ok (Some x.0, x.1)) (Ok (None, s ∷ ss ++ u))
    (front_has one two o e same (mode_of m) (λ x. K (Some x)) s ss h)
    (value_outcome m K u Some (two.read (s ∷ ss ++ u)) (f m ask (λ x. K (Some x)) (λ x r rs k. lacks_right two.starts more (class r) (free (Some x) r rs k))
    (s ∷ ss) u le (fits_some m u K fits) h))
