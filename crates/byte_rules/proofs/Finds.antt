-- What a rule spells or begins, reading by the rule goes over, and does not stop within it.
use Rattle.std.proofs.Common.{◌≡◌, ℕ, zero, suc, ◌≤◌, List, [], ◌∷◌, ◌++◌, length, Ok, Err, Bool, true, false, cond, ◌==◌, ◌⊎◌, inl, inr, refl, sym, ap}
use Rattle.std.proofs.Common.{subst, append_assoc, arith, length-append}
use Rattle.std.proofs.lemmas.List.{append-nil}
use Rattle.byte_rules.specs.Lang.{Lang, Mode, Whole, Begun, Cut, Read, ◌>>=◌, byte_in, as_value, ◌then◌, choice, until}
use Rattle.byte_rules.specs.Lang.{many, Words, words}
use Rattle.byte_rules.proofs.Tells.{Told, Tells, tells_byte, tells_value, tells_until}

-- the bytes begin with one of these, or end where the mode lets them
abbrev pub Open : (ℕ → Bool) → Mode → List ℕ → Type 0
Open S m [] = Cut m
Open S m (b ∷ bs) = S b ≡ true

abbrev pub Opens : {A : Type 0} → (ℕ → Bool) → Lang A → Type 1
Opens {A} S one = (m : Mode) (K : A → List ℕ → Type 0) (p : List ℕ) → one.followed m K p → Open S m p

-- The reading went on behind all that was given, up to u.
abbrev pub Passes : {A : Type 0} → Mode → List ℕ → Read A → Type 0
Passes Whole u r = ⊥
Passes Begun u (Ok x) = length x.1 ≤ length u
Passes Begun u (Err l) = l ≤ length u

-- The reading came to where Rest holds of the bytes before u.
abbrev pub Reaches : {A : Type 0} → (A → List ℕ → Type 0) → List ℕ → Read A → Type 0
Reaches {A} K u r = (x : A) × (q : List ℕ) × K x q × (r ≡ Ok (x, q ++ u))

abbrev pub Outcome : {A : Type 0} → Mode → (A → List ℕ → Type 0) → List ℕ → Read A → Type 0
Outcome m K u r = Reaches K u r ⊎ Passes m u r

-- What may follow isn't what may go on with the rule.
abbrev pub Free : {A : Type 0} → (ℕ → Bool) → (A → List ℕ → Type 0) → Type 0
Free {A} more K = (x : A) (t : ℕ) (ts : List ℕ) → K x (t ∷ ts) → more t ≡ false

abbrev pub Fits : Mode → List ℕ → Type 0
Fits Whole u = u ≡ []
Fits Begun u = Unit {0}

abbrev pub Finds : {A : Type 0} → (ℕ → Bool) → Lang A → Type 1
Finds {A} more one = (m : Mode) (K : A → List ℕ → Type 0) → Free more K → (p u : List ℕ) → Fits m u → one.followed m K p → Outcome m K u (one.read (p ++ u))

passes_then : {A B : Type 0} (m : Mode) (u : List ℕ) (r : Read A) (g : A × List ℕ → Read B)
    → ((x : A × List ℕ) → length x.1 ≤ length u → Passes Begun u (g x)) → Passes m u r → Passes m u (r >>= g)
passes_then Whole u r g h p = absurd p
passes_then Begun u (Ok x) g h p = h x p
passes_then Begun u (Err l) g h p = p

beyond_at : {A : Type 0} (two : Lang A) (ts u : List ℕ) (r : Read A) → length ts ≤ length u → Told two ts r → Passes Begun u r
beyond_at two ts u (Ok x) le t = omega (arith, ap length t.1, length-append t.0 x.1)
beyond_at two ts u (Err l) le t = omega (arith, ap length t.2, length-append t.0 t.1, t.3)

pub beyond : {A : Type 0} (two : Lang A) → Tells two → (ts u : List ℕ) → length ts ≤ length u → Passes Begun u (two.read ts)
beyond two t ts u le = beyond_at two ts u (two.read ts) le (t ts)

pub cut : {A : Type 0} (m : Mode) (K : A → List ℕ → Type 0) (two : Lang A) → Tells two → (u : List ℕ) → Cut m → Outcome m K u (two.read u)
cut Whole K two t u h = absurd h
cut Begun K two t u h = inr (beyond two t u u (omega arith))

pub finds_byte : (p : ℕ → Bool) → Finds (λ b. false) (byte_in p)
finds_byte p m K free [] u fits h = cut m K (byte_in p) (tells_byte p) u h
finds_byte p m K free (t ∷ ts) u fits h = inl (t, ts, h.1, rw h.0 refl)

value_outcome : {A B : Type 0} (m : Mode) (K : B → List ℕ → Type 0) (u : List ℕ) (g : A → B) (r : Read A) → Outcome m (λ a. K (g a)) u r
    → Outcome m K u (r >>= λ x. Ok (g x.0, x.1))
value_outcome m K u g r (inl h) = inl (g h.0, h.1, h.2, rw h.3 refl)
value_outcome m K u g r (inr h) = inr (passes_then m u r (λ x. Ok (g x.0, x.1)) (λ x le. le) h)

pub finds_value : {A B : Type 0} (more : ℕ → Bool) (g : A → B) (one : Lang A) → Finds more one → Finds more (as_value g one)
finds_value more g one f m K free p u fits h = value_outcome m K u g (one.read (p ++ u)) (f m (λ a. K (g a)) (λ x. free (g x)) p u fits h)

-- what comes second, and then the rest
module _ {A B : Type 0} (more1 more2 S2 : ℕ → Bool) (one : Lang A) (two : A → Lang B) where
  free_second : (m : Mode) (K : B → List ℕ → Type 0) → ((x : A) → Opens S2 (two x)) → ((b : ℕ) → S2 b ≡ true → more1 b ≡ false)
      → Free more1 (λ x. (two x).followed m K)
  free_second m K opens apart x t ts h = apart t (opens x m K (t ∷ ts) h)

  pub finds_then : Finds more1 one → ((x : A) → Opens S2 (two x)) → ((x : A) → Tells (two x)) → ((x : A) → Finds more2 (two x))
      → ((b : ℕ) → S2 b ≡ true → more1 b ≡ false) → Finds more2 (one then two)
  finds_then f opens tells g apart m K free p u fits h = elim (f m (λ x. (two x).followed m K) (free_second m K opens apart) p u fits h) [
    | inl r ↦ rw r.3 (g r.0 m K free r.1 u fits r.2)
    | inr s ↦ inr (passes_then m u (one.read (p ++ u)) (λ x. (two x.0).read x.1) (λ x short. beyond (two x.0) (tells x.0) x.1 u short) s)
  ]

pub pick_true : {A : Type 0} (P : A → Type 0) (v : Bool) (x y : A) → v ≡ true → P x → P (cond v x y)
pick_true P true x y e h = h
pick_true P false x y e h = absurd (cc)

pub pick_false : {A : Type 0} (P : A → Type 0) (v : Bool) (x y : A) → v ≡ false → P y → P (cond v x y)
pick_false P true x y e h = absurd (cc)
pick_false P false x y e h = h

pub finds_choice : {A : Type 0} (p S more : ℕ → Bool) (one two : Lang A) → Opens p one → Opens S two → ((b : ℕ) → S b ≡ true → p b ≡ false)
    → Tells (choice p one two) → Finds more one → Finds more two → Finds more (choice p one two)
finds_choice p S more one two o1 o2 apart t f1 f2 m K free [] u fits (inl h) = cut m K (choice p one two) t u (o1 m K [] h)
finds_choice p S more one two o1 o2 apart t f1 f2 m K free [] u fits (inr h) = cut m K (choice p one two) t u (o2 m K [] h)
finds_choice p S more one two o1 o2 apart t f1 f2 m K free (b ∷ bs) u fits (inl h) =
    pick_true (Outcome m K u) (p b) (one.read (b ∷ bs ++ u)) (two.read (b ∷ bs ++ u)) (o1 m K (b ∷ bs) h) (f1 m K free (b ∷ bs) u fits h)
finds_choice p S more one two o1 o2 apart t f1 f2 m K free (b ∷ bs) u fits (inr h) =
    pick_false (Outcome m K u) (p b) (one.read (b ∷ bs ++ u)) (two.read (b ∷ bs ++ u)) (apart b (o2 m K (b ∷ bs) h)) (f2 m K free (b ∷ bs) u fits h)

pub finds_wider : {A : Type 0} (more wide : ℕ → Bool) (one : Lang A) → ((b : ℕ) → wide b ≡ false → more b ≡ false) → Finds more one → Finds wide one
finds_wider more wide one w f m K free p u fits h = f m K (λ x t ts k. w t (free x t ts k)) p u fits h

-- a list: what the reader that may take b goes over, where the bytes are no more
module _ {A : Type 0} (c : ℕ) (S more : ℕ → Bool) (one : Lang A) (tells : Tells one) (opens : Opens S one) (finds : Finds more one)
    (apart : (b : ℕ) → S b ≡ true → (b == c) ≡ false) (ends : (b : ℕ) → (b == c) ≡ true → more b ≡ false)
    (next : (b : ℕ) → S b ≡ true → more b ≡ false) where
  -- one takes a byte
  takes : (ts : List ℕ) (x : A) (rest : List ℕ) → one.read ts ≡ Ok (x, rest) → suc (length rest) ≤ length ts
  takes ts x rest e = of (subst (λ (r : Read A). Told one ts r) e (tells ts))
    where
      some : (f : List ℕ) → one.followed Whole (λ x q. Unit {0}) (f ++ []) → 1 ≤ length f
      some [] h = absurd (opens Whole (λ x q. Unit {0}) [] h)
      some (b ∷ bs) h = omega arith

      of : Told one ts (Ok (x, rest)) → suc (length rest) ≤ length ts
      of t = let k : 1 ≤ length t.0 = some t.0 (t.2 Whole (λ x q. Unit {0}) [] tt) in omega (arith, ap length t.1, length-append t.0 rest, k)

  opens_rest : (n : ℕ) → Opens (λ b. cond (b == c) true (S b)) (until c n one)
  unfolding until
  opens_rest zero m K [] h = h
  opens_rest zero m K (b ∷ bs) h = rw h.0 refl
  opens_rest (suc n) m K [] (inl h) = h
  opens_rest (suc n) m K (b ∷ bs) (inl h) = rw h.0 refl
  opens_rest (suc n) m K [] (inr h) = opens m (λ x. (as_value (λ xs. x ∷ xs) (until c n one)).followed m K) [] h
  opens_rest (suc n) m K (b ∷ bs) (inr h) = let s : S b ≡ true = opens m (λ x. (as_value (λ xs. x ∷ xs) (until c n one)).followed m K) (b ∷ bs) h in
      rw (apart b s) s

  free_next : (n : ℕ) (m : Mode) (K : List A → List ℕ → Type 0) → Free more (λ x. (as_value (λ xs. x ∷ xs) (until c n one)).followed m K)
  free_next n m K x t ts h = of (t == c) refl (opens_rest n m (λ xs. K (x ∷ xs)) (t ∷ ts) h)
    where
      of : (v : Bool) → (t == c) ≡ v → cond v true (S t) ≡ true → more t ≡ false
      of true e o = ends t e
      of false e o = next t o

  closes : (b t : ℕ) (r : List ℕ) → (t == c) ≡ true → (until c b one).read (t ∷ r) ≡ Ok ([], r)
  unfolding until
  closes zero t r e = rw e refl
  closes (suc b) t r e = rw e refl

  goes : (b t : ℕ) (r : List ℕ) → (t == c) ≡ false
      → (until c (suc b) one).read (t ∷ r) ≡ (one then λ x. as_value (λ xs. x ∷ xs) (until c b one)).read (t ∷ r)
  unfolding until
  goes b t r e = rw e refl

  finds_until : (n b : ℕ) (m : Mode) (K : List A → List ℕ → Type 0) (p u : List ℕ) → length (p ++ u) ≤ b → Fits m u → (until c n one).followed m K p
      → Outcome m K u ((until c b one).read (p ++ u))
  unfolding until
  finds_until zero b m K [] u le fits h = cut m K (until c b one) (tells_until c b one tells) u h
  finds_until zero b m K (t ∷ ts) u le fits h = inl ([], ts, h.1, closes b t (ts ++ u) h.0)
  finds_until (suc n) b m K [] u le fits (inl h) = cut m K (until c b one) (tells_until c b one tells) u h
  finds_until (suc n) b m K (t ∷ ts) u le fits (inl h) = inl ([], ts, h.1, closes b t (ts ++ u) h.0)
  finds_until (suc n) b m K [] u le fits (inr h) =
      cut m K (until c b one) (tells_until c b one tells) u (opens m (λ x. (as_value (λ xs. x ∷ xs) (until c n one)).followed m K) [] h)
  finds_until (suc n) zero m K (t ∷ ts) u le fits (inr h) = absurd (omega (arith, le))
  finds_until (suc n) (suc b) m K (t ∷ ts) u le fits (inr h) =
      let first : S t ≡ true = opens m (λ x. (as_value (λ xs. x ∷ xs) (until c n one)).followed m K) (t ∷ ts) h in
      rw (goes b t (ts ++ u) (apart t first))
      (elim (finds m (λ x. (as_value (λ xs. x ∷ xs) (until c n one)).followed m K) (free_next n m K) (t ∷ ts) u fits h) [
        | inl r ↦ rw r.3 (value_outcome m K u (λ xs. r.0 ∷ xs) ((until c b one).read (r.1 ++ u))
            (finds_until n b m (λ xs. K (r.0 ∷ xs)) r.1 u (omega (arith, le, takes (t ∷ ts ++ u) r.0 (r.1 ++ u) r.3)) fits r.2))
        | inr s ↦ inr (passes_then m u (one.read (t ∷ ts ++ u)) (λ x. (as_value (λ xs. x.0 ∷ xs) (until c b one)).read x.1)
            (λ x short. beyond (as_value (λ xs. x.0 ∷ xs) (until c b one)) (tells_rest x.0) x.1 u short) s)
      ])
    where
      tells_rest : (x : A) → Tells (as_value (λ xs. x ∷ xs) (until c b one))
      tells_rest x = tells_value (λ xs. x ∷ xs) (until c b one) (tells_until c b one tells)

  pub opens_many : Opens (λ b. cond (b == c) true (S b)) (many c one)
  opens_many m K p h = opens_rest h.0 m K p h.1

  pub finds_many : Finds (λ b. false) (many c one)
  finds_many m K free p u fits h = finds_until h.0 (length (p ++ u)) m K p u (omega arith) fits h.1

-- what the scanner of words owes to the words
pub record FindsWords {A : Type 0} (more : ℕ → Bool) (w : Words A) : Type 0 where
  -- a word before nothing, or before a byte that doesn't go on
  pub at_end : (x : A) → w.In x → w.scan (w.spelled x) ≡ Ok (x, [])
  pub before : (x : A) (b : ℕ) (bs : List ℕ) → w.In x → more b ≡ false → w.scan (w.spelled x ++ b ∷ bs) ≡ Ok (x, b ∷ bs)
  -- a front of a word
  pub front : (x : A) (p rest u : List ℕ) → w.In x → w.spelled x ≡ p ++ rest → Passes Begun u (w.scan (p ++ u))

module _ {A : Type 0} (more : ℕ → Bool) (w : Words A) (f : FindsWords more w) where
  whole : (m : Mode) (K : A → List ℕ → Type 0) → Free more K → (u : List ℕ) → Fits m u → (x : A) (rest : List ℕ) → w.In x → K x rest
      → Outcome m K u (w.scan ((w.spelled x ++ rest) ++ u))
  whole Whole K free u fits x [] h k = inl (x, [], k, rw (fits, append-nil (w.spelled x), append-nil (w.spelled x)) (f.at_end x h))
  whole Begun K free u fits x [] h k = inr
      (subst (λ (l : List ℕ). Passes Begun u (w.scan (l ++ u))) (sym (append-nil (w.spelled x)))
      (f.front x (w.spelled x) [] u h (sym (append-nil (w.spelled x)))))
  whole m K free u fits x (b ∷ bs) h k =
      inl (
        x,
        b ∷ bs,
        k,
        subst (λ (l : List ℕ). w.scan l ≡ Ok (x, b ∷ bs ++ u)) (sym (append_assoc (w.spelled x) (b ∷ bs) u))
            (f.before x b (bs ++ u) h (free x b bs k)),
      )

  part : (m : Mode) (K : A → List ℕ → Type 0) (p u : List ℕ) → Cut m → (x : A) (rest : List ℕ) → w.In x → w.spelled x ≡ p ++ rest
      → Outcome m K u (w.scan (p ++ u))
  part Whole K p u h x rest i e = absurd h
  part Begun K p u h x rest i e = inr (f.front x p rest u i e)

  pub finds_words : Finds more (words w)
  finds_words m K free p u fits (inl h) = subst (λ (l : List ℕ). Outcome m K u (w.scan (l ++ u))) (sym h.3) (whole m K free u fits h.0 h.1 h.2 h.4)
  finds_words m K free p u fits (inr h) = part m K p u h.0 h.1.0 h.1.1 h.1.2 h.1.3
