-- The laws of a rule in one bundle, and how bundles are put together as the rules are.
use Rattle.std.proofs.Common.{◌≡◌, ℕ, zero, suc, List, [], ◌∷◌, ◌++◌, Bool, true, false, cond, ◌==◌, ◌⊎◌, inl, inr, refl, sym, ap, ◌∙◌}
use Rattle.std.proofs.Common.{subst, append_assoc}
use Rattle.std.proofs.lemmas.Bool.{eqb-true}
use Rattle.byte_rules.specs.Lang.{Lang, Mode, Begun, Cut, byte_in, as_value, ◌then◌, ◌▸◌, choice, never, closed, until, many}
use Rattle.byte_rules.specs.Lang.{listed, rest_of, exactly, Words, words}
use Rattle.byte_rules.proofs.Tells.{Tells, Scanned, tells_byte, tells_value, tells_then, tells_choice, tells_many, tells_words}
use Rattle.byte_rules.proofs.Finds.{Open, Opens, Finds, FindsWords, finds_byte, finds_value, finds_then, finds_choice, finds_wider, opens_many, finds_many}
use Rattle.byte_rules.proofs.Finds.{finds_words}

-- A front of what is followed is a beginning.
abbrev pub Shortens : {A : Type 0} → Lang A → Type 1
Shortens {A} one = (m : Mode) (K L : A → List ℕ → Type 0) → ((x : A) (q u : List ℕ) → K x (q ++ u) → L x q) → (p u : List ℕ) → one.followed m K (p ++ u)
    → one.followed Begun L p

-- no byte is of both
abbrev pub Apart : (ℕ → Bool) → (ℕ → Bool) → Type 0
Apart S p = (b : ℕ) → S b ≡ true → p b ≡ false

abbrev pub nothing : ℕ → Bool
nothing b = false

-- S: what it begins with, at least; more: what may go on with it behind its end, at least.
pub record Good {A : Type 0} (S more : ℕ → Bool) (one : Lang A) : Type 1 where
  pub tells : Tells one
  pub opens : Opens S one
  pub finds : Finds more one
  pub shortens : Shortens one

opens_byte : (p : ℕ → Bool) → Opens p (byte_in p)
opens_byte p m K [] h = h
opens_byte p m K (b ∷ bs) h = h.0

shortens_byte : (p : ℕ → Bool) → Shortens (byte_in p)
shortens_byte p m K L c [] u h = tt
shortens_byte p m K L c (b ∷ bs) u h = (h.0, c b bs u h.1)

pub good_byte : (p : ℕ → Bool) → Good p nothing (byte_in p)
good_byte p = record { tells = tells_byte p; opens = opens_byte p; finds = finds_byte p; shortens = shortens_byte p }

pub good_value : {A B : Type 0} {S more : ℕ → Bool} {one : Lang A} (g : A → B) → Good S more one → Good S more (as_value g one)
good_value {A} {B} {S} {more} {one} g o = record {
  tells = tells_value g one o.tells;
  opens = λ m K p h. o.opens m (λ a. K (g a)) p h;
  finds = finds_value more g one o.finds;
  shortens = λ m K L c p u h. o.shortens m (λ a. K (g a)) (λ a. L (g a)) (λ x q v k. c (g x) q v k) p u h;
}

pub good_closed : {A : Type 0} (c : ℕ) (x : A) → Good (λ b. b == c) nothing (closed c x)
good_closed c x = good_value (λ b. x) (good_byte (λ b. b == c))

pub good_never : {A : Type 0} (x : A) → Good nothing nothing (never x)
good_never x = good_value (λ b. x) (good_byte nothing)

pub good_then : {A B : Type 0} {S more1 S2 more2 : ℕ → Bool} {one : Lang A} (two : A → Lang B) → Good S more1 one → ((x : A) → Good S2 more2 (two x))
    → Apart S2 more1 → Good S more2 (one then two)
good_then {A} {B} {S} {more1} {S2} {more2} {one} two o s apart = record {
  tells = tells_then one two o.tells (λ x. (s x).tells);
  opens = λ m K p h. o.opens m (λ x. (two x).followed m K) p h;
  finds = finds_then more1 more2 S2 one two o.finds (λ x. (s x).opens) (λ x. (s x).tells) (λ x. (s x).finds) apart;
  shortens = λ m K L c p u h. o.shortens m (λ x. (two x).followed m K) (λ x. (two x).followed Begun L) (λ x q v k. (s x).shortens m K L c q v k) p u h;
}

pub good_wider : {A : Type 0} {S more : ℕ → Bool} {one : Lang A} (S2 more2 : ℕ → Bool) → Good S more one → ((b : ℕ) → S b ≡ true → S2 b ≡ true)
    → ((b : ℕ) → more2 b ≡ false → more b ≡ false) → Good S2 more2 one
good_wider {A} {S} {more} {one} S2 more2 o s w = record {
  tells = o.tells;
  opens = λ m K p h. of m p (o.opens m K p h);
  finds = finds_wider more more2 one w o.finds;
  shortens = o.shortens;
}
  where
    of : (m : Mode) (p : List ℕ) → Open S m p → Open S2 m p
    of m [] h = h
    of m (b ∷ bs) h = s b h

pub good_before : {A : Type 0} {S more : ℕ → Bool} {one : Lang A} (c : ℕ) → Good S more one → Good (λ b. b == c) more (c ▸ one)
good_before {A} {S} {more} {one} c o = good_then (λ b. one) (good_byte (λ b. b == c)) (λ b. o) (λ b e. refl)

-- what one or the other begins with
abbrev pub with_starts : (ℕ → Bool) → (ℕ → Bool) → ℕ → Bool
with_starts p S b = cond (p b) true (S b)

pub good_choice : {A : Type 0} {p S more : ℕ → Bool} {one two : Lang A} → Good p more one → Good S more two → Apart S p
    → Good (with_starts p S) more (choice p one two)
good_choice {A} {p} {S} {more} {one} {two} o t apart = record {
  tells = tells_choice p one two o.tells t.tells;
  opens = λ m K q h. of m q (elim h as (λ h. Open p m q ⊎ Open S m q) [ inl a ↦ inl (o.opens m K q a) | inr b ↦ inr (t.opens m K q b) ]);
  finds = finds_choice p S more one two o.opens t.opens apart (tells_choice p one two o.tells t.tells) o.finds t.finds;
  shortens = λ m K L c q u h. elim h as
      (λ h. one.followed Begun L q ⊎ two.followed Begun L q) [ inl a ↦ inl (o.shortens m K L c q u a) | inr b ↦ inr (t.shortens m K L c q u b) ];
}
  where
    of : (m : Mode) (q : List ℕ) → Open p m q ⊎ Open S m q → Open (with_starts p S) m q
    of m [] (inl h) = h
    of m [] (inr h) = h
    of m (b ∷ bs) (inl h) = rw h refl
    of m (b ∷ bs) (inr h) = rw (apart b h) h

-- however many, up to the byte that ends them
module _ {A : Type 0} (c : ℕ) {S more : ℕ → Bool} {one : Lang A} (o : Good S more one) where
  shortens_until : (n : ℕ) → Shortens (until c n one)
  unfolding until
  shortens_until zero m K L d p u h = (good_closed c []).shortens m K L d p u h
  shortens_until (suc n) m K L d p u (inl h) = inl ((good_closed c []).shortens m K L d p u h)
  shortens_until (suc n) m K L d p u (inr h) =
      inr (o.shortens m (λ x. (until c n one).followed m (λ xs. K (x ∷ xs))) (λ x. (until c n one).followed Begun (λ xs. L (x ∷ xs)))
      (λ x q v k. shortens_until n m (λ xs. K (x ∷ xs)) (λ xs. L (x ∷ xs)) (λ xs r w e. d (x ∷ xs) r w e) q v k) p u h)

  pub good_many : Apart S (λ b. b == c) → ((b : ℕ) → (b == c) ≡ true → more b ≡ false) → Apart S more
      → Good (with_starts (λ b. b == c) S) nothing (many c one)
  good_many apart ends next = record {
    tells = tells_many c one o.tells;
    opens = opens_many c S more one o.tells o.opens o.finds apart ends next;
    finds = finds_many c S more one o.tells o.opens o.finds apart ends next;
    shortens = λ m K L d p u h. (h.0, shortens_until h.0 m K L d p u h.1);
  }

-- a list with commas: none of its bytes but the commas and the end may go on with an element
pub good_listed : {A : Type 0} (c : ℕ) {S more : ℕ → Bool} {one : Lang A} → Good S more one → Apart S (λ b. b == c)
    → ((b : ℕ) → (b == c) ≡ true → more b ≡ false) → more 44 ≡ false → (c == 44) ≡ false → Good (with_starts (λ b. b == c) S) nothing (listed c one)
good_listed {A} c {S} {more} {one} o apart ends comma other =
    good_choice (good_closed c [])
    (good_then (λ x. as_value (λ xs. x ∷ xs) (many c (44 ▸ one))) o
    (λ x. good_value (λ xs. x ∷ xs) (good_many c (good_before 44 o) ends_here ends comma_here)) follow) apart
  where
    same : (b : ℕ) → (b == 44) ≡ true → b ≡ 44
    same b e = eqb-true b 44 e

    ends_here : Apart (λ b. b == 44) (λ b. b == c)
    ends_here b e = of (b == c) refl
      where
        of : (v : Bool) → (b == c) ≡ v → v ≡ false
        of true f = let one : b ≡ c = eqb-true b c f in let there : (c == 44) ≡ true = subst (λ (k : ℕ). (k == 44) ≡ true) one e in absurd (cc)
        of false f = refl

    comma_here : Apart (λ b. b == 44) more
    comma_here b e = subst (λ (k : ℕ). more k ≡ false) (sym (same b e)) comma

    follow : Apart (with_starts (λ b. b == c) (λ b. b == 44)) more
    follow b e = of (b == c) refl e
      where
        of : (v : Bool) → (b == c) ≡ v → cond v true (b == 44) ≡ true → more b ≡ false
        of true f e = ends b f
        of false f e = comma_here b e

abbrev head_or : List ℕ → ℕ → ℕ
head_or [] d = d
head_or (b ∷ bs) d = b

abbrev tail : List ℕ → List ℕ
tail [] = []
tail (b ∷ bs) = bs

-- words: a front of bytes that split
fronts : (p u w rest : List ℕ) → p ++ u ≡ w ++ rest → ((q : List ℕ) × (p ≡ w ++ q) × (rest ≡ q ++ u)) ⊎ ((more : List ℕ) × (w ≡ p ++ more))
fronts p u [] rest e = inl (p, refl, sym e)
fronts [] u (b ∷ bs) rest e = inr (b ∷ bs, refl)
fronts (a ∷ p) u (b ∷ bs) rest e = elim (fronts p u bs rest (ap tail e)) [
  | inl h ↦ inl (h.0, subst (λ (c : ℕ). a ∷ p ≡ c ∷ bs ++ h.0) (ap (λ l. head_or l 0) e) (ap (λ l. a ∷ l) h.1), h.2)
  | inr h ↦ inr (h.0, subst (λ (c : ℕ). c ∷ bs ≡ a ∷ p ++ h.0) (ap (λ l. head_or l 0) e) (ap (λ l. a ∷ l) h.1))
]

pub good_words : {A : Type 0} {more : ℕ → Bool} (S : ℕ → Bool) (w : Words A) → ((ts : List ℕ) → Scanned w ts (w.scan ts)) → FindsWords more w
    → ((x : A) → w.In x → (b : ℕ) × (bs : List ℕ) × (w.spelled x ≡ b ∷ bs) × (S b ≡ true)) → Good S more (words w)
good_words {A} {more} S w s f first = record {
  tells = tells_words w s;
  opens = opens;
  finds = finds_words more w f;
  shortens = shortens;
}
  where
    head : (m : Mode) (p : List ℕ) (b : ℕ) (bs more : List ℕ) → b ∷ bs ≡ p ++ more → S b ≡ true → Cut m → Open S m p
    head m [] b bs more e h c = c
    head m (a ∷ p) b bs more e h c = subst (λ (k : ℕ). S k ≡ true) (ap (λ l. head_or l 0) e) h

    opens : Opens S (words w)
    opens m K p (inl h) =
        let k = first h.0 h.2 in
        subst (λ (l : List ℕ). Open S m l) (sym (h.3 ∙ ap (λ l. l ++ h.1) k.2)) k.3
    opens m K p (inr h) = let k = first h.1.0 h.1.2 in head m p k.0 k.1 h.1.1 (sym k.2 ∙ h.1.3) k.3 h.0

    shortens : Shortens (words w)
    shortens m K L c p u (inl h) = elim (fronts p u (w.spelled h.0) h.1 h.3) [
      | inl k ↦ inl (h.0, k.0, h.2, k.1, c h.0 k.0 u (subst (λ (l : List ℕ). K h.0 l) k.2 h.4))
      | inr k ↦ inr (tt, (h.0, k.0, h.2, k.1))
    ]
    shortens m K L c p u (inr h) = inr (tt, (h.1.0, u ++ h.1.1, h.1.2, h.1.3 ∙ append_assoc p u h.1.1))

-- exactly so many, up to the byte that ends them
module _ {A : Type 0} (c : ℕ) {S more : ℕ → Bool} {one : Lang A} (o : Good S more one) (comma : more 44 ≡ false)
    (ends : (b : ℕ) → (b == c) ≡ true → more b ≡ false) where
  -- a comma or the end
  abbrev pub between : ℕ → Bool
  between b = cond (b == 44) true (b == c)

  follow : Apart between more
  follow b e = of (b == 44) refl e
    where
      of : (v : Bool) → (b == 44) ≡ v → cond v true (b == c) ≡ true → more b ≡ false
      of true f e = subst (λ (k : ℕ). more k ≡ false) (sym (eqb-true b 44 f)) comma
      of false f e = ends b e

  pub good_rest_of : (n : ℕ) → Good between nothing (rest_of c n one)
  unfolding rest_of
  good_rest_of zero = good_wider between nothing (good_closed c []) (λ b e. of (b == 44) (b == c) e) (λ b e. refl)
    where
      of : (v w : Bool) → w ≡ true → cond v true w ≡ true
      of true w e = refl
      of false w e = e
  good_rest_of (suc n) = good_wider between nothing
      (good_before 44 (good_then (λ x. as_value (λ xs. x ∷ xs) (rest_of c n one)) o (λ x. good_value (λ xs. x ∷ xs) (good_rest_of n)) follow))
      (λ b e. rw e refl) (λ b e. refl)

  pub good_exactly : (n : ℕ) → Good (with_starts (λ b. b == c) S) nothing (exactly c n one)
  unfolding exactly
  good_exactly zero = good_wider (with_starts (λ b. b == c) S) nothing (good_closed c []) (λ b e. rw e refl) (λ b e. refl)
  good_exactly (suc n) = good_wider (with_starts (λ b. b == c) S) nothing
      (good_then (λ x. as_value (λ xs. x ∷ xs) (rest_of c n one)) o (λ x. good_value (λ xs. x ∷ xs) (good_rest_of n)) follow) (λ b e. of (b == c) (S b) e)
      (λ b e. refl)
    where
      of : (v w : Bool) → w ≡ true → cond v true w ≡ true
      of true w e = refl
      of false w e = e
