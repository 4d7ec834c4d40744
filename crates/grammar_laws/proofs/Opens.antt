-- What a rule may begin with.
use Rattle.std.proofs.Common.{◌≡◌, ℕ, zero, suc, List, [], ◌∷◌, ◌++◌, Some, None, Bool, true, false, nat_eq, cond, ◌⊎◌, inl, inr, refl}
use Rattle.mojom_ast.specs.declared.token.Token.{Token}
use Rattle.mojom_ast.specs.Classes.{class}
use Rattle.mojom_ast.specs.Lang.{Lang, Mode, Cut, has, tok, ◌▹◌, as_value, ◌or◌, maybe, times, commas, deep}

-- a list begins with one of the classes, or ends where it may
abbrev pub Front : Mode → List ℕ → List Token → Type 0
Front m cs [] = Cut m
Front m cs (t ∷ ts) = has cs (class t) ≡ true

-- A rule that is followed begins with one of its starts, or is nothing.
abbrev pub Opens : {A : Type 0} → Lang A → Type 1
Opens {A} one = (m : Mode) (K : A → List Token → Type 0) (p : List Token) → one.followed m K p → Front m one.starts p ⊎ ((one.null ≡ true) × ((x : A) × K x p))

kept : (v w w' : Bool) → (w ≡ true → w' ≡ true) → cond v true w ≡ true → cond v true w' ≡ true
kept true w w' h e = refl
kept false w w' h e = h e

late : (v w : Bool) → w ≡ true → cond v true w ≡ true
late true w e = refl
late false w e = e

has_left : (a b : List ℕ) (c : ℕ) → has a c ≡ true → has (a ++ b) c ≡ true
has_left [] b c e = absurd (cc)
has_left (x ∷ xs) b c e = kept (nat_eq c x) (has xs c) (has (xs ++ b) c) (has_left xs b c) e

has_right : (a b : List ℕ) (c : ℕ) → has b c ≡ true → has (a ++ b) c ≡ true
has_right [] b c e = e
has_right (x ∷ xs) b c e = late (nat_eq c x) (has (xs ++ b) c) (has_right xs b c e)

-- with more classes behind
pub front_left : (m : Mode) (a b : List ℕ) (p : List Token) → Front m a p → Front m (a ++ b) p
front_left m a b [] h = h
front_left m a b (t ∷ ts) h = has_left a b (class t) h

-- with more classes before
pub front_right : (m : Mode) (a b : List ℕ) (p : List Token) → Front m b p → Front m (a ++ b) p
front_right m a b [] h = h
front_right m a b (t ∷ ts) h = has_right a b (class t) h

-- one token
pub opens_tok : (c : List ℕ) → Opens (tok c)
opens_tok c m K [] h = inl h
opens_tok c m K (t ∷ ts) h = inl h.0

-- the same with another value
pub opens_value : {A B : Type 0} (g : A → B) (one : Lang A) → Opens one → Opens (as_value g one)
opens_value g one o m K p h = elim (o m (λ x. K (g x)) p h) [ inl f ↦ inl f | inr n ↦ inr (n.0, (g n.1.0, n.1.1)) ]

front_seq : (m : Mode) (null : Bool) (a b : List ℕ) (p : List Token) → Front m a p → Front m (cond null (a ++ b) a) p
front_seq m true a b p h = front_left m a b p h
front_seq m false a b p h = h

front_second : (m : Mode) (null : Bool) (a b : List ℕ) (p : List Token) → null ≡ true → Front m b p → Front m (cond null (a ++ b) a) p
front_second m true a b p e h = front_right m a b p h
front_second m false a b p e h = absurd (cc)

both : (v w : Bool) → v ≡ true → w ≡ true → cond v w false ≡ true
both v w e f = rw (e, f) refl

-- one rule after the other
pub opens_seq : {A B : Type 0} (one : Lang A) (two : Lang B) → Opens one → Opens two → Opens (one ▹ two)
opens_seq one two o o2 m K p h = elim (o m (λ x. two.followed m (λ y. K (x, y))) p h) [
  | inl f ↦ inl (front_seq m one.null one.starts two.starts p f)
  | inr n ↦ elim (o2 m (λ y. K (n.1.0, y)) p n.1.1) [
    | inl f ↦ inl (front_second m one.null one.starts two.starts p n.0 f)
    | inr k ↦ inr (both one.null two.null n.0 k.0, ((n.1.0, k.1.0), k.1.1))
  ]
]

either_null : (v w : Bool) → v ≡ true → cond v true w ≡ true
either_null v w e = rw e refl

-- one rule or the other
pub opens_or : {A : Type 0} (one two : Lang A) → Opens one → Opens two → Opens (one or two)
opens_or one two o o2 m K p (inl h) = elim (o m K p h) [
  | inl f ↦ inl (front_left m one.starts two.starts p f)
  | inr n ↦ inr
      (either_null one.null two.null n.0, n.1)
]
opens_or one two o o2 m K p (inr h) = elim (o2 m K p h) [
  | inl f ↦ inl (front_right m one.starts two.starts p f)
  | inr n ↦ inr
      (late one.null two.null n.0, n.1)
]

-- at most one
pub opens_maybe : {A : Type 0} (one : Lang A) → Opens one → Opens (maybe one)
opens_maybe one o m K p (inl h) = elim (o m (λ x. K (Some x)) p h) [ inl f ↦ inl f | inr n ↦ inr (refl, (Some n.1.0, n.1.1)) ]
opens_maybe one o m K p (inr h) = inr (refl, (None, h))

-- at most so many
pub opens_times : {A : Type 0} (n : ℕ) (one : Lang A) → one.null ≡ false → Opens one → (m : Mode) (K : List A → List Token → Type 0) (p : List Token)
    → (times n one).followed m K p → Front m one.starts p ⊎ ((xs : List A) × K xs p)
unfolding times
opens_times zero one e o m K p h = inr ([], h)
opens_times (suc n) one e o m K p (inl h) = elim (o m (λ x. (times n one).followed m (λ xs. K (x ∷ xs))) p h) [ inl f ↦ inl f | inr k ↦ absurd (cc) ]
opens_times (suc n) one e o m K p (inr h) = inr ([], h)

-- at most so many, with commas
pub opens_commas : {A : Type 0} (n : ℕ) (one : Lang A) → one.null ≡ false → Opens one → (m : Mode) (K : List A → List Token → Type 0) (p : List Token)
    → (commas n one).followed m K p → Front m one.starts p ⊎ ((xs : List A) × K xs p)
unfolding commas
opens_commas zero one e o m K p h = inr ([], h)
opens_commas (suc n) one e o m K p (inl h) = elim (o m _ p h) [ inl f ↦ inl f | inr k ↦ absurd (cc) ]
opens_commas (suc n) one e o m K p (inr h) = inr ([], h)

-- a type too deep
pub opens_deep : (A : Type 0) (cs : List ℕ) → Opens {A = A} (deep cs)
opens_deep A cs m K [] h = inl h
opens_deep A cs m K (t ∷ ts) h = inl h.0
