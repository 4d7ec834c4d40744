-- What reading by a rule says of the bytes before the place where it stopped.
use Rattle.std.proofs.Common.{◌≡◌, ℕ, zero, suc, List, [], ◌∷◌, ◌++◌, length, Ok, Err, Bool, true, false, cond, ◌==◌, inl, inr, refl, sym, ap}
use Rattle.std.proofs.Common.{◌∙◌, subst, append_assoc}
use Rattle.byte_rules.specs.Lang.{Lang, Mode, Begun, Read, ◌>>=◌, front_is, byte_in, byte, as_value, ◌then◌, choice, closed, until}
use Rattle.byte_rules.specs.Lang.{many, Words, words}

-- A value read is spelled, whatever follows; what stands before a fault is a beginning.
abbrev pub Told : {A : Type 0} → Lang A → List ℕ → Read A → Type 1
Told {A} one ts (Ok x) = (f : List ℕ) × (ts ≡ f ++ x.1) × ((m : Mode) (K : A → List ℕ → Type 0) (q : List ℕ) → K x.0 q → one.followed m K (f ++ q))
Told {A} one ts (Err left) = (f u : List ℕ) × (ts ≡ f ++ u) × (length u ≡ left) × ((K : A → List ℕ → Type 0) → one.followed Begun K f)

abbrev pub Tells : {A : Type 0} → Lang A → Type 1
Tells one = (ts : List ℕ) → Told one ts (one.read ts)

told_byte : (p : ℕ → Bool) (t : ℕ) (ts : List ℕ) (b : Bool) → p t ≡ b → Told (byte_in p) (t ∷ ts) (cond b (Ok (t, ts)) (Err (length (t ∷ ts))))
told_byte p t ts true e = (t ∷ [], refl, λ m K q k. (e, k))
told_byte p t ts false e = ([], t ∷ ts, refl, refl, λ K. tt)

pub tells_byte : (p : ℕ → Bool) → Tells (byte_in p)
tells_byte p [] = ([], [], refl, refl, λ K. tt)
tells_byte p (t ∷ ts) = told_byte p t ts (p t) refl

told_value : {A B : Type 0} (g : A → B) (one : Lang A) (ts : List ℕ) (r : Read A) → Told one ts r → Told (as_value g one) ts (r >>= λ x. Ok (g x.0, x.1))
told_value g one ts (Ok x) t = (t.0, t.1, λ m K q k. t.2 m (λ a. K (g a)) q k)
told_value g one ts (Err l) t = (t.0, t.1, t.2, t.3, λ K. t.4 (λ a. K (g a)))

pub tells_value : {A B : Type 0} (g : A → B) (one : Lang A) → Tells one → Tells (as_value g one)
tells_value g one t ts = told_value g one ts (one.read ts) (t ts)

told_second : {A B : Type 0} (one : Lang A) (two : A → Lang B) (ts : List ℕ) (x : A × List ℕ) → Told one ts (Ok x) → (r : Read B) → Told (two x.0) x.1 r
    → Told (one then two) ts r
told_second one two ts x t (Ok y) s = (
  t.0 ++ s.0,
  t.1 ∙ ap (λ l. t.0 ++ l) s.1 ∙ sym (append_assoc t.0 s.0 y.1),
  λ m K q k. subst (λ (l : List ℕ). one.followed m (λ a. (two a).followed m K) l) (sym (append_assoc t.0 s.0 q))
      (t.2 m (λ a. (two a).followed m K) (s.0 ++ q) (s.2 m K q k)),
)
told_second one two ts x t (Err l) s = (
  t.0 ++ s.0,
  s.1,
  t.1 ∙ ap (λ l. t.0 ++ l) s.2 ∙ sym (append_assoc t.0 s.0 s.1),
  s.3,
  λ K. t.2 Begun (λ a. (two a).followed Begun K) s.0 (s.4 K),
)

told_then : {A B : Type 0} (one : Lang A) (two : A → Lang B) → ((x : A) → Tells (two x)) → (ts : List ℕ) (r : Read A) → Told one ts r
    → Told (one then two) ts (r >>= λ x. (two x.0).read x.1)
told_then one two s ts (Ok x) t = told_second one two ts x t ((two x.0).read x.1) (s x.0 x.1)
told_then one two s ts (Err l) t = (t.0, t.1, t.2, t.3, λ K. t.4 (λ a. (two a).followed Begun K))

pub tells_then : {A B : Type 0} (one : Lang A) (two : A → Lang B) → Tells one → ((x : A) → Tells (two x)) → Tells (one then two)
tells_then one two t s ts = told_then one two s ts (one.read ts) (t ts)

told_left : {A : Type 0} (p : ℕ → Bool) (one two : Lang A) (ts : List ℕ) (r : Read A) → Told one ts r → Told (choice p one two) ts r
told_left p one two ts (Ok x) t = (t.0, t.1, λ m K q k. inl (t.2 m K q k))
told_left p one two ts (Err l) t = (t.0, t.1, t.2, t.3, λ K. inl (t.4 K))

told_right : {A : Type 0} (p : ℕ → Bool) (one two : Lang A) (ts : List ℕ) (r : Read A) → Told two ts r → Told (choice p one two) ts r
told_right p one two ts (Ok x) t = (t.0, t.1, λ m K q k. inr (t.2 m K q k))
told_right p one two ts (Err l) t = (t.0, t.1, t.2, t.3, λ K. inr (t.4 K))

told_choice : {A : Type 0} (p : ℕ → Bool) (one two : Lang A) → Tells one → Tells two → (ts : List ℕ) (b : Bool)
    → Told (choice p one two) ts (cond b (one.read ts) (two.read ts))
told_choice p one two t s ts true = told_left p one two ts (one.read ts) (t ts)
told_choice p one two t s ts false = told_right p one two ts (two.read ts) (s ts)

pub tells_choice : {A : Type 0} (p : ℕ → Bool) (one two : Lang A) → Tells one → Tells two → Tells (choice p one two)
tells_choice p one two t s ts = told_choice p one two t s ts (front_is p ts)

pub tells_closed : {A : Type 0} (c : ℕ) (x : A) → Tells (closed c x)
tells_closed c x = tells_value (λ b. x) (byte c) (tells_byte (λ b. b == c))

pub tells_until : {A : Type 0} (c n : ℕ) (one : Lang A) → Tells one → Tells (until c n one)
unfolding until
tells_until c zero one t ts = tells_closed c [] ts
tells_until c (suc n) one t ts =
    tells_choice (λ b. b == c) (closed c []) (one then λ x. as_value (λ xs. x ∷ xs) (until c n one)) (tells_closed c [])
    (tells_then one (λ x. as_value (λ xs. x ∷ xs) (until c n one)) t (λ x. tells_value (λ xs. x ∷ xs) (until c n one) (tells_until c n one t))) ts

told_many : {A : Type 0} (c n : ℕ) (one : Lang A) (ts : List ℕ) (r : Read (List A)) → Told (until c n one) ts r → Told (many c one) ts r
told_many c n one ts (Ok x) t = (t.0, t.1, λ m K q k. (n, t.2 m K q k))
told_many c n one ts (Err l) t = (t.0, t.1, t.2, t.3, λ K. (n, t.4 K))

pub tells_many : {A : Type 0} (c : ℕ) (one : Lang A) → Tells one → Tells (many c one)
tells_many c one t ts = told_many c (length ts) one ts ((until c (length ts) one).read ts) (tells_until c (length ts) one t ts)

-- what the scanner of words owes
abbrev pub Scanned : {A : Type 0} → Words A → List ℕ → Read A → Type 0
Scanned w ts (Ok x) = w.In x.0 × (ts ≡ w.spelled x.0 ++ x.1)
Scanned {A} w ts (Err left) = (f u : List ℕ) × (ts ≡ f ++ u) × (length u ≡ left) × ((x : A) × (more : List ℕ) × w.In x × (w.spelled x ≡ f ++ more))

told_words : {A : Type 0} (w : Words A) (ts : List ℕ) (r : Read A) → Scanned w ts r → Told (words w) ts r
told_words w ts (Ok x) s = (w.spelled x.0, s.1, λ m K q k. inl (x.0, q, s.0, refl, k))
told_words w ts (Err l) s = (s.0, s.1, s.2, s.3, λ K. inr (tt, s.4))

pub tells_words : {A : Type 0} (w : Words A) → ((ts : List ℕ) → Scanned w ts (w.scan ts)) → Tells (words w)
tells_words w s ts = told_words w ts (w.scan ts) (s ts)
