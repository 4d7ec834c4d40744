-- The text of a value is spelled by a rule, whatever follows: put together as the rule is.
use Rattle.std.proofs.Common.{◌≡◌, ℕ, zero, suc, List, [], ◌∷◌, ◌++◌, Bool, true, ◌==◌, inl, inr, refl, sym, subst, append_assoc, arith}
use Rattle.std.proofs.lemmas.Bool.Decides.{nat_tests}
use Rattle.byte_rules.specs.Lang.{Lang, Mode, as_value, ◌then◌, ◌▸◌, choice, closed, until, many, listed, rest_of, exactly, Words, words}
use Rattle.byte_rules.specs.Among.{IsAmong, among_words, among}

-- the rule has this text for this value
abbrev pub Shown : {A : Type 0} → Lang A → A → List ℕ → Type 1
Shown {A} one x w = (m : Mode) (K : A → List ℕ → Type 0) (q : List ℕ) → K x q → one.followed m K (w ++ q)

pub same_byte : (b : ℕ) → (b == b) ≡ true
same_byte b = grind (arith, nat_tests)

pub shown_closed : {A : Type 0} (c : ℕ) (x : A) → Shown (closed c x) x (c ∷ [])
shown_closed c x m K q k = (same_byte c, k)

pub shown_value : {A B : Type 0} (f : A → B) (one : Lang A) (x : A) (w : List ℕ) → Shown one x w → Shown (as_value f one) (f x) w
shown_value f one x w s m K q k = s m (λ a. K (f a)) q k

pub shown_then : {A B : Type 0} (one : Lang A) (two : A → Lang B) (x : A) (y : B) (w v : List ℕ) → Shown one x w → Shown (two x) y v
    → Shown (one then two) y (w ++ v)
shown_then one two x y w v s t m K q k =
    subst (λ (l : List ℕ). one.followed m (λ a. (two a).followed m K) l) (sym (append_assoc w v q)) (s m (λ a. (two a).followed m K) (v ++ q) (t m K q k))

pub shown_before : {A : Type 0} (c : ℕ) (one : Lang A) (x : A) (w : List ℕ) → Shown one x w → Shown (c ▸ one) x (c ∷ w)
shown_before c one x w s m K q k = (same_byte c, s m K q k)

pub shown_first : {A : Type 0} (p : ℕ → Bool) (one two : Lang A) (x : A) (w : List ℕ) → Shown one x w → Shown (choice p one two) x w
shown_first p one two x w s m K q k = inl (s m K q k)

pub shown_second : {A : Type 0} (p : ℕ → Bool) (one two : Lang A) (x : A) (w : List ℕ) → Shown two x w → Shown (choice p one two) x w
shown_second p one two x w s m K q k = inr (s m K q k)

pub shown_words : {A : Type 0} (w : Words A) (x : A) → w.In x → Shown (words w) x (w.spelled x)
shown_words w x i m K q k = inl (x, q, i, refl, k)

pub shown_among : {A : Type 0} (other : A) (spelled : A → List ℕ) (xs : List A) (x : A) → IsAmong x xs → Shown (among other spelled xs) x (spelled x)
shown_among other spelled [] x i = absurd i
shown_among other spelled (y ∷ ys) x i = shown_words (among_words spelled (y ∷ ys)) x i

-- one behind the other, and the byte that ends them
module _ {A : Type 0} (c : ℕ) (one : Lang A) where
  pub shown_none : (n : ℕ) → Shown (until c n one) [] (c ∷ [])
  unfolding until
  shown_none zero = shown_closed c []
  shown_none (suc n) = shown_first (λ b. b == c) (closed c []) (one then λ x. as_value (λ xs. x ∷ xs) (until c n one)) [] (c ∷ []) (shown_closed c [])

  pub shown_more : (n : ℕ) (x : A) (xs : List A) (w v : List ℕ) → Shown one x w → Shown (until c n one) xs v → Shown (until c (suc n) one) (x ∷ xs) (w ++ v)
  unfolding until
  shown_more n x xs w v s t =
      shown_second (λ b. b == c) (closed c []) (one then λ x. as_value (λ xs. x ∷ xs) (until c n one)) (x ∷ xs) (w ++ v)
      (shown_then one (λ x. as_value (λ xs. x ∷ xs) (until c n one)) x (x ∷ xs) w v s (shown_value (λ xs. x ∷ xs) (until c n one) xs v t))

  pub shown_many : (n : ℕ) (xs : List A) (w : List ℕ) → Shown (until c n one) xs w → Shown (many c one) xs w
  shown_many n xs w s m K q k = (n, s m K q k)

  -- with commas between
  pub shown_no_list : Shown (listed c one) [] (c ∷ [])
  shown_no_list = shown_first (λ b. b == c) (closed c []) (one then λ x. as_value (λ xs. x ∷ xs) (many c (44 ▸ one))) [] (c ∷ []) (shown_closed c [])

  pub shown_listed : (x : A) (xs : List A) (w v : List ℕ) → Shown one x w → Shown (many c (44 ▸ one)) xs v → Shown (listed c one) (x ∷ xs) (w ++ v)
  shown_listed x xs w v s t =
      shown_second (λ b. b == c) (closed c []) (one then λ x. as_value (λ xs. x ∷ xs) (many c (44 ▸ one))) (x ∷ xs) (w ++ v)
      (shown_then one (λ x. as_value (λ xs. x ∷ xs) (many c (44 ▸ one))) x (x ∷ xs) w v s (shown_value (λ xs. x ∷ xs) (many c (44 ▸ one)) xs v t))

  -- exactly so many
  pub shown_no_rest : Shown (rest_of c zero one) [] (c ∷ [])
  unfolding rest_of
  shown_no_rest = shown_closed c []

  pub shown_rest : (n : ℕ) (x : A) (xs : List A) (w v : List ℕ) → Shown one x w → Shown (rest_of c n one) xs v
      → Shown (rest_of c (suc n) one) (x ∷ xs) (44 ∷ (w ++ v))
  unfolding rest_of
  shown_rest n x xs w v s t =
      shown_before 44 (one then λ x. as_value (λ xs. x ∷ xs) (rest_of c n one)) (x ∷ xs) (w ++ v)
      (shown_then one (λ x. as_value (λ xs. x ∷ xs) (rest_of c n one)) x (x ∷ xs) w v s (shown_value (λ xs. x ∷ xs) (rest_of c n one) xs v t))

  pub shown_none_exactly : Shown (exactly c zero one) [] (c ∷ [])
  unfolding exactly
  shown_none_exactly = shown_closed c []

  pub shown_exactly : (n : ℕ) (x : A) (xs : List A) (w v : List ℕ) → Shown one x w → Shown (rest_of c n one) xs v
      → Shown (exactly c (suc n) one) (x ∷ xs) (w ++ v)
  unfolding exactly
  shown_exactly n x xs w v s t =
      shown_then one (λ x. as_value (λ xs. x ∷ xs) (rest_of c n one)) x (x ∷ xs) w v s (shown_value (λ xs. x ∷ xs) (rest_of c n one) xs v t)
