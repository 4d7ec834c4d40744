-- What is followed whole is a text of some value, and then the rest: the texts of a rule, put together as the rule is.
use Rattle.std.proofs.Common.{◌≡◌, ℕ, zero, suc, List, [], ◌∷◌, ◌++◌, Bool, true, false, ◌⊎◌, inl, inr, refl, sym, ap, ◌∙◌, append_assoc}
use Rattle.std.proofs.lemmas.Bool.{eqb-true}
use Rattle.byte_rules.specs.Lang.{Lang, Whole, byte_in, as_value, ◌then◌, ◌▸◌, choice, never, closed, until, many, listed, rest_of, exactly}
use Rattle.byte_rules.specs.Lang.{Words, words}
use Rattle.byte_rules.specs.Among.{IsAmong, among_words, among}

abbrev pub Parts : {A : Type 0} → (A → List ℕ → Type 0) → Lang A → Type 1
Parts {A} R one = (K : A → List ℕ → Type 0) (p : List ℕ) → one.followed Whole K p → (x : A) × (w : List ℕ) × (q : List ℕ) × R x w × (p ≡ w ++ q) × K x q

pub parts_byte : (p : ℕ → Bool) → Parts (λ b w. (p b ≡ true) × (w ≡ b ∷ [])) (byte_in p)
parts_byte p K [] h = absurd h
parts_byte p K (b ∷ bs) h = (b, b ∷ [], bs, (h.0, refl), refl, h.1)

pub parts_value : {A B : Type 0} (R : A → List ℕ → Type 0) (g : A → B) (one : Lang A) → Parts R one
    → Parts (λ y w. (x : A) × R x w × (g x ≡ y)) (as_value g one)
parts_value R g one o K p h = let k = o (λ x. K (g x)) p h in (g k.0, k.1, k.2, (k.0, k.3, refl), k.4, k.5)

pub parts_then : {A B : Type 0} (R : A → List ℕ → Type 0) (Q : A → B → List ℕ → Type 0) (one : Lang A) (two : A → Lang B) → Parts R one
    → ((x : A) → Parts (Q x) (two x)) → Parts (λ y w. (x : A) × (v : List ℕ) × (u : List ℕ) × R x v × Q x y u × (w ≡ v ++ u)) (one then two)
parts_then R Q one two o s K p h =
    let k = o (λ x. (two x).followed Whole K) p h in
    let l = s k.0 K k.2 k.5 in
    (l.0, k.1 ++ l.1, l.2, (k.0, k.1, l.1, k.3, l.3, refl), k.4 ∙ ap (λ (q : List ℕ). k.1 ++ q) l.4 ∙ sym (append_assoc k.1 l.1 l.2), l.5)

pub parts_choice : {A : Type 0} (R Q : A → List ℕ → Type 0) (p : ℕ → Bool) (one two : Lang A) → Parts R one → Parts Q two
    → Parts (λ x w. R x w ⊎ Q x w) (choice p one two)
parts_choice R Q p one two o s K bs (inl h) = let k = o K bs h in (k.0, k.1, k.2, inl k.3, k.4, k.5)
parts_choice R Q p one two o s K bs (inr h) = let k = s K bs h in (k.0, k.1, k.2, inr k.3, k.4, k.5)

pub parts_words : {A : Type 0} (w : Words A) → Parts (λ x v. w.In x × (v ≡ w.spelled x)) (words w)
parts_words w K p (inl h) = (h.0, w.spelled h.0, h.1, (h.2, refl), h.3, h.4)
parts_words w K p (inr h) = absurd h.0

-- the texts of some values, one after the other, and the byte that ends them
abbrev pub AllOf : {A : Type 0} → (A → List ℕ → Type 0) → ℕ → List A → List ℕ → Type 0
AllOf R c [] w = w ≡ c ∷ []
AllOf R c (x ∷ xs) w = (v : List ℕ) × (u : List ℕ) × R x v × AllOf R c xs u × (w ≡ v ++ u)

ended : {A : Type 0} (R : A → List ℕ → Type 0) (c : ℕ) (K : List A → List ℕ → Type 0) (p : List ℕ) → (closed {A = List A} c []).followed Whole K p
    → (xs : List A) × (w : List ℕ) × (q : List ℕ) × AllOf R c xs w × (p ≡ w ++ q) × K xs q
ended R c K [] h = absurd h
ended R c K (b ∷ bs) h = ([], c ∷ [], bs, refl, ap (λ (a : ℕ). a ∷ bs) (eqb-true b c h.0), h.1)

pub parts_until : {A : Type 0} (R : A → List ℕ → Type 0) (c n : ℕ) (one : Lang A) → Parts R one → Parts (AllOf R c) (until c n one)
unfolding until
parts_until R c zero one o K p h = ended R c K p h
parts_until R c (suc n) one o K p (inl h) = ended R c K p h
parts_until R c (suc n) one o K p (inr h) =
    let k = o (λ x. (until c n one).followed Whole (λ xs. K (x ∷ xs))) p h in
    let l = parts_until R c n one o (λ xs. K (k.0 ∷ xs)) k.2 k.5 in
    (k.0 ∷ l.0, k.1 ++ l.1, l.2, (k.1, l.1, k.3, l.3, refl), k.4 ∙ ap (λ (q : List ℕ). k.1 ++ q) l.4 ∙ sym (append_assoc k.1 l.1 l.2), l.5)

pub parts_many : {A : Type 0} (R : A → List ℕ → Type 0) (c : ℕ) (one : Lang A) → Parts R one → Parts (AllOf R c) (many c one)
parts_many R c one o K p h = parts_until R c h.0 one o K p h.1

-- what is said of the texts may be less
pub parts_wider : {A : Type 0} (R Q : A → List ℕ → Type 0) (one : Lang A) → ((x : A) (w : List ℕ) → R x w → Q x w) → Parts R one → Parts Q one
parts_wider R Q one wider o K p h = let k = o K p h in (k.0, k.1, k.2, wider k.0 k.1 k.3, k.4, k.5)

pub parts_never : {A : Type 0} (R : A → List ℕ → Type 0) (x : A) → Parts R (never x)
parts_never R x K [] h = absurd h
parts_never R x K (b ∷ bs) h = absurd (let e : false ≡ true = h.0 in cc)

pub parts_closed : {A : Type 0} (c : ℕ) (x : A) → Parts (λ y w. (y ≡ x) × (w ≡ c ∷ [])) (closed c x)
parts_closed c x K [] h = absurd h
parts_closed c x K (b ∷ bs) h = (x, c ∷ [], bs, (refl, refl), ap (λ (a : ℕ). a ∷ bs) (eqb-true b c h.0), h.1)

pub parts_before : {A : Type 0} (R : A → List ℕ → Type 0) (c : ℕ) (one : Lang A) → Parts R one → Parts (λ x w. (v : List ℕ) × R x v × (w ≡ c ∷ v)) (c ▸ one)
parts_before R c one o K [] h = absurd h
parts_before R c one o K (b ∷ bs) h =
    let k = o K bs h.1 in
    (k.0, c ∷ k.1, k.2, (k.1, k.3, refl), ap (λ (a : ℕ). a ∷ bs) (eqb-true b c h.0) ∙ ap (λ (l : List ℕ). c ∷ l) k.4, k.5)

pub parts_listed : {A : Type 0} (R : A → List ℕ → Type 0) (c : ℕ) (one : Lang A) → Parts R one
    → Parts (λ xs w. ((xs ≡ []) × (w ≡ c ∷ []))
    ⊎ ((x : A) × (ys : List A) × (v u : List ℕ) × (xs ≡ x ∷ ys) × R x v × AllOf (λ y w. (v : List ℕ) × R y v × (w ≡ 44 ∷ v)) c ys u × (w ≡ v ++ u)))
    (listed c one)
parts_listed {A} R c one o K p (inl h) = let k = parts_closed c [] K p h in (k.0, k.1, k.2, inl k.3, k.4, k.5)
parts_listed {A} R c one o K p (inr h) =
    let k = o (λ x. (many c (44 ▸ one)).followed Whole (λ xs. K (x ∷ xs))) p h in
    let l = parts_many (λ y w. (v : List ℕ) × R y v × (w ≡ 44 ∷ v)) c (44 ▸ one) (parts_before R 44 one o) (λ xs. K (k.0 ∷ xs)) k.2 k.5 in (
      k.0 ∷ l.0,
      k.1 ++ l.1,
      l.2,
      inr (k.0, l.0, k.1, l.1, refl, k.3, l.3, refl),
      k.4 ∙ ap (λ (q : List ℕ). k.1 ++ q) l.4
          ∙ sym (append_assoc k.1 l.1 l.2),
      l.5,
    )

pub parts_rest : {A : Type 0} (R : A → List ℕ → Type 0) (c n : ℕ) (one : Lang A) → Parts R one
    → Parts (AllOf (λ y w. (v : List ℕ) × R y v × (w ≡ 44 ∷ v)) c) (rest_of c n one)
unfolding rest_of
parts_rest R c zero one o K p h = ended (λ y w. (v : List ℕ) × R y v × (w ≡ 44 ∷ v)) c K p h
parts_rest R c (suc n) one o K [] h = absurd h
parts_rest R c (suc n) one o K (b ∷ bs) h =
    let k = o (λ x. (rest_of c n one).followed Whole (λ xs. K (x ∷ xs))) bs h.1 in
    let l = parts_rest R c n one o (λ xs. K (k.0 ∷ xs)) k.2 k.5 in (
      k.0 ∷ l.0,
      44 ∷ (k.1 ++ l.1),
      l.2,
      (44 ∷ k.1, l.1, (k.1, k.3, refl), l.3, refl),
      ap (λ (a : ℕ). a ∷ bs) (eqb-true b 44 h.0)
          ∙ ap (λ (l : List ℕ). 44 ∷ l) (k.4 ∙ ap (λ (q : List ℕ). k.1 ++ q) l.4 ∙ sym (append_assoc k.1 l.1 l.2)),
      l.5,
    )

pub parts_exactly : {A : Type 0} (R : A → List ℕ → Type 0) (c n : ℕ) (one : Lang A) → Parts R one
    → Parts (λ xs w. ((xs ≡ []) × (w ≡ c ∷ []))
    ⊎ ((x : A) × (ys : List A) × (v u : List ℕ) × (xs ≡ x ∷ ys) × R x v × AllOf (λ y w. (v : List ℕ) × R y v × (w ≡ 44 ∷ v)) c ys u × (w ≡ v ++ u)))
    (exactly c n one)
unfolding exactly
parts_exactly {A} R c zero one o K p h = let k = parts_closed c [] K p h in (k.0, k.1, k.2, inl k.3, k.4, k.5)
parts_exactly {A} R c (suc n) one o K p h =
    let k = o (λ x. (rest_of c n one).followed Whole (λ xs. K (x ∷ xs))) p h in
    let l = parts_rest R c n one o (λ xs. K (k.0 ∷ xs)) k.2 k.5 in (
      k.0 ∷ l.0,
      k.1 ++ l.1,
      l.2,
      inr (k.0, l.0, k.1, l.1, refl, k.3, l.3, refl),
      k.4 ∙ ap (λ (q : List ℕ). k.1 ++ q) l.4
          ∙ sym (append_assoc k.1 l.1 l.2),
      l.5,
    )

pub parts_among : {A : Type 0} (other : A) (spelled : A → List ℕ) (xs : List A) → Parts (λ x w. w ≡ spelled x) (among other spelled xs)
parts_among other spelled [] = parts_never (λ x w. w ≡ spelled x) other
parts_among other spelled (x ∷ xs) = parts_wider (λ y w. IsAmong y (x ∷ xs) × (w ≡ spelled y)) (λ y w. w ≡ spelled y) (among other spelled (x ∷ xs))
    (λ y w k. k.1) (parts_words (among_words spelled (x ∷ xs)))
