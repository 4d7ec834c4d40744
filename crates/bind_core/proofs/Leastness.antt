-- The least of what was found and of more ends, in whatever order they come.
use Rattle.std.proofs.Common.{◌≡◌, ◌<◌, ℕ, Bool, true, false, List, [], ◌∷◌, ◌++◌, refl, sym, ap, ◌∙◌, subst, ◌⊎◌, inl, inr, Some, None, arith}
use Rattle.std.specs.Prelude.{◌==◌, ◌&&◌, ◌||◌, nat_lt, if◌then◌else◌, Option, is_some}
use Rattle.std.proofs.lemmas.Bool.{eq-eqb, eqb-true, lt-ltb, ltb-true}
use Rattle.std.proofs.lemmas.Bool.Decides.{nat_tests}
use Rattle.mj_base.specs.declared.ids.EndId.{EndId}
use Rattle.mj_base.specs.declared.ids.SeqId.{SeqId}
use Rattle.handle_table.specs.Things.{same_end}
use Rattle.handle_table.proofs.ThingsLemmas.{and_left, and_right, or_cases, or_left, or_right, same_end-true}
use Rattle.bind_model.specs.Ready.{is_before}
use Rattle.bind_model.proofs.Outcomes.{left_false, right_false}
use Rattle.bind_core.specs.EndSets.{has_end}
use Rattle.bind_core.specs.steps.FirstTaken.{Ascends, IsFirst, IsLeast, first_taken, least_among, lesser_of}

-- ## Ends by their numbers

abbrev Less : EndId → EndId → Type 0
Less x y = (x.seq < y.seq) ⊎ ((x.seq ≡ y.seq) × (x.serial < y.serial))

less_of : (x y : EndId) → is_before x y ≡ true → Less x y
less_of x y h = elim (or_cases (nat_lt x.seq y.seq) ((x.seq == y.seq) && nat_lt x.serial y.serial) h) [
  | inl a ↦ inl (ltb-true x.seq y.seq a)
  | inr b ↦ inr (
    eqb-true x.seq y.seq (and_left (x.seq == y.seq) (nat_lt x.serial y.serial) b),
    ltb-true x.serial y.serial (and_right (x.seq == y.seq) (nat_lt x.serial y.serial) b),
  )
]

of_less : (x y : EndId) → Less x y → is_before x y ≡ true
of_less x y (inl a) = or_left (nat_lt x.seq y.seq) ((x.seq == y.seq) && nat_lt x.serial y.serial) (lt-ltb x.seq y.seq a)
of_less x y (inr b) =
    or_right (nat_lt x.seq y.seq) ((x.seq == y.seq) && nat_lt x.serial y.serial) (rw (eq-eqb x.seq y.seq b.0, lt-ltb x.serial y.serial b.1) refl)

behind_both : (x y z : EndId) → Less x y → Less y z → Less x z
behind_both x y z (inl a) (inl b) = inl (omega (arith, a, b))
behind_both x y z (inl a) (inr b) = let e : y.seq ≡ z.seq = b.0 in inl (omega (arith, a, e))
behind_both x y z (inr a) (inl b) = let e : x.seq ≡ y.seq = a.0 in inl (omega (arith, e, b))
behind_both x y z (inr a) (inr b) =
    let s : x.serial < y.serial = a.1 in
    let t : y.serial < z.serial = b.1 in
    inr (a.0 ∙ b.0, omega (arith, s, t))

-- what comes before what comes before
orders : (x y z : EndId) → is_before x y ≡ true → is_before y z ≡ true → is_before x z ≡ true
orders x y z f g = of_less x z (behind_both x y z (less_of x y f) (less_of y z g))

same_numbers : (x z : EndId) → x.seq ≡ z.seq → x.serial ≡ z.serial → x ≡ z
same_numbers x z s n =
    let first : x ≡ record { seq = z.seq; serial = x.serial } = ap (λ (k : ℕ). record { seq = k; serial = x.serial }) s in
    first ∙ ap (λ (k : ℕ). record { seq = z.seq; serial = k }) n

-- numbers of which neither is less are one
neither_less : (a b : ℕ) → nat_lt a b ≡ false → nat_lt b a ≡ false → a ≡ b
neither_less a b g h = grind (arith, nat_tests, g, h)

-- of two ends one comes before the other, unless they are one
not_before : (x z : EndId) → is_before x z ≡ false → (x ≡ z) ⊎ (is_before z x ≡ true)
not_before x z f = by_seq (nat_lt z.seq x.seq) refl
  where
    not_less : nat_lt x.seq z.seq ≡ false
    not_less = left_false (nat_lt x.seq z.seq) ((x.seq == z.seq) && nat_lt x.serial z.serial) f

    rest : ((x.seq == z.seq) && nat_lt x.serial z.serial) ≡ false
    rest = right_false (nat_lt x.seq z.seq) ((x.seq == z.seq) && nat_lt x.serial z.serial) f

    by_serial : x.seq ≡ z.seq → nat_lt x.serial z.serial ≡ false → (b : Bool) → nat_lt z.serial x.serial ≡ b → (x ≡ z) ⊎ (is_before z x ≡ true)
    by_serial e g true h = inr (of_less z x (inr (sym e, ltb-true z.serial x.serial h)))
    by_serial e g false h = inl (same_numbers x z e (neither_less x.serial z.serial g h))

    by_seq : (b : Bool) → nat_lt z.seq x.seq ≡ b → (x ≡ z) ⊎ (is_before z x ≡ true)
    by_seq true h = inr (of_less z x (inl (ltb-true z.seq x.seq h)))
    by_seq false h =
        let e : x.seq ≡ z.seq = neither_less x.seq z.seq not_less h in
        by_serial e (sym (ap (λ (c : Bool). c && nat_lt x.serial z.serial) (eq-eqb x.seq z.seq e)) ∙ rest) (nat_lt z.serial x.serial) refl

module _ (takes : EndId → Option SeqId) where
  -- where nobody takes somebody doesn't
  nobody : {A : Type 0} (y : EndId) → takes y ≡ None → is_some (takes y) ≡ true → A
  nobody y none some = absurd (let n : is_some (takes y) ≡ false = ap (λ (o : Option SeqId). is_some o) none in cc)

  -- ## In order

  -- what comes behind the first
  pub behind_first : (x y : EndId) (xs : List EndId) → IsFirst x xs → has_end xs y ≡ true → is_before x y ≡ true
  behind_first x y [] f h = absurd cc
  behind_first x y (z ∷ xs) f h = elim (or_cases (same_end y z) (has_end xs y) h) [
    | inl s ↦ rw (same_end-true y z s) f.0
    | inr s ↦ behind_first x y xs f.1 s
  ]

  -- the first of ends in order is the least
  pub first_least : (xs : List EndId) → Ascends xs → IsLeast takes (has_end xs) (first_taken takes xs)
  first_least [] a = λ x h. absurd cc
  first_least (x ∷ xs) a = go (takes x) refl (first_least xs a.1)
    where
      which : (y : EndId) → has_end (x ∷ xs) y ≡ true → (y ≡ x) ⊎ (is_before x y ≡ true)
      which y h = elim (or_cases (same_end y x) (has_end xs y) h) [
        | inl s ↦ inl (same_end-true y x s)
        | inr s ↦ inr (behind_first x y xs a.0 s)
      ]

      later : takes x ≡ None → (found : Option (SeqId × EndId)) → IsLeast takes (has_end xs) found → IsLeast takes (has_end (x ∷ xs)) found
      later none None l = λ y h. elim (or_cases (same_end y x) (has_end xs y) h) [
        | inl s ↦ rw (same_end-true y x s) none
        | inr s ↦ l y s
      ]
      later none (Some (t, z)) l = (
        l.0,
        λ y h some. elim (or_cases (same_end y x) (has_end xs y) h) [
          | inl s ↦ nobody y (rw (same_end-true y x s) none) some
          | inr s ↦ l.1 y s some
        ],
      )

      go : (o : Option SeqId) → takes x ≡ o → IsLeast takes (has_end xs) (first_taken takes xs)
          → IsLeast takes (has_end (x ∷ xs)) (elim o [ Some t ↦ Some (t, x) | None ↦ first_taken takes xs ])
      go (Some t) e rest = (e, λ y h some. which y h)
      go None e rest = later e (first_taken takes xs) rest

  -- ## In any order

  -- one end more
  one_more : (meant : EndId → Bool) (found : Option (SeqId × EndId)) (x : EndId) (o : Option SeqId) → takes x ≡ o → IsLeast takes meant found
      → IsLeast takes (λ y. meant y || same_end y x) (lesser_of found o x)
  one_more meant None x None e l = λ y h. elim (or_cases (meant y) (same_end y x) h) [
    | inl m ↦ l y m
    | inr s ↦ rw (same_end-true y x s) e
  ]
  one_more meant (Some (t, z)) x None e l = (
    l.0,
    λ y h some. elim (or_cases (meant y) (same_end y x) h) [
      | inl m ↦ l.1 y m some
      | inr s ↦ nobody y (rw (same_end-true y x s) e) some
    ],
  )
  one_more meant None x (Some t) e l = (
    e,
    λ y h some. elim (or_cases (meant y) (same_end y x) h) [
      | inl m ↦ nobody y (l y m) some
      | inr s ↦ inl (same_end-true y x s)
    ],
  )
  one_more meant (Some (s, z)) x (Some t) e l = go (is_before x z) refl
    where
      go : (b : Bool) → is_before x z ≡ b → IsLeast takes (λ y. meant y || same_end y x) (if b then Some (t, x) else Some (s, z))
      go true f = (
        e,
        λ y h some. elim (or_cases (meant y) (same_end y x) h) [
          | inl m ↦ elim (l.1 y m some) [
            | inl i ↦ inr (rw i f)
            | inr r ↦ inr (orders x z y f r)
          ]
          | inr i ↦ inl (same_end-true y x i)
        ],
      )
      go false f = (
        l.0,
        λ y h some. elim (or_cases (meant y) (same_end y x) h) [
          | inl m ↦ l.1 y m some
          | inr i ↦ subst (λ (w : EndId). (w ≡ z) ⊎ (is_before z w ≡ true)) (sym (same_end-true y x i)) (not_before x z f)
        ],
      )

  -- where fewer are meant
  of_fewer : (p q : EndId → Bool) (found : Option (SeqId × EndId)) → ((y : EndId) → q y ≡ true → p y ≡ true) → IsLeast takes p found
      → IsLeast takes q found
  of_fewer p q None fewer l = λ y h. l y (fewer y h)
  of_fewer p q (Some (t, x)) fewer l = (l.0, λ y h some. l.1 y (fewer y h) some)

  -- all of a list more
  pub all_more : (xs : List EndId) (meant : EndId → Bool) (found : Option (SeqId × EndId)) → IsLeast takes meant found
      → IsLeast takes (λ y. meant y || has_end xs y) (least_among takes found xs)
  all_more [] meant found l = of_fewer meant (λ y. meant y || false) found (λ y h. elim (or_cases (meant y) false h) [
    | inl m ↦ m
    | inr n ↦ absurd cc
  ]) l
  all_more (x ∷ xs) meant found l =
      of_fewer (λ y. (meant y || same_end y x) || has_end xs y) (λ y. meant y || has_end (x ∷ xs) y)
      (least_among takes (lesser_of found (takes x) x) xs) sorted
      (all_more xs (λ y. meant y || same_end y x) (lesser_of found (takes x) x) (one_more meant found x (takes x) refl l))
    where
      sorted : (y : EndId) → (meant y || has_end (x ∷ xs) y) ≡ true → ((meant y || same_end y x) || has_end xs y) ≡ true
      sorted y h = elim (or_cases (meant y) (has_end (x ∷ xs) y) h) [
        | inl m ↦ or_left (meant y || same_end y x) (has_end xs y) (or_left (meant y) (same_end y x) m)
        | inr e ↦ elim (or_cases (same_end y x) (has_end xs y) e) [
          | inl s ↦ or_left (meant y || same_end y x) (has_end xs y) (or_right (meant y) (same_end y x) s)
          | inr r ↦ or_right (meant y || same_end y x) (has_end xs y) r
        ]
      ]

-- lists behind one another
pub least_append : (takes : EndId → Option SeqId) (xs ys : List EndId) (found : Option (SeqId × EndId))
    → least_among takes found (xs ++ ys) ≡ least_among takes (least_among takes found xs) ys
least_append takes [] ys found = refl
least_append takes (x ∷ xs) ys found = least_append takes xs ys (lesser_of found (takes x) x)
