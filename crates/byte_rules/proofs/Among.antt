-- The laws of words of a list.
use Rattle.std.proofs.Common.{◌≡◌, ◌≢◌, ℕ, zero, suc, ◌-◌, ◌≤◌, ◌<◌, List, [], ◌∷◌, ◌++◌, Option, Some, None, length, take, drop, Ok}
use Rattle.std.proofs.Common.{Bool, true, false, cond, ◌==◌, ◌&&◌, ◌⊎◌, inl, inr, refl, sym, ap, ◌∙◌, subst, append_assoc, arith, length-append}
use Rattle.std.specs.Prelude.{nat_lt}
use Rattle.std.specs.List.{list_all}
use Rattle.std.proofs.lemmas.List.{append-nil}
use Rattle.std.proofs.lemmas.Bool.{eqb-true}
use Rattle.std.proofs.lemmas.Bool.Decides.{nat_tests}
use Rattle.byte_rules.specs.Lang.{words, Begun}
use Rattle.byte_rules.specs.Among.{common, Near, nearer, nearest, found, IsAmong, among_words, among}
use Rattle.byte_rules.proofs.Tells.{Scanned}
use Rattle.byte_rules.proofs.Finds.{Passes, FindsWords}
use Rattle.byte_rules.proofs.Good.{Good, good_words, good_never, good_wider}

-- what two lists have in common
pub common_most : (w bs : List ℕ) → (common w bs ≤ length w) × (common w bs ≤ length bs)
common_most [] bs = (omega arith, omega arith)
common_most (a ∷ w) [] = (omega arith, omega arith)
common_most (a ∷ w) (b ∷ bs) = of (a == b) (common_most w bs)
  where
    of : (v : Bool) → (common w bs ≤ length w) × (common w bs ≤ length bs)
        → (cond v (suc (common w bs)) 0 ≤ length (a ∷ w)) × (cond v (suc (common w bs)) 0 ≤ length (b ∷ bs))
    of true k = (omega (arith, k.0), omega (arith, k.1))
    of false k = (omega arith, omega arith)

-- the word begins with it, and so do the bytes
common_in : (w bs : List ℕ) → (more : List ℕ) × (w ≡ take (common w bs) bs ++ more)
common_in [] bs = ([], refl)
common_in (a ∷ w) [] = (a ∷ w, refl)
common_in (a ∷ w) (b ∷ bs) = of (a == b) refl (common_in w bs)
  where
    of : (v : Bool) → (a == b) ≡ v → (more : List ℕ) × (w ≡ take (common w bs) bs ++ more)
        → (more : List ℕ) × (a ∷ w ≡ take (cond v (suc (common w bs)) 0) (b ∷ bs) ++ more)
    of true e k = (k.0, subst (λ (c : ℕ). a ∷ w ≡ c ∷ (take (common w bs) bs ++ k.0)) (eqb-true a b e) (ap (λ (l : List ℕ). a ∷ l) k.1))
    of false e k = (a ∷ w, refl)

same_byte : (b : ℕ) → (b == b) ≡ true
same_byte b = grind (arith, nat_tests)

common_front : (p rest u : List ℕ) → length p ≤ common (p ++ rest) (p ++ u)
common_front [] rest u = omega arith
common_front (b ∷ p) rest u = rw (same_byte b) (let k = common_front p rest u in omega (arith, k))

glue : (n : ℕ) (ts : List ℕ) → take n ts ++ drop n ts ≡ ts
glue zero ts = refl
glue (suc n) [] = refl
glue (suc n) (b ∷ bs) = ap (λ l. b ∷ l) (glue n bs)

length_drop : (n : ℕ) (ts : List ℕ) → length (drop n ts) ≡ length ts - n
length_drop zero ts = omega arith
length_drop (suc n) [] = omega arith
length_drop (suc n) (b ∷ bs) = omega (arith, length_drop n bs)

length_take : (n : ℕ) (ts : List ℕ) → n ≤ length ts → length (take n ts) ≡ n
length_take zero ts le = refl
length_take (suc n) [] le = absurd (omega (arith, le))
length_take (suc n) (b ∷ bs) le = ap suc (length_take n bs (omega (arith, le)))

no_more : (w more : List ℕ) → length (w ++ more) ≡ length w → w ++ more ≡ w
no_more w [] e = append-nil w
no_more w (b ∷ bs) e = absurd (omega (arith, e, length-append w (b ∷ bs)))

-- a word that goes as far as it is long stands at the front
whole_front : (w bs : List ℕ) (n : ℕ) → length w ≡ n → common w bs ≡ n → w ≡ take n bs
whole_front w bs n l e =
    let k = common_in w bs in
    let most = common_most w bs in
    let at : w ≡ take n bs ++ k.0 = subst (λ (j : ℕ). w ≡ take j bs ++ k.0) e k.1 in
    let size : length (take n bs) ≡ n = length_take n bs (omega (arith, e, most.1)) in
    at ∙ no_more (take n bs) k.0 (sym (ap length at) ∙ l ∙ sym size)

abbrev IfSome : {A : Type 0} → (A → Type 0) → Option A → Type 0
IfSome P None = Unit {0}
IfSome P (Some x) = P x

abbrev IsFound : {A : Type 0} → Option A → Type 0
IsFound None = ⊥
IsFound (Some x) = Unit {0}

abbrev head_or : List ℕ → ℕ → ℕ
head_or [] d = d
head_or (b ∷ bs) d = b

abbrev tail : List ℕ → List ℕ
tail [] = []
tail (b ∷ bs) = bs

left_true : (v w : Bool) → (v && w) ≡ true → v ≡ true
left_true true w e = refl
left_true false w e = absurd (cc)

right_true : (v w : Bool) → (v && w) ≡ true → w ≡ true
right_true true w e = e
right_true false w e = absurd (cc)

module _ {A : Type 0} (spelled : A → List ℕ) (bs : List ℕ) (all : List A) where
  -- what is known of how far words of the list go: a word goes so far, and the one that was found ends there
  record Reached (near : Near A) : Type 0 where
    pub by : (near.0 ≡ 0) ⊎ ((x : A) × IsAmong x all × (common (spelled x) bs ≡ near.0))
    pub whole : IfSome (λ x. IsAmong x all × (length (spelled x) ≡ near.0) × (common (spelled x) bs ≡ near.0)) near.1

  reached_one : (x : A) (near : Near A) → IsAmong x all → Reached near → Reached (nearer (spelled x) bs x near)
  reached_one x near i r = of (nat_lt n near.0) (length (spelled x) == n) (n == near.0) refl
    where
      n : ℕ
      n = common (spelled x) bs

      of : (u v w : Bool) → (length (spelled x) == n) ≡ v → Reached (cond u near (cond v (n, Some x) (cond w near (n, None))))
      of true v w e = r
      of false true w e = record { by = inr (x, i, refl); whole = (i, eqb-true (length (spelled x)) n e, refl) }
      of false false true e = r
      of false false false e = record { by = inr (x, i, refl); whole = tt }

  reached : (xs : List A) (near : Near A) → ((x : A) → IsAmong x xs → IsAmong x all) → Reached near → Reached (nearest spelled bs near xs)
  reached [] near i r = r
  reached (x ∷ xs) near i r = reached xs (nearer (spelled x) bs x near) (λ y j. i y (inr j)) (reached_one x near (i x (inl refl)) r)

  -- it only grows
  grows_one : (x : A) (near : Near A)
      → (near.0 ≤ (nearer (spelled x) bs x near).0) × (common (spelled x) bs ≤ (nearer (spelled x) bs x near).0)
  grows_one x near = of (nat_lt n near.0) (length (spelled x) == n) (n == near.0) refl refl
    where
      n : ℕ
      n = common (spelled x) bs

      of : (u v w : Bool) → nat_lt n near.0 ≡ u → (n == near.0) ≡ w
          → (near.0 ≤ (cond u near (cond v (n, Some x) (cond w near (n, None)))).0)
          × (n ≤ (cond u near (cond v (n, Some x) (cond w near (n, None)))).0)
      of true v w e f = let l : n < near.0 = grind (arith, nat_tests) in (omega arith, omega (arith, l))
      of false true w e f = let l : near.0 ≤ n = grind (arith, nat_tests) in (l, omega arith)
      of false false true e f = let l : n ≡ near.0 = eqb-true n near.0 f in (omega arith, omega (arith, l))
      of false false false e f = let l : near.0 ≤ n = grind (arith, nat_tests) in (l, omega arith)

  grows : (xs : List A) (near : Near A) → near.0 ≤ (nearest spelled bs near xs).0
  grows [] near = omega arith
  grows (x ∷ xs) near =
      let k = grows_one x near in
      omega (arith, k.0, grows xs (nearer (spelled x) bs x near))

  reaches : (xs : List A) (near : Near A) (x : A) → IsAmong x xs → common (spelled x) bs ≤ (nearest spelled bs near xs).0
  reaches [] near x i = absurd i
  reaches (y ∷ ys) near x (inl e) =
      let k = grows_one y near in
      let same : common (spelled x) bs ≡ common (spelled y) bs = ap (λ (z : A). common (spelled z) bs) e in
      omega (arith, k.1, same, grows ys (nearer (spelled y) bs y near))
  reaches (y ∷ ys) near x (inr i) = reaches ys (nearer (spelled y) bs y near) x i

  -- where it stays at c, some word ends there
  abbrev Ends : ℕ → Near A → Type 0
  Ends c near = (c ≤ near.0) × (near.0 ≡ c → IsFound near.1)

  ends_one : (c : ℕ) (y : A) (near : Near A) → Ends c near → Ends c (nearer (spelled y) bs y near)
  ends_one c y near h = of (nat_lt n near.0) (length (spelled y) == n) (n == near.0) refl refl
    where
      n : ℕ
      n = common (spelled y) bs

      of : (u v w : Bool) → nat_lt n near.0 ≡ u → (n == near.0) ≡ w → Ends c (cond u near (cond v (n, Some y) (cond w near (n, None))))
      of true v w e f = h
      of false true w e f = let l : near.0 ≤ n = grind (arith, nat_tests) in (omega (arith, l, h.0), λ same. tt)
      of false false true e f = h
      of false false false e f =
          let l : near.0 ≤ n = grind (arith, nat_tests) in
          let m : n ≢ near.0 = λ same. apart same f in
          (omega (arith, l, h.0), λ same. absurd (m (omega (arith, same, l, h.0))))
        where
          apart : n ≡ near.0 → (n == near.0) ≡ false → ⊥
          apart same g = let t : (n == near.0) ≡ true = grind (arith, nat_tests) in absurd (cc)

  ends_on : (c : ℕ) (xs : List A) (near : Near A) → Ends c near → Ends c (nearest spelled bs near xs)
  ends_on c [] near h = h
  ends_on c (x ∷ xs) near h = ends_on c xs (nearer (spelled x) bs x near) (ends_one c x near h)

  ends_at : (x : A) (near : Near A) → length (spelled x) ≡ common (spelled x) bs → Ends (common (spelled x) bs) (nearer (spelled x) bs x near)
  ends_at x near whole = of (nat_lt n near.0) refl
    where
      n : ℕ
      n = common (spelled x) bs

      here : (length (spelled x) == n) ≡ true
      here = grind (arith, nat_tests)

      of : (u : Bool) → nat_lt n near.0 ≡ u → Ends n (cond u near (cond (length (spelled x) == n) (n, Some x) (cond (n == near.0) near (n, None))))
      of true e = let l : n < near.0 = grind (arith, nat_tests) in (omega (arith, l), λ same. absurd (omega (arith, same, l)))
      of false e = rw here (omega arith, λ same. tt)

  ends : (xs : List A) (near : Near A) (x : A) → IsAmong x xs → length (spelled x) ≡ common (spelled x) bs
      → Ends (common (spelled x) bs) (nearest spelled bs near xs)
  ends [] near x i whole = absurd i
  ends (y ∷ ys) near x (inl e) whole =
      subst (λ (z : A). length (spelled z) ≡ common (spelled z) bs → Ends (common (spelled z) bs) (nearest spelled bs near (y ∷ ys))) (sym e)
      (λ w. ends_on (common (spelled y) bs) ys (nearer (spelled y) bs y near) (ends_at y near w)) whole
  ends (y ∷ ys) near x (inr i) whole = ends ys (nearer (spelled y) bs y near) x i whole

-- what words of a list owe: no two are the same, and behind the first byte of each stand bytes of `more`
pub record AreApart {A : Type 0} (S more : ℕ → Bool) (spelled : A → List ℕ) (xs : List A) : Type 0 where
  pub one : (x y : A) → IsAmong x xs → IsAmong y xs → spelled x ≡ spelled y → x ≡ y
  pub first : (x : A) → IsAmong x xs → (b : ℕ) × (bs : List ℕ) × (spelled x ≡ b ∷ bs) × (S b ≡ true) × (list_all more bs ≡ true)

module _ {A : Type 0} (S more : ℕ → Bool) (spelled : A → List ℕ) (all : List A) (some : (x : A) × IsAmong x all) (own : AreApart S more spelled all) where
  abbrev last : List ℕ → Near A
  last bs = nearest spelled bs (0, None) all

  begun : (bs : List ℕ) → Reached spelled bs all (last bs)
  begun bs = reached spelled bs all all (0, None) (λ x i. i) (record { by = inl refl; whole = tt })

  scanned_at : (bs : List ℕ) (near : Near A) → Reached spelled bs all near → Scanned (among_words spelled all) bs (found bs near)
  scanned_at bs (n, Some x) r =
      (r.whole.0, sym (glue n bs) ∙ ap (λ (l : List ℕ). l ++ drop n bs) (sym (whole_front (spelled x) bs n r.whole.1 r.whole.2)))
  scanned_at bs (n, None) r = (take n bs, drop n bs, sym (glue n bs), length_drop n bs, of r.by)
    where
      of : (n ≡ 0) ⊎ ((x : A) × IsAmong x all × (common (spelled x) bs ≡ n)) → (x : A) × (rest : List ℕ) × IsAmong x all × (spelled x ≡ take n bs ++ rest)
      of (inl e) = (some.0, spelled some.0, some.1, subst (λ (j : ℕ). spelled some.0 ≡ take j bs ++ spelled some.0) (sym e) refl)
      of (inr k) = let c = common_in (spelled k.0) bs in (k.0, c.0, k.1, subst (λ (j : ℕ). spelled k.0 ≡ take j bs ++ c.0) k.2 c.1)

  scanned : (bs : List ℕ) → Scanned (among_words spelled all) bs (found bs (last bs))
  scanned bs = scanned_at bs (last bs) (begun bs)

  front_at : (p u : List ℕ) (near : Near A) → length p ≤ near.0 → Passes Begun u (found (p ++ u) near)
  front_at p u (n, Some x) le = omega (arith, le, length_drop n (p ++ u), length-append p u)
  front_at p u (n, None) le = omega (arith, le, length-append p u)

  front : (x : A) (p rest u : List ℕ) → IsAmong x all → spelled x ≡ p ++ rest → Passes Begun u (found (p ++ u) (last (p ++ u)))
  front x p rest u i e =
      let k : length p ≤ common (spelled x) (p ++ u) = subst (λ (w : List ℕ). length p ≤ common w (p ++ u)) (sym e) (common_front p rest u) in
      front_at p u (last (p ++ u)) (omega (arith, k, reaches spelled (p ++ u) all all (0, None) x i))

  -- nothing that goes on with a word
  abbrev Stops : List ℕ → Type 0
  Stops [] = Unit {0}
  Stops (b ∷ bs) = more b ≡ false

  -- the byte behind a front of a word is one of `more`
  behind_front : (w p : List ℕ) (b : ℕ) (rest : List ℕ) → list_all more w ≡ true → w ≡ p ++ b ∷ rest → more b ≡ true
  behind_front [] [] b rest h e = absurd (cc)
  behind_front [] (a ∷ p) b rest h e = absurd (cc)
  behind_front (c ∷ w) [] b rest h e = subst (λ (k : ℕ). more k ≡ true) (ap (λ l. head_or l 0) e) (left_true (more c) (list_all more w) h)
  behind_front (c ∷ w) (a ∷ p) b rest h e = behind_front w p b rest (right_true (more c) (list_all more w) h) (ap tail e)

  -- no word goes on where a whole word is followed by no byte of `more`
  no_longer : (x y : A) (q : List ℕ) → IsAmong x all → IsAmong y all → Stops q → common (spelled y) (spelled x ++ q) ≤ length (spelled x)
  no_longer x y q i j stops = of (nat_lt (length (spelled x)) n) refl
    where
      n : ℕ
      n = common (spelled y) (spelled x ++ q)

      split : (w q : List ℕ) (n : ℕ) → length w < n → n ≤ length (w ++ q) → (b : ℕ) × (rest : List ℕ) × (q ≡ b ∷ drop 1 q)
          × (take n (w ++ q) ≡ w ++ b ∷ rest) × (b ≡ head_or q 0)
      split [] [] n lt le = absurd (omega (arith, lt, le))
      split [] (b ∷ q) zero lt le = absurd (omega (arith, lt))
      split [] (b ∷ q) (suc n) lt le = (b, take n q, refl, refl, refl)
      split (a ∷ w) q zero lt le = absurd (omega (arith, lt))
      split (a ∷ w) q (suc n) lt le =
          let k = split w q n (omega (arith, lt)) (omega (arith, le)) in
          (k.0, k.1, k.2, ap (λ (l : List ℕ). a ∷ l) k.3, k.4)

      stopped : (q : List ℕ) (b : ℕ) → Stops q → q ≡ b ∷ drop 1 q → more b ≡ false
      stopped [] b s e = absurd (cc)
      stopped (c ∷ q) b s e = subst (λ (k : ℕ). more k ≡ false) (ap (λ l. head_or l 0) e) s

      clash : length (spelled x) < n → ⊥
      clash lt =
          let c = common_in (spelled y) (spelled x ++ q) in
          let most = common_most (spelled y) (spelled x ++ q) in
          let s = split (spelled x) q n lt most.1 in
          let f = own.first x i in
          let g = own.first y j in
          let whole : g.0 ∷ g.1 ≡ f.0 ∷ (f.1 ++ s.0 ∷ (s.1 ++ c.0)) =
          sym g.2 ∙ c.1 ∙ ap (λ (l : List ℕ). l ++ c.0) s.3 ∙ append_assoc (spelled x) (s.0 ∷ s.1) c.0
          ∙ ap (λ (l : List ℕ). l ++ s.0 ∷ (s.1 ++ c.0)) f.2 in
          let t : more s.0 ≡ true = behind_front g.1 f.1 s.0 (s.1 ++ c.0) g.4 (ap tail whole) in
          let u : more s.0 ≡ false = stopped q s.0 stops s.2 in
          absurd (cc)

      of : (v : Bool) → nat_lt (length (spelled x)) n ≡ v → n ≤ length (spelled x)
      of true e = absurd (clash (let l : length (spelled x) < n = grind (arith, nat_tests) in l))
      of false e = grind (arith, nat_tests)

  drop_front : (w q : List ℕ) → drop (length w) (w ++ q) ≡ q
  drop_front [] q = refl
  drop_front (a ∷ w) q = drop_front w q

  take_front : (w q : List ℕ) → take (length w) (w ++ q) ≡ w
  take_front [] q = refl
  take_front (a ∷ w) q = ap (λ (l : List ℕ). a ∷ l) (take_front w q)

  whole_at : (x : A) (q : List ℕ) (near : Near A) → IsAmong x all → near.0 ≡ length (spelled x) → Reached spelled (spelled x ++ q) all near → IsFound near.1
      → found (spelled x ++ q) near ≡ Ok (x, q)
  whole_at x q (n, None) i e r s = absurd s
  whole_at x q (n, Some y) i e r s =
      let w : spelled y ≡ take n (spelled x ++ q) = whole_front (spelled y) (spelled x ++ q) n r.whole.1 r.whole.2 in
      let same : y ≡ x = own.one y x r.whole.0 i (w ∙ ap (λ (j : ℕ). take j (spelled x ++ q)) e ∙ take_front (spelled x) q) in
      ap (λ (z : A). Ok (z, drop n (spelled x ++ q))) same
      ∙ ap (λ (l : List ℕ). Ok (x, l)) (ap (λ (j : ℕ). drop j (spelled x ++ q)) e ∙ drop_front (spelled x) q)

  full : (w q : List ℕ) → common w (w ++ q) ≡ length w
  full w q =
      let k : length w ≤ common (w ++ []) (w ++ q) = common_front w [] q in
      let l : length w ≤ common w (w ++ q) = subst (λ (v : List ℕ). length w ≤ common v (w ++ q)) (append-nil w) k in
      omega (arith, l, (common_most w (w ++ q)).0)

  whole : (x : A) (q : List ℕ) → IsAmong x all → Stops q → found (spelled x ++ q) (last (spelled x ++ q)) ≡ Ok (x, q)
  whole x q i stops =
      let bs = spelled x ++ q in
      let r = begun bs in
      let size : common (spelled x) bs ≡ length (spelled x) = full (spelled x) q in
      let e = ends spelled bs all all (0, None) x i (sym size) in
      let least : length (spelled x) ≤ (last bs).0 = subst (λ (n : ℕ). n ≤ (last bs).0) size e.0 in
      let top : (last bs).0 ≤ length (spelled x) = most r.by in
      let at : (last bs).0 ≡ length (spelled x) = omega (arith, least, top) in
      whole_at x q (last bs) i at r (e.1 (at ∙ sym size))
    where
      most : ((last (spelled x ++ q)).0 ≡ 0) ⊎ ((y : A) × IsAmong y all × (common (spelled y) (spelled x ++ q) ≡ (last (spelled x ++ q)).0))
          → (last (spelled x ++ q)).0 ≤ length (spelled x)
      most (inl e) = omega (arith, e)
      most (inr k) = let n = no_longer x k.0 q i k.1 stops in omega (arith, n, k.2)

  finds : FindsWords more (among_words spelled all)
  finds = record {
    at_end = λ x i. subst (λ (l : List ℕ). found l (last l) ≡ Ok (x, [])) (append-nil (spelled x)) (whole x [] i tt);
    before = λ x b bs i e. whole x (b ∷ bs) i e;
    front = front;
  }

  good_words_of : Good S more (words (among_words spelled all))
  good_words_of = good_words S (among_words spelled all) scanned finds (λ x i. let f = own.first x i in (f.0, f.1, f.2, f.3))

pub good_among : {A : Type 0} (S more : ℕ → Bool) (other : A) (spelled : A → List ℕ) (xs : List A) → AreApart S more spelled xs
    → Good S more (among other spelled xs)
good_among S more other spelled [] own = good_wider S more (good_never other) (λ b e. absurd (cc)) (λ b e. refl)
good_among S more other spelled (x ∷ xs) own = good_words_of S more spelled (x ∷ xs) (x, inl refl) own
