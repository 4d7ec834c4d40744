-- Members along their ordinals: where none is lacking and none stands twice, each stands at the place of its ordinal.
use Rattle.std.proofs.Common.{◌≡◌, ◌<◌, ◌≤◌, ◌+◌, ℕ, zero, suc, List, [], ◌∷◌, length, refl, sym, ◌∙◌, ap, subst, inl, inr, arith}
use Rattle.std.specs.Prelude.{◌⊎◌, Bool, true, false, not, ◌||◌, ◌==◌, nat_lt, cond, if◌then◌else◌, slice_get, find, Some, None}
use Rattle.std.specs.List.{AllByRecursion, fold, range_with_len}
use Rattle.std.proofs.lemmas.Bool.{eqb-true, eqb-false, ne_eqb, ltb-true, ltb-false}
use Rattle.std.proofs.lemmas.Option.{same_Some, none-some, slice_get_within}
use Rattle.kind_scope.specs.Members.{Numbered}
use Rattle.kind_refusals.specs.OrdinalRefusals.{is_among, ordinals_of, lacking}
use Rattle.kind_scope.specs.Members.{place, along_ordinals}
use Rattle.schema_laws.proofs.Among.{IsAmong, place_of}
use Rattle.schema_laws.proofs.Quiet.{among_range}
use Rattle.schema_laws.proofs.Each.{all_placed}
use Rattle.written_laws.proofs.Apart.{AreDistinct}

abbrev by : Numbered → ℕ
by one = one.ordinal

-- placing

-- the ordinals rise, and none is below this number
abbrev AreRising : ℕ → List Numbered → Type 0
AreRising low [] = Unit {0}
AreRising low (one ∷ others) = (low ≤ one.ordinal) × AreRising (one.ordinal + 1) others

above : (x y : ℕ) → y ≤ x → (x ≡ y → ⊥) → y + 1 ≤ x
above x y up differ = omega (arith, up, differ)

placed_rising : (low : ℕ) (xs : List Numbered) (x : Numbered) → low ≤ x.ordinal → AreRising low xs → AreRising low (place by xs x)
placed_rising low [] x up rising = (up, tt)
placed_rising low (y ∷ ys) x up rising =
    go (nat_lt x.ordinal y.ordinal) refl (x.ordinal == y.ordinal) refl (λ more. placed_rising (y.ordinal + 1) ys x more rising.1)
  where
    go : (less : Bool) → nat_lt x.ordinal y.ordinal ≡ less → (same : Bool) → (x.ordinal == y.ordinal) ≡ same
        → (y.ordinal + 1 ≤ x.ordinal → AreRising (y.ordinal + 1) (place by ys x))
        → AreRising low (if less then x ∷ y ∷ ys else (if same then x ∷ ys else y ∷ place by ys x))
    go true is same e rest = let lt = ltb-true x.ordinal y.ordinal is in (up, (omega (arith, lt), rising.1))
    go false is true e rest = (up, subst (λ (n : ℕ). AreRising (n + 1) ys) (sym (eqb-true x.ordinal y.ordinal e)) rising.1)
    go false is false e rest =
        (rising.0, rest (above x.ordinal y.ordinal (ltb-false x.ordinal y.ordinal is) (eqb-false x.ordinal y.ordinal e)))

folded_rising : (done ones : List Numbered) → AreRising 0 done → AreRising 0 (fold (place by) done ones)
folded_rising done [] rising = rising
folded_rising done (x ∷ xs) rising = folded_rising (place by done x) xs (placed_rising 0 done x (omega arith) rising)

placed_one : (xs : List Numbered) (x : Numbered) → IsAmong (place by xs x) x
placed_one [] x = inl refl
placed_one (y ∷ ys) x = go (nat_lt x.ordinal y.ordinal) (x.ordinal == y.ordinal) (placed_one ys x)
  where
    go : (less same : Bool) → IsAmong (place by ys x) x → IsAmong (if less then x ∷ y ∷ ys else (if same then x ∷ ys else y ∷ place by ys x)) x
    go true same rest = inl refl
    go false true rest = inl refl
    go false false rest = inr rest

placed_others : (xs : List Numbered) (x other : Numbered) → AllByRecursion (λ (o : Numbered). (x.ordinal == o.ordinal) ≡ false) xs
    → IsAmong xs other → IsAmong (place by xs x) other
placed_others [] x other differ among = absurd among
placed_others (y ∷ ys) x other differ among =
    go (nat_lt x.ordinal y.ordinal) (x.ordinal == y.ordinal) differ.0 among (λ back. placed_others ys x other differ.1 back)
  where
    go : (less same : Bool) → same ≡ false → IsAmong (y ∷ ys) other → (IsAmong ys other → IsAmong (place by ys x) other)
        → IsAmong (if less then x ∷ y ∷ ys else (if same then x ∷ ys else y ∷ place by ys x)) other
    go true same e which rest = inr which
    go false true e which rest = absurd cc
    go false false e (inl is) rest = inl is
    go false false e (inr back) rest = inr (rest back)

flipped : (n m : ℕ) → (n == m) ≡ false → (m == n) ≡ false
flipped n m e = ne_eqb m n (λ same. eqb-false n m e (sym same))

-- one that differs from those that are placed and from the next differs from all of them
further : (done others : List Numbered) (one : Numbered)
    → AllByRecursion (λ (o : Numbered). AllByRecursion (λ (other : Numbered). (o.ordinal == other.ordinal) ≡ false) done) others
    → AllByRecursion (λ (o : Numbered). (one.ordinal == o.ordinal) ≡ false) others
    → AllByRecursion (λ (o : Numbered). AllByRecursion (λ (other : Numbered). (o.ordinal == other.ordinal) ≡ false) (place by done one)) others
further done [] one old new = tt
further done (o ∷ os) one old new = (
  all_placed (λ (other : Numbered). (o.ordinal == other.ordinal) ≡ false) by done one old.0 (flipped one.ordinal o.ordinal new.0),
  further done os one old.1 new.1,
)

folded_among : (done ones : List Numbered) → AreDistinct ones
    → AllByRecursion (λ (o : Numbered). AllByRecursion (λ (other : Numbered). (o.ordinal == other.ordinal) ≡ false) done) ones
    → (x : Numbered) → IsAmong done x ⊎ IsAmong ones x → IsAmong (fold (place by) done ones) x
folded_among done [] distinct differ x (inl front) = front
folded_among done [] distinct differ x (inr back) = absurd back
folded_among done (one ∷ others) distinct differ x which =
    folded_among (place by done one) others distinct.1 (further done others one differ.1 distinct.0) x (go which)
  where
    go : IsAmong done x ⊎ IsAmong (one ∷ others) x → IsAmong (place by done one) x ⊎ IsAmong others x
    go (inl front) = inl (placed_others done one x differ.0 front)
    go (inr (inl same)) = inl (subst (IsAmong (place by done one)) same (placed_one done one))
    go (inr (inr back)) = inr back

none_before : (ones : List Numbered) → AllByRecursion (λ (o : Numbered). AllByRecursion (λ (other : Numbered). (o.ordinal == other.ordinal) ≡ false) []) ones
none_before [] = tt
none_before (one ∷ others) = (tt, none_before others)

placed_long : (xs : List Numbered) (x : Numbered) → AllByRecursion (λ (o : Numbered). (x.ordinal == o.ordinal) ≡ false) xs
    → length (place by xs x) ≡ suc (length xs)
placed_long [] x differ = refl
placed_long (y ∷ ys) x differ = go (nat_lt x.ordinal y.ordinal) (x.ordinal == y.ordinal) differ.0 (placed_long ys x differ.1)
  where
    go : (less same : Bool) → same ≡ false → length (place by ys x) ≡ suc (length ys)
        → length (if less then x ∷ y ∷ ys else (if same then x ∷ ys else y ∷ place by ys x)) ≡ suc (suc (length ys))
    go true same e rest = refl
    go false true e rest = absurd cc
    go false false e rest = ap suc rest

folded_long : (done ones : List Numbered) → AreDistinct ones
    → AllByRecursion (λ (o : Numbered). AllByRecursion (λ (other : Numbered). (o.ordinal == other.ordinal) ≡ false) done) ones
    → length (fold (place by) done ones) ≡ length done + length ones
folded_long done [] distinct differ = omega arith
folded_long done (one ∷ others) distinct differ =
    let here = placed_long done one differ.0 in
    let rest = folded_long (place by done one) others distinct.1 (further done others one differ.1 distinct.0) in
    let more : length (one ∷ others) ≡ suc (length others) = refl in
    omega (arith, here, rest, more)

-- along their ordinals there are as many
pub along_long : (ones : List Numbered) → AreDistinct ones → length (along_ordinals ones) ≡ length ones
along_long ones distinct = let sum : length (along_ordinals ones) ≡ 0 + length ones = folded_long [] ones distinct (none_before ones) in omega (arith, sum)

-- places

-- one of these has this ordinal
pub record HasOrdinal (ones : List Numbered) (ordinal : ℕ) : Type 0 where
  pub of : Numbered
  pub among : IsAmong ones of
  pub is : of.ordinal ≡ ordinal

low_among : (low : ℕ) (xs : List Numbered) (x : Numbered) → AreRising low xs → IsAmong xs x → low ≤ x.ordinal
low_among low [] x rising among = absurd among
low_among low (y ∷ ys) x rising (inl same) = subst (λ (z : Numbered). low ≤ z.ordinal) same rising.0
low_among low (y ∷ ys) x rising (inr back) =
    let more = low_among (y.ordinal + 1) ys x rising.1 back in
    let up = rising.0 in
    omega (arith, more, up)

first_low : (low : ℕ) (y : Numbered) (ys : List Numbered) → AreRising low (y ∷ ys) → HasOrdinal (y ∷ ys) low → y.ordinal ≡ low
first_low low y ys rising has = go has.among
  where
    go : IsAmong (y ∷ ys) has.of → y.ordinal ≡ low
    go (inl same) = ap by same ∙ has.is
    go (inr back) =
        let more = low_among (y.ordinal + 1) ys has.of rising.1 back in
        let up = rising.0 in
        let is = has.is in
        let bad : ⊥ = omega (arith, more, up, is) in
        absurd bad

later_has : (y : Numbered) (ys : List Numbered) (k : ℕ) → y.ordinal + 1 ≤ k → HasOrdinal (y ∷ ys) k → HasOrdinal ys k
later_has y ys k up has = go has.among
  where
    go : IsAmong (y ∷ ys) has.of → HasOrdinal ys k
    go (inl same) =
        let is : y.ordinal ≡ k = ap by same ∙ has.is in
        let bad : ⊥ = omega (arith, up, is) in
        absurd bad
    go (inr back) = record { of = has.of; among = back; is = has.is }

-- rising ordinals of which none is lacking go up by one
places : (low : ℕ) (xs : List Numbered) → AreRising low xs → ((k : ℕ) → low ≤ k → k < low + length xs → HasOrdinal xs k)
    → (p : ℕ) (x : Numbered) → slice_get xs p ≡ Some x → x.ordinal ≡ low + p
places low [] rising all p x at = absurd (none-some x at)
places low (y ∷ ys) rising all zero x at =
    let first = first_low low y ys rising (all low (omega arith) (omega arith)) in
    let same = ap by (same_Some y x at) in
    omega (arith, first, same)
places low (y ∷ ys) rising all (suc q) x at =
    let first = first_low low y ys rising (all low (omega arith) (omega arith)) in
    let rest = places (y.ordinal + 1) ys rising.1
    (λ k from to. later_has y ys k from (all k (omega (arith, from, first)) (omega (arith, to, first)))) q x at in
    omega (arith, rest, first)

-- along the ordinals it stands at its own
pub record Stands (ones : List Numbered) (one : Numbered) : Type 0 where
  pub at : slice_get (along_ordinals ones) one.ordinal ≡ Some one
  pub below : one.ordinal < length ones

stands : (ones : List Numbered) → AreDistinct ones → ((k : ℕ) → k < length ones → HasOrdinal ones k) → (one : Numbered) → IsAmong ones one
    → Stands ones one
stands ones distinct all one among =
    let short = along_long ones distinct in
    let there : (x : Numbered) → IsAmong ones x → IsAmong (along_ordinals ones) x =
    λ x is. folded_among [] ones distinct (none_before ones) x (inr is) in
    let cover : (k : ℕ) → 0 ≤ k → k < 0 + length (along_ordinals ones) → HasOrdinal (along_ordinals ones) k =
    λ k from to. let h = all k (omega (arith, to, short)) in record { of = h.of; among = there h.of h.among; is = h.is } in
    let p = place_of (along_ordinals ones) one (there one among) in
    let is = places 0 (along_ordinals ones) (folded_rising [] ones tt) cover p.place one p.is in
    let within = slice_get_within (along_ordinals ones) p.place one p.is in
    let same : one.ordinal ≡ p.place = omega (arith, is) in
    record {
      at = ap (slice_get (along_ordinals ones)) same ∙ p.is;
      below = omega (arith, same, within, short);
    }

-- what is lacking

none_found : {A : Type 0} (test : A → Bool) (xs : List A) → find test xs ≡ None → (x : A) → IsAmong xs x → test x ≡ false
none_found {A} test [] e x among = absurd among
none_found {A} test (y ∷ ys) e x among = go (test y) refl e among (λ rest back. none_found test ys rest x back)
  where
    go : (b : Bool) → test y ≡ b → cond b (Some y) (find test ys) ≡ None → IsAmong (y ∷ ys) x
        → (find test ys ≡ None → IsAmong ys x → test x ≡ false) → test x ≡ false
    go true is found which rest = absurd cc
    go false is found (inl same) rest = subst (λ (z : A). test z ≡ false) same is
    go false is found (inr back) rest = rest found back

true_of : (b : Bool) → not b ≡ false → b ≡ true
true_of true e = refl
true_of false e = absurd cc

has_ordinal : (ones : List Numbered) (k : ℕ) → is_among (ordinals_of ones) k ≡ true → HasOrdinal ones k
has_ordinal [] k e = absurd cc
has_ordinal (one ∷ others) k e = go (one.ordinal == k) refl e (has_ordinal others k)
  where
    go : (b : Bool) → (one.ordinal == k) ≡ b → (b || is_among (ordinals_of others) k) ≡ true
        → (is_among (ordinals_of others) k ≡ true → HasOrdinal others k) → HasOrdinal (one ∷ others) k
    go true is among rest = record { of = one; among = inl refl; is = eqb-true one.ordinal k is }
    go false is among rest = let h = rest among in record { of = h.of; among = inr h.among; is = h.is }

cover : (ones : List Numbered) → lacking ones ≡ None → (k : ℕ) → k < length ones → HasOrdinal ones k
cover ones e k below =
    let zero_on : 0 + k ≡ k = omega arith in
    let among : IsAmong (range_with_len 0 (length ones)) k =
    subst (IsAmong (range_with_len 0 (length ones))) zero_on (among_range 0 (length ones) k below) in
    has_ordinal ones k (true_of (is_among (ordinals_of ones) k)
    (none_found (λ (ordinal : ℕ). not (is_among (ordinals_of ones) ordinal)) (range_with_len 0 (length ones)) e k among))

-- where no ordinal is lacking and none stands twice
pub each_stands : (ones : List Numbered) → AreDistinct ones → lacking ones ≡ None → (one : Numbered) → IsAmong ones one → Stands ones one
each_stands ones distinct e one among = stands ones distinct (cover ones e) one among
