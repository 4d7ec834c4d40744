-- What two lists have in common, byte by byte.
use Rattle.std.proofs.Common.{◌≡◌, ◌≢◌, ℕ, suc, ◌+◌, ◌-◌, ◌<◌, ◌≤◌, Err, List, [], ◌∷◌, length, drop, get_or, Bool, true, false, cond, ◌==◌, refl}
use Rattle.std.proofs.Common.{sym, ap, ◌∙◌, arith, add-one, drop-cons}
use Rattle.std.proofs.Math.Seq.{drop-length}
use Rattle.std.proofs.lemmas.Bool.Decides.{nat_tests}
use Rattle.std.specs.Prelude.{nat_lt, Some, None}
use Rattle.byte_rules.specs.Among.{common, Near, nearer, nearest, found, among}
use Rattle.byte_rules.proofs.Among.{common_most}

-- so many are the same, and so many behind them
abbrev pub so_far : List ℕ → List ℕ → ℕ → ℕ
so_far word bs n = n + common (drop n word) (drop n bs)

cut : (l : List ℕ) (i : ℕ) → i < length l → drop i l ≡ get_or l i 0 ∷ drop (i + 1) l
cut l i lt = rw (add-one, drop-cons l i 0) refl

pub goes : (word bs : List ℕ) (i total : ℕ) → i < length word → i < length bs → get_or word i 0 ≡ get_or bs i 0 → so_far word bs i ≡ total
    → so_far word bs (i + 1) ≡ total
goes word bs i total w b e so =
    let same : (get_or word i 0 == get_or bs i 0) ≡ true = grind (arith, nat_tests) in
    let here : common (drop i word) (drop i bs) ≡ suc (common (drop (i + 1) word) (drop (i + 1) bs)) = rw (cut word i w, cut bs i b, same) refl in
    omega (arith, here, so)

pub differs : (word bs : List ℕ) (i total : ℕ) → i < length word → i < length bs → get_or word i 0 ≢ get_or bs i 0 → so_far word bs i ≡ total → i ≡ total
differs word bs i total w b e so =
    let other : (get_or word i 0 == get_or bs i 0) ≡ false = grind (arith, nat_tests) in
    let here : common (drop i word) (drop i bs) ≡ 0 = rw (cut word i w, cut bs i b, other) refl in
    omega (arith, here, so)

no_common : (w : List ℕ) → common w [] ≡ 0
no_common [] = refl
no_common (a ∷ w) = refl

pub word_ends : (word bs : List ℕ) (i total : ℕ) → i ≤ length word → length word ≤ i → so_far word bs i ≡ total → i ≡ total
word_ends word bs i total l le so =
    let at : i ≡ length word = omega (arith, l, le) in
    let here : common (drop i word) (drop i bs) ≡ 0 = ap (λ (w : List ℕ). common w (drop i bs)) (ap (λ (j : ℕ). drop j word) at ∙ drop-length word) in
    omega (arith, here, so)

pub bytes_end : (word bs : List ℕ) (i total : ℕ) → i ≤ length bs → length bs ≤ i → so_far word bs i ≡ total → i ≡ total
bytes_end word bs i total l le so =
    let at : i ≡ length bs = omega (arith, l, le) in
    let here : common (drop i word) (drop i bs) ≡ 0 =
    ap (λ (w : List ℕ). common (drop i word) w) (ap (λ (j : ℕ). drop j bs) at ∙ drop-length bs) ∙ no_common (drop i word) in
    omega (arith, here, so)

-- a front of so many bytes at most stays one
pub nearer_within : {A : Type 0} (word bs : List ℕ) (x : A) (near : Near A) → near.0 ≤ length bs → (nearer word bs x near).0 ≤ length bs
nearer_within {A} word bs x near le = of (nat_lt n near.0) (length word == n) (n == near.0)
  where
    n : ℕ
    n = common word bs

    of : (u v w : Bool) → (cond u near (cond v (n, Some x) (cond w near (n, None)))).0 ≤ length bs
    of true v w = le
    of false true w = (common_most word bs).1
    of false false true = le
    of false false false = (common_most word bs).1

-- the read value of words of a list
pub among_read : {A : Type 0} (other : A) (spelled : A → List ℕ) (xs : List A) (bs : List ℕ)
    → (among other spelled xs).read bs ≡ found bs (nearest spelled bs (0, None) xs)
among_read other spelled [] [] = refl
among_read other spelled [] (b ∷ bs) = let e : suc (length bs) - 0 ≡ suc (length bs) = omega arith in ap (λ (n : ℕ). Err n) (sym e)
among_read other spelled (x ∷ xs) bs = refl
