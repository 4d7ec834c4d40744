-- Places in lists.
use Rattle.std.proofs.Common.{◌≡◌, ◌≢◌, ◌⊎◌, ℕ, zero, suc, ◌<◌, ◌+◌, ◌++◌, false, List, [], ◌∷◌, length, length-append, set, take, get_or, refl, sym, ap, ◌∙◌, subst, arith, Option, Some, None, ⊎_elim}
use Rattle.std.specs.Prelude.{slice_get, is_err, Result, Ok, Err, IfErr, IfNone, IfSome, OnErr, OnOk}
use Rattle.std.specs.Result.{result_err}
use Rattle.std.proofs.lemmas.Option.{slice_get_cases, slice_get_within}
use Rattle.turn_lock.proofs.Lists.{each_at, got_front, got_last, got_snoc}

pub some_is : {X : Type 0} (a b : X) → Some a ≡ Some b → a ≡ b
some_is a b e = ap (λ (o : Option _). elim o [ Some x ↦ x | None ↦ a ]) e

pub at_same : {X Y : Type 0} (x y : X) → x ≡ y → (f : X → Y) → f x ≡ f y
at_same x y e f = ap f e

pub carried : {X : Type 0} (x y : X) → x ≡ y → (F : X → Type 0) → F x → F y
carried x y e F h = subst F e h

-- of two at the same number all is the same
pub same_there : {X Y : Type 0} (xs : List X) (i j : ℕ) (a b : X) → slice_get xs i ≡ Some a → i ≡ j → slice_get xs j ≡ Some b → (f : X → Y) → f a ≡ f b
same_there {X} xs i j a b at_i e at_j f = ap f (some_is a b (sym (subst (λ (n : ℕ). slice_get xs n ≡ Some a) e at_i) ∙ at_j))

pub got_set_here : {X : Type 0} (xs : List X) (i : ℕ) (y : X) → i < length xs → slice_get (set xs i y) i ≡ Some y
got_set_here [] i y h = absurd (omega arith)
got_set_here (x ∷ xs) zero y h = refl
got_set_here (x ∷ xs) (suc i) y h = got_set_here xs i y (omega arith)

pub got_set_else : {X : Type 0} (xs : List X) (i k : ℕ) (y : X) → k ≢ i → slice_get (set xs i y) k ≡ slice_get xs k
got_set_else [] i k y h = refl
got_set_else (x ∷ xs) zero zero y h = absurd (h refl)
got_set_else (x ∷ xs) zero (suc k) y h = refl
got_set_else (x ∷ xs) (suc i) zero y h = refl
got_set_else (x ∷ xs) (suc i) (suc k) y h = got_set_else xs i k y (λ e. h (ap suc e))

pub got_low : {X : Type 0} (xs ys : List X) (k : ℕ) (p : X) → slice_get xs k ≡ Some p → slice_get (xs ++ ys) k ≡ Some p
got_low [] ys k p e = absurd (cc)
got_low (x ∷ xs) ys zero p e = e
got_low (x ∷ xs) ys (suc k) p e = got_low xs ys k p e

pub got_middle : {X : Type 0} (xs ys : List X) (y : X) → slice_get (xs ++ y ∷ ys) (length xs) ≡ Some y
got_middle [] ys y = refl
got_middle (x ∷ xs) ys y = got_middle xs ys y

pub got_high : {X : Type 0} (xs ys : List X) (y : X) (k : ℕ) (p : X) → slice_get ys k ≡ Some p → (n : ℕ) × (slice_get (xs ++ y ∷ ys) n ≡ Some p)
got_high [] ys y k p e = (suc k, e)
got_high (x ∷ xs) ys y k p e = let h = got_high xs ys y k p e in (suc h.0, h.1)

-- what holds of each before and after, in three parts
pub all_three : {X : Type 0} (low low' high high' : List X) (one one' : X) (Q : X → X → Type 0) → length low' ≡ length low → Q one one'
    → ((k : ℕ) (p : X) → slice_get low k ≡ Some p → (q : X) × (slice_get low' k ≡ Some q) × Q p q)
    → ((k : ℕ) (p : X) → slice_get high k ≡ Some p → (q : X) × (slice_get high' k ≡ Some q) × Q p q)
    → (k : ℕ) (p : X) → slice_get (low ++ one ∷ high) k ≡ Some p → (q : X) × (slice_get (low' ++ one' ∷ high') k ≡ Some q) × Q p q
all_three [] [] high high' one one' Q len here lows highs zero p e = (one', refl, subst (λ x. Q x one') (some_is one p e) here)
all_three [] [] high high' one one' Q len here lows highs (suc k) p e = highs k p e
all_three [] (y ∷ low') high high' one one' Q len here lows highs k p e = absurd (omega arith)
all_three (x ∷ low) [] high high' one one' Q len here lows highs k p e = absurd (omega arith)
all_three (x ∷ low) (y ∷ low') high high' one one' Q len here lows highs zero p e = lows 0 p e
all_three (x ∷ low) (y ∷ low') high high' one one' Q len here lows highs (suc k) p e =
    all_three low low' high high' one one' Q (omega arith) here (λ n. lows (suc n)) highs k p e

pub there_at : {X : Type 0} (xs : List X) (i : ℕ) → i < length xs → (x : X) × (slice_get xs i ≡ Some x)
there_at {X} xs i below =
    ⊎_elim (λ (h : (x : X) × (i < length xs) × (slice_get xs i ≡ Some x) × (get_or xs i x ≡ x)). (h.0, h.2)) (λ h. absurd (omega arith))
    (slice_get_cases xs i).1

pub taken_whole : {X : Type 0} (xs ys : List X) (n : ℕ) → n ≡ length xs → take n (xs ++ ys) ≡ xs
taken_whole [] ys zero e = refl
taken_whole [] ys (suc n) e = absurd (omega arith)
taken_whole (x ∷ xs) ys zero e = absurd (omega arith)
taken_whole (x ∷ xs) ys (suc n) e = ap (λ zs. x ∷ zs) (taken_whole xs ys n (omega arith))

-- what holds where a call didn't fail
pub ok_there : {A E : Type 0} (r : Result A E) (P : Type 0) → OnOk r P → is_err r ≡ false → P
ok_there (Ok a) P p e = p
ok_there (Err x) P p e = absurd cc

pub ok_at : {A E : Type 0} (r : Result A E) (a : A) (P : Type 0) → OnOk r P → r ≡ Ok a → P
ok_at (Ok b) a P p e = p
ok_at (Err x) a P p e = absurd cc

-- what holds anyway holds where there is none
pub if_none_of : {A : Type 0} (o : Option A) (P : Type 0) → P → IfNone o P
if_none_of None P p = p
if_none_of (Some x) P p = tt

pub empty_of : {X : Type 0} (xs : List X) → length xs ≡ 0 → xs ≡ []
empty_of [] e = refl
empty_of (x ∷ xs) e = absurd (omega arith)

pub if_err_at : {A E : Type 0} (r : Result A E) (e : E) (P : E → Type 0) → IfErr r P → r ≡ Err e → P e
if_err_at (Ok a) e P p is = absurd cc
if_err_at (Err x) e P p is = let same : x ≡ e = cc in subst P same p

-- ## The cause for which a call failed, if it did

pub err_some : {A E : Type 0} (r : Result A E) (o : Option E) (Q : Type 0) → o ≡ result_err r → OnErr r Q → IfSome o (λ e. Q)
err_some {A} {E} r o Q is h = subst (λ (p : Option E). IfSome p (λ e. Q)) (sym is) (go r h)
  where
    go : (s : Result A E) → OnErr s Q → IfSome (result_err s) (λ e. Q)
    go (Ok a) q = tt
    go (Err e) q = q

pub ok_none : {A E : Type 0} (r : Result A E) (o : Option E) (Q : Type 0) → o ≡ result_err r → OnOk r Q → IfNone o Q
ok_none {A} {E} r o Q is h = subst (λ (p : Option E). IfNone p Q) (sym is) (go r h)
  where
    go : (s : Result A E) → OnOk s Q → IfNone (result_err s) Q
    go (Ok a) q = q
    go (Err e) q = tt

pub err_is : {A E : Type 0} (r : Result A E) (o : Option E) (why : E) → o ≡ result_err r → o ≡ Some why → r ≡ Err why
err_is {A} {E} r o why is some = go r (sym is ∙ some)
  where
    go : (s : Result A E) → result_err s ≡ Some why → s ≡ Err why
    go (Ok a) e = absurd cc
    go (Err x) e = ap (λ (y : E). Err y) (some_is x why e)

-- ## A list that grows by one

pub got_in : {X : Type 0} (xs ys : List X) (k : ℕ) (p : X) → xs ≡ ys → slice_get xs k ≡ Some p → slice_get ys k ≡ Some p
got_in {X} xs ys k p e got = subst (λ (zs : List X). slice_get zs k ≡ Some p) e got

pub longer : {X : Type 0} (xs ys : List X) (x : X) → ys ≡ xs ++ x ∷ [] → length ys ≡ length xs + 1
longer xs ys x e = ap length e ∙ length-append xs (x ∷ [])

-- its last, at this number
pub last_at : {X : Type 0} (xs ys : List X) (x : X) (n : ℕ) → ys ≡ xs ++ x ∷ [] → length xs ≡ n → slice_get ys n ≡ Some x
last_at {X} xs ys x n e len = subst (λ (m : ℕ). slice_get ys m ≡ Some x) len (got_in (xs ++ x ∷ []) ys (length xs) x (sym e) (got_last xs x))

-- and the others
pub front_at : {X : Type 0} (xs ys : List X) (x : X) (k : ℕ) (p : X) → ys ≡ xs ++ x ∷ [] → slice_get xs k ≡ Some p → slice_get ys k ≡ Some p
front_at xs ys x k p e got = got_in (xs ++ x ∷ []) ys k p (sym e) (got_front xs x p k got)

-- one of it is its last, or was there before
pub of_longer : {X : Type 0} (xs ys : List X) (x : X) (k : ℕ) (p : X) → ys ≡ xs ++ x ∷ [] → slice_get ys k ≡ Some p
    → (slice_get xs k ≡ Some p) ⊎ ((x ≡ p) × (k ≡ length xs))
of_longer xs ys x k p e got = got_snoc xs x p k (got_in ys (xs ++ x ∷ []) k p e got)

-- what holds of each holds of a longer list
pub each_more : {X : Type 0} (xs ys : List X) (x : X) → ys ≡ xs ++ x ∷ [] → (F : ℕ → X → Type 0)
    → ((k : ℕ) (p : X) → slice_get xs k ≡ Some p → F k p) → F (length xs) x → (k : ℕ) (p : X) → slice_get ys k ≡ Some p → F k p
each_more xs ys x e F all last k p got = each_at F xs x all last k p (got_in ys (xs ++ x ∷ []) k p e got)

-- and what holds of each two of the same number in two lists
pub both_more : {X Y : Type 0} (xs xs' : List X) (x : X) (ys ys' : List Y) (y : Y) → xs' ≡ xs ++ x ∷ [] → ys' ≡ ys ++ y ∷ [] → length ys ≡ length xs
    → (F : ℕ → X → Y → Type 0) → ((k : ℕ) (p : X) (q : Y) → slice_get xs k ≡ Some p → slice_get ys k ≡ Some q → F k p q) → F (length xs) x y
    → (k : ℕ) (p : X) (q : Y) → slice_get xs' k ≡ Some p → slice_get ys' k ≡ Some q → F k p q
both_more xs xs' x ys ys' y e f len F all last k p q got_p got_q = ⊎_elim
    (λ here. ⊎_elim
    (λ there. all k p q here there)
    (λ (l : (y ≡ q) × (k ≡ length ys)). absurd (let w = slice_get_within xs k p here in omega (arith, w, len, l.1)))
    (of_longer ys ys' y k q f got_q))
    (λ (l : (x ≡ p) × (k ≡ length xs)). ⊎_elim
    (λ there. absurd (let w = slice_get_within ys k q there in omega (arith, w, len, l.1)))
    (λ (m : (y ≡ q) × (k ≡ length ys)). subst (λ n. F n p q) (sym l.1) (subst (F (length xs) p) m.0 (subst (λ z. F (length xs) z y) l.0 last)))
    (of_longer ys ys' y k q f got_q))
    (of_longer xs xs' x k p e got_p)
