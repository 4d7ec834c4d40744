-- Names by their numbers in a list.
use Rattle.std.proofs.Common.{◌≡◌, ◌<◌, ◌≤◌, ◌+◌, ℕ, suc, List, [], ◌∷◌, ◌++◌, length, refl, sym, ◌∙◌, ap, arith, append_assoc, append-nil}
use Rattle.std.specs.Prelude.{Bool, true, false, ◌||◌, Option, Some, None, if◌then◌else◌, slice_get}
use Rattle.std.specs.Option.{option_map, option_or}
use Rattle.std.specs.Map.{update}
use Rattle.std.specs.Str.{bytes_eq}
use Rattle.std.proofs.lemmas.Slice.Eq.{bytes_eq-Decides}
use Rattle.call_script.specs.Script.{has_name, doubled}
use Rattle.call_script.specs.steps.Names.{number_of}

pub or_none : {A : Type 0} (o : Option A) → option_or o None ≡ o
or_none None = refl
or_none (Some x) = refl

-- whether two texts are the same does not depend on their order
pub same_order : (x y : List ℕ) (b c : Bool) → bytes_eq x y ≡ b → bytes_eq y x ≡ c → b ≡ c
same_order x y true true h g = refl
same_order x y false false h g = refl
same_order x y true false h g = let e = (bytes_eq-Decides x y).0 h in sym ((bytes_eq-Decides y x).1 (sym e)) ∙ g
same_order x y false true h g = let e = (bytes_eq-Decides y x).0 g in sym h ∙ (bytes_eq-Decides x y).1 (sym e)

-- a name that had no number has the one that was noted, and the others have theirs
pub noted : (old new : List ℕ → Option ℕ) (name : List ℕ) (number : ℕ)
    → old name ≡ None → (q : List ℕ) → new q ≡ update bytes_eq old name (Some number) q
    → new q ≡ option_or (old q) (if bytes_eq q name then Some number else None)
noted old new name number fresh q e = go (bytes_eq q name) refl
  where
    go : (b : Bool) → bytes_eq q name ≡ b → new q ≡ option_or (old q) (if b then Some number else None)
    go true h =
        let is : q ≡ name = (bytes_eq-Decides q name).0 h in
        let back : bytes_eq name q ≡ true = (bytes_eq-Decides name q).1 (sym is) in
        let there : new q ≡ Some number = rw back at e in
        let none : old q ≡ None = ap old is ∙ fresh in
        rw none there
    go false h =
        let back : bytes_eq name q ≡ false = sym (same_order q name false (bytes_eq name q) h refl) in
        let kept : new q ≡ old q = rw back at e in
        kept ∙ sym (or_none (old q))

-- the number in two lists: in the first, else behind it
pub number_append : (q : List ℕ) (xs ys : List (List ℕ))
    → number_of q (xs ++ ys) ≡ option_or (number_of q xs) (option_map (λ (n : ℕ). length xs + n) (number_of q ys))
number_append q [] ys = go (number_of q ys)
  where
    go : (o : Option ℕ) → o ≡ option_map (λ (n : ℕ). 0 + n) o
    go None = refl
    go (Some n) = ap Some (omega arith)
number_append q (x ∷ xs) ys = go (bytes_eq q x) (number_of q xs) (number_of q ys) (number_append q xs ys)
  where
    go : (b : Bool) (o e : Option ℕ) → number_of q (xs ++ ys) ≡ option_or o (option_map (λ (n : ℕ). length xs + n) e)
        → (if b then Some 0 else option_map (λ (n : ℕ). n + 1) (number_of q (xs ++ ys)))
        ≡ option_or (if b then Some 0 else option_map (λ (n : ℕ). n + 1) o) (option_map (λ (n : ℕ). suc (length xs) + n) e)
    go true o e h = refl
    go false (Some n) e h = rw h refl
    go false None None h = rw h refl
    go false None (Some n) h = rw h (ap Some (omega arith))

-- the number of a name is below their count
pub number_within : (q : List ℕ) (xs : List (List ℕ)) (n : ℕ) → number_of q xs ≡ Some n → n < length xs
number_within q [] n e = absurd cc
number_within q (x ∷ xs) n e = go (bytes_eq q x) (number_of q xs) (λ m h. number_within q xs m h) e
  where
    go : (b : Bool) (o : Option ℕ) → ((m : ℕ) → o ≡ Some m → m < length xs)
        → (if b then Some 0 else option_map (λ (n : ℕ). n + 1) o) ≡ Some n → n < suc (length xs)
    go true o inner f = let z : 0 ≡ n = cc in omega (arith, z)
    go false None inner f = absurd cc
    go false (Some m) inner f = let z : m + 1 ≡ n = cc in let w = inner m refl in omega (arith, z, w)

-- the name under its number
pub named_of : (q : List ℕ) (xs : List (List ℕ)) (n : ℕ) → number_of q xs ≡ Some n → slice_get xs n ≡ Some q
named_of q [] n e = absurd cc
named_of q (x ∷ xs) n e = go (bytes_eq q x) (number_of q xs) refl (λ m h. named_of q xs m h) e
  where
    go : (b : Bool) (o : Option ℕ) → bytes_eq q x ≡ b → ((m : ℕ) → o ≡ Some m → slice_get xs m ≡ Some q)
        → (if b then Some 0 else option_map (λ (n : ℕ). n + 1) o) ≡ Some n → slice_get (x ∷ xs) n ≡ Some q
    go true o t inner f = let z : n ≡ 0 = cc in let is : q ≡ x = (bytes_eq-Decides q x).0 t in rw z (ap Some (sym is))
    go false None t inner f = absurd cc
    go false (Some m) t inner f = let z : n ≡ suc m = let y : m + 1 ≡ n = cc in omega (arith, y) in rw z (inner m refl)

-- a name stands in a list exactly where it has a number
pub has_none : (q : List ℕ) (xs : List (List ℕ)) → number_of q xs ≡ None → has_name xs q ≡ false
has_none q [] e = refl
has_none q (x ∷ xs) e = go (bytes_eq q x) (number_of q xs) (λ h. has_none q xs h) e
  where
    go : (b : Bool) (o : Option ℕ) → (o ≡ None → has_name xs q ≡ false)
        → (if b then Some 0 else option_map (λ (n : ℕ). n + 1) o) ≡ None → (b || has_name xs q) ≡ false
    go true o inner f = absurd cc
    go false None inner f = inner refl
    go false (Some m) inner f = absurd cc

pub has_some : (q : List ℕ) (xs : List (List ℕ)) (n : ℕ) → number_of q xs ≡ Some n → has_name xs q ≡ true
has_some q [] n e = absurd cc
has_some q (x ∷ xs) n e = go (bytes_eq q x) (number_of q xs) (λ m h. has_some q xs m h) e
  where
    go : (b : Bool) (o : Option ℕ) → ((m : ℕ) → o ≡ Some m → has_name xs q ≡ true)
        → (if b then Some 0 else option_map (λ (n : ℕ). n + 1) o) ≡ Some n → (b || has_name xs q) ≡ true
    go true o inner f = refl
    go false None inner f = absurd cc
    go false (Some m) inner f = inner m refl

-- one more name behind others
pub number_more : (q name : List ℕ) (xs : List (List ℕ))
    → number_of q (xs ++ name ∷ []) ≡ option_or (number_of q xs) (if bytes_eq q name then Some (length xs) else None)
number_more q name xs = number_append q xs (name ∷ []) ∙ ap (option_or (number_of q xs)) (go (bytes_eq q name))
  where
    go : (b : Bool) → option_map (λ (n : ℕ). length xs + n) (if b then Some 0 else option_map (λ (n : ℕ). n + 1) None) ≡ (if b then Some (length xs) else None)
    go true = ap Some (omega arith)
    go false = refl

-- one more name to be set
pub doubled_more : (names xs : List (List ℕ)) (x : List ℕ) → doubled names (xs ++ x ∷ []) ≡ (doubled names xs || has_name (names ++ xs) x)
doubled_more names [] x = rw (append-nil names) (go (has_name names x))
  where
    go : (b : Bool) → (b || false) ≡ b
    go true = refl
    go false = refl
doubled_more names (y ∷ xs) x =
    ap (λ t. has_name names y || t) (doubled_more (names ++ y ∷ []) xs x)
    ∙ (go (has_name names y) (doubled (names ++ y ∷ []) xs) (has_name ((names ++ y ∷ []) ++ xs) x)
    ∙ ap (λ l. (has_name names y || doubled (names ++ y ∷ []) xs) || has_name l x) (append_assoc names (y ∷ []) xs))
  where
    go : (a b c : Bool) → (a || (b || c)) ≡ ((a || b) || c)
    go true b c = refl
    go false b c = refl

-- where an early name is set again, so is one of all
pub doubled_front : (names xs ys : List (List ℕ)) → doubled names xs ≡ true → doubled names (xs ++ ys) ≡ true
doubled_front names [] ys e = absurd cc
doubled_front names (x ∷ xs) ys e = go (has_name names x) (λ h. doubled_front (names ++ x ∷ []) xs ys h) e
  where
    go : (b : Bool) → (doubled (names ++ x ∷ []) xs ≡ true → doubled (names ++ x ∷ []) (xs ++ ys) ≡ true)
        → (b || doubled (names ++ x ∷ []) xs) ≡ true → (b || doubled (names ++ x ∷ []) (xs ++ ys)) ≡ true
    go true inner h = refl
    go false inner h = inner h

-- a name in front, found among all
pub number_front : (q : List ℕ) (names own : List (List ℕ)) (n : ℕ) → number_of q (names ++ own) ≡ Some n → n < length names → number_of q names ≡ Some n
number_front q names own n e h = go (number_of q names) (number_of q own) refl (sym (number_append q names own) ∙ e)
  where
    go : (o p : Option ℕ) → number_of q names ≡ o → option_or o (option_map (λ (k : ℕ). length names + k) p) ≡ Some n → o ≡ Some n
    go (Some m) p k f = f
    go None None k f = absurd cc
    go None (Some m) k f = let z : length names + m ≡ n = cc in absurd (omega (arith, z, h))

-- none in front where it is found behind, or nowhere
pub number_behind : (q : List ℕ) (names own : List (List ℕ)) (n : ℕ) → number_of q (names ++ own) ≡ Some n → length names ≤ n → number_of q names ≡ None
number_behind q names own n e h = go (number_of q names) (number_of q own) refl (sym (number_append q names own) ∙ e)
  where
    go : (o p : Option ℕ) → number_of q names ≡ o → option_or o (option_map (λ (k : ℕ). length names + k) p) ≡ Some n → o ≡ None
    go None p k f = refl
    go (Some m) p k f = let z : m ≡ n = cc in let w = number_within q names m k in absurd (omega (arith, z, w, h))

pub number_nowhere : (q : List ℕ) (names own : List (List ℕ)) → number_of q (names ++ own) ≡ None → number_of q names ≡ None
number_nowhere q names own e = go (number_of q names) (number_of q own) refl (sym (number_append q names own) ∙ e)
  where
    go : (o p : Option ℕ) → number_of q names ≡ o → option_or o (option_map (λ (k : ℕ). length names + k) p) ≡ None → o ≡ None
    go None p k f = refl
    go (Some m) p k f = absurd cc

-- a name of the front stands at its number in all
pub named_front : (q : List ℕ) (names own : List (List ℕ)) (n : ℕ) → number_of q names ≡ Some n → slice_get (names ++ own) n ≡ Some q
named_front q names own n e = named_of q (names ++ own) n
    (number_append q names own ∙ ap (λ (o : Option ℕ). option_or o (option_map (λ (k : ℕ). length names + k) (number_of q own))) e)
