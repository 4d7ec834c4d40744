-- The names of the files that a file imports.
use Rattle.std.proofs.Common.{◌≡◌, ℕ, ◌+◌, ◌<◌, List, [], ◌∷◌, ◌++◌, length, take, get_or, refl, sym, ◌∙◌, ap}
use Rattle.std.specs.Prelude.{Bool, true, false, cond, ◌||◌, filter, if◌then◌else◌}
use Rattle.std.specs.List.{list_any}
use Rattle.std.specs.Str.{bytes_eq}
use Rattle.std.proofs.lemmas.List.Elements.{filter_more}
use Rattle.std.proofs.lemmas.Slice.Eq.{bytes_eq-Decides}
use Rattle.indexmap.specs.IndexSet.{insert_key}
use Rattle.module_resolver.specs.steps.Seen.{is_kept}
use Rattle.module_resolver.proofs.OneMore.{take_item}
use denote.Bor.{Bor}

-- a disjunction with false is its other side
or_false : (a : Bool) → a ≡ (a || false)
or_false true = refl
or_false false = refl

regroup : (a b c : Bool) → ((a || b) || c) ≡ (a || (b || c))
regroup true b c = refl
regroup false b c = refl

any_push : {A : Type 0} (test : A → Bool) (xs : List A) (x : A) → list_any test (xs ++ x ∷ []) ≡ (list_any test xs || test x)
any_push test [] x = sym (or_false (test x))
any_push test (y ∷ ys) x = ap (λ (b : Bool). test y || b) (any_push test ys x) ∙ sym (regroup (test y) (list_any test ys) (test x))

-- one item more is looked at
pub any_more : {A : Type 0} (test : A → Bool) (xs : List A) (i : ℕ) (x : A) → i < length xs → x ≡ get_or xs i x
    → list_any test (take (i + 1) xs) ≡ (list_any test (take i xs) || test x)
any_more test xs i x lt is = ap (list_any test) (take_item xs i x lt is) ∙ any_push test (take i xs) x

absorbed : (a b : Bool) → (b ≡ true → a ≡ true) → a ≡ (a || b)
absorbed true b h = refl
absorbed false true h = h refl
absorbed false false h = refl

abbrev same_name : Bor (List ℕ) → Bor (List ℕ) → Bool
same_name one other = bytes_eq one.now other.now

kept_more : (known : List (Bor (List ℕ))) (one : Bor (List ℕ)) (name : List ℕ) (b : Bool) → list_any (same_name one) known ≡ b
    → is_kept (if b then known else known ++ one ∷ []) name ≡ (is_kept known name || bytes_eq name one.now)
kept_more known one name true is =
    absorbed (is_kept known name) (bytes_eq name one.now)
    (λ same. ap (is_kept known) ((bytes_eq-Decides name one.now).0 same) ∙ is)
kept_more known one name false is = any_push (λ (other : Bor (List ℕ)). bytes_eq name other.now) known one

-- one name more is kept
pub one_kept : (known more : List (Bor (List ℕ))) (one : Bor (List ℕ)) (text name : List ℕ) → more ≡ insert_key same_name known one → one.now ≡ text
    → is_kept more name ≡ (is_kept known name || bytes_eq name text)
one_kept known more one text name is e =
    ap (λ (ks : List (Bor (List ℕ))). is_kept ks name) is
    ∙ (kept_more known one name (list_any (same_name one) known) refl ∙ ap (λ (t : List ℕ). is_kept known name || bytes_eq name t) e)

turned : (x y : List ℕ) (b c : Bool) → bytes_eq x y ≡ b → bytes_eq y x ≡ c → b ≡ c
turned x y true true h g = refl
turned x y false false h g = refl
turned x y true false h g = let e = (bytes_eq-Decides x y).0 h in sym ((bytes_eq-Decides y x).1 (sym e)) ∙ g
turned x y false true h g = let e = (bytes_eq-Decides y x).0 g in sym h ∙ (bytes_eq-Decides x y).1 (sym e)

-- the order of two names is all one
pub either_way : (x y : List ℕ) → bytes_eq x y ≡ bytes_eq y x
either_way x y = turned x y (bytes_eq x y) (bytes_eq y x) refl refl

-- one import more is kept
pub import_kept : (known more : List (Bor (List ℕ))) (one : Bor (List ℕ)) (text name : List ℕ) (before here : Bool)
    → more ≡ insert_key same_name known one → one.now ≡ text → is_kept known name ≡ before → here ≡ (before || bytes_eq text name)
    → is_kept more name ≡ here
import_kept known more one text name before here is e kept h =
    one_kept known more one text name is e
    ∙ (ap (λ (b : Bool). b || bytes_eq name text) kept ∙ (ap (λ (b : Bool). before || b) (either_way name text) ∙ sym h))

-- one file more is looked at
pub seen_more : (test : ℕ → Bool) (order seen more : List ℕ) (i : ℕ) (b : Bool) → i < length order → seen ≡ filter test (take i order)
    → b ≡ test (get_or order i 0) → more ≡ seen ++ cond b (get_or order i 0 ∷ []) [] → more ≡ filter test (take (i + 1) order)
seen_more test order seen more i b lt before is pushed =
    let x = get_or order i 0 in
    pushed
    ∙ (ap (λ (xs : List ℕ). xs ++ cond b (x ∷ []) []) before
    ∙ (ap (λ (c : Bool). filter test (take i order) ++ cond c (x ∷ []) []) is ∙ sym (filter_more test order i 0 lt)))
