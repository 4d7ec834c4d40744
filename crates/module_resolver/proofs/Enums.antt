-- The full names of enumerators, enum after enum.
use Rattle.std.proofs.Common.{◌≡◌, ℕ, suc, ◌+◌, ◌<◌, List, [], ◌∷◌, ◌++◌, map, length, take, get_or, refl, sym, ◌∙◌, ap, subst, arith, append-nil}
use Rattle.std.specs.Prelude.{Bool, true, false, Option, Some, None, if◌then◌else◌}
use Rattle.std.specs.List.{flat_map}
use Rattle.std.specs.Option.{option_map, option_or}
use Rattle.std.specs.Str.{bytes_eq}
use Rattle.std.proofs.lemmas.Grind.{flat_map-append}
use Rattle.std.proofs.lemmas.List.{length-map, get_or-map}
use Rattle.import_order.specs.Numbers.{number_of}
use Rattle.mj_base.specs.Names.{within}
use Rattle.module_resolver.specs.declared.target.Target.{Target}
use Rattle.module_resolver.specs.Seats.{file_of, owner}
use Rattle.module_resolver.specs.steps.Owners.{where_seen, Notes}
use Rattle.module_resolver.proofs.Owned.{number_noted}

-- one list more
pub flat_pushed : {A B : Type 0} (f : A → List B) (xs more : List A) (x : A) → more ≡ xs ++ x ∷ [] → flat_map f more ≡ flat_map f xs ++ f x
flat_pushed {A} {B} f xs more x is =
    ap (flat_map f) is ∙ (flat_map-append f xs (x ∷ []) ∙ ap (λ (ys : List B). flat_map f xs ++ ys) (append-nil (f x)))

moved : (b : Bool) (n : ℕ) (o e : Option ℕ)
    → (if b then Some 0 else option_map (λ (k : ℕ). k + 1) (option_or o (option_map (λ (k : ℕ). n + k) e)))
    ≡ option_or (if b then Some 0 else option_map (λ (k : ℕ). k + 1) o) (option_map (λ (k : ℕ). suc n + k) e)
moved true n o e = refl
moved false n (Some x) e = refl
moved false n None None = refl
moved false n None (Some k) = ap (λ (x : ℕ). Some x) (let same : n + k + 1 ≡ suc n + k = omega arith in same)

from_zero : (o : Option ℕ) → o ≡ option_map (λ (k : ℕ). 0 + k) o
from_zero None = refl
from_zero (Some k) = ap (λ (x : ℕ). Some x) (let same : k ≡ 0 + k = omega arith in same)

-- the number of a name in two lists, one behind the other
pub number_behind : (q : List ℕ) (xs ys : List (List ℕ))
    → number_of q (xs ++ ys) ≡ option_or (number_of q xs) (option_map (λ (n : ℕ). length xs + n) (number_of q ys))
number_behind q [] ys = from_zero (number_of q ys)
number_behind q (x ∷ xs) ys =
    ap (λ (o : Option ℕ). if bytes_eq q x then Some 0 else option_map (λ (k : ℕ). k + 1) o) (number_behind q xs ys)
    ∙ moved (bytes_eq q x) (length xs) (number_of q xs) (number_of q ys)

joined : (o : Option Target) (make : ℕ → Target) (first : ℕ) (m n : Option ℕ) (c : Bool)
    → option_or (option_or o (if c then option_map make m else None)) (if c then option_map (λ (k : ℕ). make (first + k)) n else None)
    ≡ option_or o (if c then option_map make (option_or m (option_map (λ (k : ℕ). first + k) n)) else None)
joined (Some x) make first m n c = refl
joined None make first (Some m) n true = refl
joined None make first (Some m) n false = refl
joined None make first None (Some n) true = refl
joined None make first None (Some n) false = refl
joined None make first None None true = refl
joined None make first None None false = refl

-- names are noted behind others of the same file
pub names_noted : (old mid new : List ℕ → Option (List Target)) (make : ℕ → Target) (file first : ℕ) (xs ys all : List (List ℕ))
    → first ≡ length xs → all ≡ xs ++ ys
    → Notes old mid (λ (p : ℕ → Bool) (q : List ℕ). where_seen p file (option_map make (number_of q xs)))
    → Notes mid new (λ (p : ℕ → Bool) (q : List ℕ). where_seen p file (option_map (λ (k : ℕ). make (first + k)) (number_of q ys)))
    → Notes old new (λ (p : ℕ → Bool) (q : List ℕ). where_seen p file (option_map make (number_of q all)))
names_noted old mid new make file first xs ys all is whole before here = λ p q.
    let number : option_or (number_of q xs) (option_map (λ (k : ℕ). first + k) (number_of q ys)) ≡ number_of q all =
    ap (λ (f : ℕ). option_or (number_of q xs) (option_map (λ (k : ℕ). f + k) (number_of q ys))) is
    ∙ (sym (number_behind q xs ys) ∙ ap (number_of q) (sym whole)) in
    here p q
    ∙ (ap (λ (o : Option Target). option_or o (where_seen p file (option_map (λ (k : ℕ). make (first + k)) (number_of q ys)))) (before p q)
    ∙ (joined (owner old p q) make first (number_of q xs) (number_of q ys) (p file)
    ∙ ap (λ (n : Option ℕ). option_or (owner old p q) (where_seen p file (option_map make n))) number))

-- one name more within another is noted
pub within_noted : (old mid new : List ℕ → Option (List Target)) (make : ℕ → Target) (file place : ℕ) (outer name d : List ℕ) (names : List (List ℕ))
    (target : Target)
    → file_of (make place) ≡ file → place < length names → name ≡ get_or names place d → target ≡ make place
    → Notes old mid (λ (p : ℕ → Bool) (q : List ℕ). where_seen p file (option_map make (number_of q (take place (map (within outer) names)))))
    → Notes mid new (λ (p : ℕ → Bool) (q : List ℕ). if bytes_eq q (within outer name) then where_seen p (file_of target) (Some target) else None)
    → Notes old new (λ (p : ℕ → Bool) (q : List ℕ). where_seen p file (option_map make (number_of q (take (place + 1) (map (within outer) names)))))
within_noted old mid new make file place outer name d names target at lt item is before here =
    let all = map (within outer) names in
    let long = length-map names (within outer) in
    let text : within outer name ≡ get_or all place [] = ap (within outer) item ∙ sym (get_or-map (within outer) names place d [] lt) in
    number_noted old mid new make file all place [] at (omega (arith, long, lt)) before
    (subst
    (λ (t : List ℕ).
    Notes mid new (λ (p : ℕ → Bool) (q : List ℕ). if bytes_eq q t then where_seen p (file_of (make place)) (Some (make place)) else None)) text
    (subst
    (λ (t : Target).
    Notes mid new (λ (p : ℕ → Bool) (q : List ℕ). if bytes_eq q (within outer name) then where_seen p (file_of t) (Some t) else None)) is here))
