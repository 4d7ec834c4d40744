-- What holds of each element of a list, and of lists that are made of it.
use Rattle.std.proofs.Common.{◌≡◌, ℕ, zero, suc, ◌+◌, List, [], ◌∷◌, refl, subst}
use Rattle.std.specs.Prelude.{Bool, true, false, ◌==◌, nat_lt, if◌then◌else◌, Option, Some, None, map, slice_get}
use Rattle.std.specs.List.{AllByRecursion, flat_map, fold, list_all}
use Rattle.std.specs.Option.{option_to_list}
use Rattle.kind_scope.specs.Members.{Member, Numbered, ordinal_at, held, numbered_from, place, along}
use Rattle.draft_rows.specs.Rows.{found_of}
use Rattle.schema_laws.proofs.Among.{each_append}
use Rattle.schema_laws.proofs.Quiet.{both_empty}

pub all_empty : {A B : Type 0} (say : A → List B) (xs : List A) → flat_map say xs ≡ [] → AllByRecursion (λ x. say x ≡ []) xs
all_empty say [] e = tt
all_empty say (x ∷ xs) e = let parts = both_empty (say x) (flat_map say xs) e in (parts.0, all_empty say xs parts.1)

pub all_map : {A B : Type 0} (P : B → Type 0) (f : A → B) (xs : List A) → AllByRecursion (λ x. P (f x)) xs → AllByRecursion P (map f xs)
all_map P f [] all = tt
all_map P f (x ∷ xs) all = (all.0, all_map P f xs all.1)

pub all_flat : {A B : Type 0} (P : B → Type 0) (f : A → List B) (xs : List A) → AllByRecursion (λ x. AllByRecursion P (f x)) xs
    → AllByRecursion P (flat_map f xs)
all_flat P f [] all = tt
all_flat P f (x ∷ xs) all = each_append P (f x) (flat_map f xs) all.0 (all_flat P f xs all.1)

pub all_so : {A : Type 0} (P Q : A → Type 0) → ((x : A) → P x → Q x) → (xs : List A) → AllByRecursion P xs → AllByRecursion Q xs
all_so P Q so [] all = tt
all_so P Q so (x ∷ xs) all = (so x all.0, all_so P Q so xs all.1)

pub at_each : {A : Type 0} (P : A → Type 0) (xs : List A) (k : ℕ) (x : A) → AllByRecursion P xs → slice_get xs k ≡ Some x → P x
at_each P [] k x all e = absurd cc
at_each P (y ∷ ys) zero x all e = let same : y ≡ x = cc in subst P same all.0
at_each P (y ∷ ys) (suc k) x all e = at_each P ys k x all.1 e

pub all_tested : {A : Type 0} (test : A → Bool) (xs : List A) → AllByRecursion (λ x. test x ≡ true) xs → list_all test xs ≡ true
all_tested test [] all = refl
all_tested test (x ∷ xs) all = rw all.0 (all_tested test xs all.1)

-- what is found of each
pub all_found : {A B : Type 0} (P : A → Type 0) (Q : B → Type 0) (look : A → Option B) → ((a : A) (b : B) → P a → look a ≡ Some b → Q b)
    → (xs : List A) → AllByRecursion P xs → AllByRecursion Q (found_of look xs)
all_found {B = B} P Q look so [] all = tt
all_found {B = B} P Q look so (x ∷ xs) all =
    each_append Q (option_to_list (look x)) (found_of look xs) (one (look x) (λ b e. so x b all.0 e)) (all_found P Q look so xs all.1)
  where
    one : (o : Option B) → ((b : B) → o ≡ Some b → Q b) → AllByRecursion Q (option_to_list o)
    one None is = tt
    one (Some b) is = (is b refl, tt)

-- along a number of theirs

pub all_placed : {A : Type 0} (P : A → Type 0) (number : A → ℕ) (xs : List A) (x : A) → AllByRecursion P xs → P x
    → AllByRecursion P (place number xs x)
all_placed P number [] x all is = (is, tt)
all_placed P number (y ∷ ys) x all is = go (nat_lt (number x) (number y)) (number x == number y) (all_placed P number ys x all.1 is)
  where
    go : (less same : Bool) → AllByRecursion P (place number ys x)
        → AllByRecursion P (if less then x ∷ y ∷ ys else (if same then x ∷ ys else y ∷ place number ys x))
    go true same rest = (is, (all.0, all.1))
    go false true rest = (is, all.1)
    go false false rest = (all.0, rest)

all_folded : {A : Type 0} (P : A → Type 0) (number : A → ℕ) (done xs : List A) → AllByRecursion P done → AllByRecursion P xs
    → AllByRecursion P (fold (place number) done xs)
all_folded P number done [] before all = before
all_folded P number done (x ∷ xs) before all =
    all_folded P number (place number done x) xs (all_placed P number done x before all.0) all.1

pub all_along : {A : Type 0} (P : A → Type 0) (number : A → ℕ) (xs : List A) → AllByRecursion P xs → AllByRecursion P (along number xs)
all_along P number xs all = all_folded P number [] xs tt all

-- members with their ordinals
pub all_numbered : (P : Member → Type 0) (next : ℕ) (members : List Member) → AllByRecursion P members
    → AllByRecursion (λ (one : Numbered). P one.member) (numbered_from next members)
all_numbered P next [] all = tt
all_numbered P next (m ∷ ms) all = (all.0, all_numbered P (held (ordinal_at next m.ordinal + 1)) ms all.1)
