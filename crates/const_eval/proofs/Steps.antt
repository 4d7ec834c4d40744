-- Loops over lists, one element more.
use Rattle.std.proofs.Common.{◌≡◌, ℕ, zero, suc, ◌+◌, ◌<◌, List, [], ◌∷◌, ◌++◌, length, drop, get_or, map, refl, sym, ◌∙◌, append_assoc, arith}
use Rattle.std.specs.Prelude.{Option}
use Rattle.std.specs.List.{flat_map}
use Rattle.mojom_files.specs.declared.refusal.Refusal.{Refusal}
use Rattle.mojom_files.specs.Refusals.{sooner, best_of}
use Rattle.const_eval.specs.declared.ordinals.MemberView.{MemberView}
use Rattle.const_eval.specs.Kinds.{refused_uint32}
use Rattle.const_eval.specs.Refused.{ordinal_or, place_of_ordinal, refused_ordinals}
use Rattle.const_eval.specs.steps.Views.{member_view}

pub drop_next : {A : Type 0} (xs : List A) (i : ℕ) (d : A) → i < length xs → drop i xs ≡ get_or xs i d ∷ drop (i + 1) xs
drop_next [] i d lt = absurd (let bad : ⊥ = omega (arith, lt) in bad)
drop_next (x ∷ xs) zero d lt = refl
drop_next (x ∷ xs) (suc i) d lt = let e : suc i + 1 ≡ suc (i + 1) = omega arith in rw e (drop_next xs i d (omega (arith, lt)))

-- what a loop adds for an element comes before what it adds for those that are left
pub flat_step : {A B : Type 0} (f : A → List B) (done new all : List B) (xs : List A) (i : ℕ) (x d : A) → i < length xs → x ≡ get_or xs i d
    → done ++ flat_map f (drop i xs) ≡ all → new ≡ done ++ f x → new ++ flat_map f (drop (i + 1) xs) ≡ all
flat_step f done new all xs i x d lt is h n =
    rw (n, is) (append_assoc done (f (get_or xs i d)) (flat_map f (drop (i + 1) xs)) ∙ (rw (drop_next xs i d lt) at h))

-- the best of two lists in a row
pub best_append : (best : Option Refusal) (xs ys : List Refusal) → best_of best (xs ++ ys) ≡ best_of (best_of best xs) ys
best_append best [] ys = refl
best_append best (x ∷ xs) ys = best_append (sooner best x) xs ys

-- the ordinals that are left are tested against the best so far
pub ordinal_step : (file next : ℕ) (best new all : Option Refusal) (members : List MemberView) (i : ℕ) (one d : MemberView) (ordinal place : ℕ)
    → i < length members → one ≡ get_or members i d → ordinal ≡ ordinal_or next one.ordinal → place ≡ place_of_ordinal (member_view one)
    → best_of best (refused_ordinals file next (map member_view (drop i members))) ≡ all → new ≡ best_of best (refused_uint32 file place ordinal)
    → best_of new (refused_ordinals file (ordinal + 1) (map member_view (drop (i + 1) members))) ≡ all
ordinal_step file next best new all members i one d ordinal place lt is o p h n =
    let left = drop (i + 1) members in
    let now : best_of best (refused_ordinals file next (map member_view (get_or members i d ∷ left))) ≡ all = rw (drop_next members i d lt) at h in
    let there : best_of best (refused_ordinals file next (map member_view (one ∷ left))) ≡ all = rw is now in
    let here = refused_uint32 file (place_of_ordinal (member_view one)) (ordinal_or next one.ordinal) in
    let later = refused_ordinals file (ordinal_or next one.ordinal + 1) (map member_view left) in
    rw (n, p, o) (sym (best_append best here later) ∙ there)

-- what is left of a list is tested against the best so far
pub best_step : {A : Type 0} (f : A → List Refusal) (best new all : Option Refusal) (xs : List A) (i : ℕ) (x d : A) → i < length xs
    → x ≡ get_or xs i d → best_of best (flat_map f (drop i xs)) ≡ all → new ≡ best_of best (f x) → best_of new (flat_map f (drop (i + 1) xs)) ≡ all
best_step f best new all xs i x d lt is h n =
    let now : best_of best (f (get_or xs i d) ++ flat_map f (drop (i + 1) xs)) ≡ all = rw (drop_next xs i d lt) at h in
    rw (n, is) (sym (best_append best (f (get_or xs i d)) (flat_map f (drop (i + 1) xs))) ∙ now)
