-- What holds of each of a list, before and after.
use Rattle.std.proofs.Common.{◌≡◌, ◌<◌, ℕ, List, length, get_or, subst, arith, Some}
use Rattle.std.specs.Prelude.{slice_get}
use Rattle.std.proofs.lemmas.Option.{get_or_from_slice_get, slice_get-get_or, slice_get_within}

pub all_kept : {X : Type 0} (xs ys : List X) (F : ℕ → X → Type 0) → length ys ≡ length xs → ((k : ℕ) (p : X) → slice_get xs k ≡ Some p → F k p)
    → ((k : ℕ) (d : X) → k < length xs → F k (get_or xs k d) → F k (get_or ys k d)) → (k : ℕ) (q : X) → slice_get ys k ≡ Some q → F k q
all_kept {X} xs ys F len all each k q got =
    let within : k < length xs = let w = slice_get_within ys k q got in omega (arith, len, w) in
    subst (λ (x : X). F k x) (get_or_from_slice_get ys k q q got) (each k q within (all k (get_or xs k q) (slice_get-get_or xs k q within)))
