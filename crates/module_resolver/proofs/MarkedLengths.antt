-- Numbers that are marked in a table.
use Rattle.std.proofs.Common.{◌≡◌, ℕ, zero, suc, List, [], ◌∷◌, ◌++◌, get_or, refl}
use Rattle.std.specs.Prelude.{Bool, true, false, ◌||◌}

-- a number that has no mark stays so where the table grows
pub grown : (xs : List Bool) (k : ℕ) → get_or (xs ++ false ∷ []) k false ≡ get_or xs k false
grown [] zero = refl
grown [] (suc k) = refl
grown (x ∷ xs) zero = refl
grown (x ∷ xs) (suc k) = grown xs k

-- where a disjunction doesn't hold, neither side does
pub no_both : (a b : Bool) → (a || b) ≡ false → (a ≡ false) × (b ≡ false)
no_both false false h = (refl, refl)
no_both true b h = absurd (cc)
no_both false true h = absurd (cc)
