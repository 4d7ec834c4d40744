-- Beginnings and parts of lists of entries.
use Rattle.std.specs.Prelude.{◌≡◌, ℕ, ◌==◌, ◌++◌, List, [], ◌∷◌, filter}

-- ys begins with xs
abbrev pub Begins : {E : Type 0} → List E → List E → Type 0
Begins {E} xs ys = (rest : List E) × (ys ≡ xs ++ rest)

-- P holds of each item
abbrev pub Each : {X : Type 0} → (X → Type 0) → List X → Type 0
Each P [] = Unit {0}
Each P (x ∷ xs) = P x × Each P xs

-- the entries that name a pass, by its number
abbrev pub own : {E : Type 0} → (E → ℕ) → ℕ → List E → List E
own number n log = filter (λ e. number e == n) log
