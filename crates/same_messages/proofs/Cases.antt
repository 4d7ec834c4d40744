-- Cases of tests, and the greater of two numbers.
use Rattle.std.proofs.Common.{◌≡◌, ℕ, ◌≤◌, max, Bool, true, false, refl, arith}

pub by_test : (t : Bool) (P : Bool → Type 0) → (t ≡ true → P true) → (t ≡ false → P false) → P t
by_test true P yes_ no_ = yes_ refl
by_test false P yes_ no_ = no_ refl

pub max_least : (a b l : ℕ) → a ≤ l → b ≤ l → max a b ≤ l
max_least a b l x y = omega arith
