-- What is said of bytes as a whole: the value that they spell, or the first byte with which nothing goes on.
use Rattle.std.specs.Prelude.{◌≡◌, ◌≤◌, ℕ, List, [], length, take}
use Rattle.byte_rules.specs.Lang.{Lang, Whole, Begun}

-- the bytes are the rule, with this value
abbrev pub Spells : {A : Type 0} → Lang A → A → List ℕ → Type 0
Spells one x bytes = one.followed Whole (λ v rest. (rest ≡ []) × (v ≡ x)) bytes

-- the bytes are the rule, or end inside of it
abbrev pub Begins : {A : Type 0} → Lang A → List ℕ → Type 0
Begins one bytes = one.followed Begun (λ v rest. rest ≡ []) bytes

-- at is the first byte with which nothing goes on: as many bytes as at are a beginning, no more are
pub record IsBad {A : Type 0} (one : Lang A) (bytes : List ℕ) (at : ℕ) : Type 0 where
  pub within : at ≤ length bytes
  pub begins : (n : ℕ) → n ≤ at → Begins one (take n bytes)
  pub no_more : (n : ℕ) → n ≤ length bytes → Begins one (take n bytes) → n ≤ at
  pub none : (x : A) → Spells one x bytes → ⊥
