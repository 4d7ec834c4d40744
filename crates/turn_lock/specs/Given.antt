-- What a clause says of an operation on a value that is handed something.
use Rattle.std.specs.Prelude.{◌≡◌}
use denote.Ref.{MutBor}
use Rattle.std.specs.Fn.{Once}

-- the operation may be called at a `&mut` to x, with this given
abbrev pub TakesGiven : {F T A R : Type 0} → Once F (MutBor T × (A × Unit {0})) R → F → A → T → Type 0
TakesGiven {F} {T} g f a x = (p : MutBor T) → p.now ≡ x → g.pre f (p, (a, tt))

-- and may then give r and leave x'
pub record ReturnsGiven {F T A R : Type 0} (g : Once F (MutBor T × (A × Unit {0})) (R × (MutBor T × Unit {0}))) (f : F) (a : A) (x : T) (r : R)
    (x' : T) : Type 0 where
  pub shown : MutBor T
  pub shows : shown.now ≡ x
  pub left : MutBor T
  pub met : g.post f (shown, (a, tt)) (r, (left, tt))
  pub leaves : left.now ≡ x'
