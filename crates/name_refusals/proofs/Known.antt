-- Names that are added to a set.
use Rattle.std.proofs.Common.{◌≡◌, ℕ, List, refl, ◌∙◌, ap}
use Rattle.std.proofs.Math.Path.{fun_ext}
use Rattle.std.specs.Prelude.{Bool, true, false, ◌||◌, Option, Some, is_some, if◌then◌else◌}
use Rattle.std.specs.Str.{bytes_eq}
use Rattle.std.specs.Map.{update}
use Rattle.name_refusals.specs.Known.{with_name}
use Rattle.import_order.proofs.Positions.{same_order}

or_true : (a : Bool) → true ≡ (a || true)
or_true true = refl
or_true false = refl

-- a disjunction with false is its other side
pub or_false : (a : Bool) → a ≡ (a || false)
or_false true = refl
or_false false = refl

written : {A : Type 0} (old : Option A) (value : A) (b : Bool) → is_some (if b then Some value else old) ≡ (is_some old || b)
written old value true = or_true (is_some old)
written old value false = or_false (is_some old)

added_at : {A : Type 0} (old new : List ℕ → Option A) (name : List ℕ) (value : A) (q : List ℕ)
    → new q ≡ update bytes_eq old name (Some value) q → is_some (new q) ≡ (is_some (old q) || bytes_eq q name)
added_at old new name value q e =
    let turned : bytes_eq name q ≡ bytes_eq q name = same_order name q (bytes_eq name q) (bytes_eq q name) refl refl in
    ap is_some e ∙ written (old q) value (bytes_eq name q) ∙ ap (λ (b : Bool). is_some (old q) || b) turned

-- a set to which a name is added has the names of before, and this one
pub added : {A : Type 0} (old new : List ℕ → Option A) (name : List ℕ) (value : A)
    → ((q : List ℕ) → new q ≡ update bytes_eq old name (Some value) q)
    → (λ (q : List ℕ). is_some (new q)) ≡ with_name (λ (q : List ℕ). is_some (old q)) name
added old new name value e = fun_ext (λ (q : List ℕ). added_at old new name value q (e q))
