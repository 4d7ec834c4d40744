-- What was read of a list where nothing or one was read before.
use Rattle.std.proofs.Common.{◌≡◌, List, [], ◌∷◌, Ok, Err, refl, sym, ap, ◌∙◌}
use Rattle.std.specs.List.{flat_map}
use Rattle.byte_rules.specs.declared.stop.Stop.{Stop}
use Rattle.byte_rules.specs.declared.stop.Stop.TheVariants as stops
use Rattle.byte_rules.specs.Lang.{Read, ◌>>=◌}
use Rattle.byte_rules.specs.Reading.{Fails}
use Rattle.byte_rules.specs.steps.Reading.{with_front}

singles : {A : Type 0} (xs : List A) → flat_map (λ (t : A). t ∷ []) xs ≡ xs
singles [] = refl
singles {A} (x ∷ xs) = ap (λ (l : List A). x ∷ l) (singles xs)

pub no_front : {A : Type 0} (r : Read (List A)) → with_front (λ (t : A). t ∷ []) [] r ≡ r
no_front {A} (Ok x) = ap (λ (l : List A). Ok (l, x.1)) (singles x.0)
no_front (Err n) = refl

pub no_front_err : {A : Type 0} (e : Stop) (r : Read (List A)) → Fails e (with_front (λ (t : A). t ∷ []) [] r) → Fails e r
no_front_err stops.Memory r f = tt
no_front_err (stops.Left n) r f = sym (no_front r) ∙ f

pub first_and_more : {A : Type 0} (x : A) (r : Read (List A)) → with_front (λ (t : A). t ∷ []) (x ∷ []) r ≡ (r >>= λ y. Ok (x ∷ y.0, y.1))
first_and_more {A} x (Ok y) = ap (λ (l : List A). Ok (x ∷ l, y.1)) (singles y.0)
first_and_more x (Err n) = refl
