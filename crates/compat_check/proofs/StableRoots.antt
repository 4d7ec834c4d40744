-- The stable definitions, gathered one by one.
use Rattle.std.proofs.Common.{◌≡◌, Bool, true, false, cond, List, [], ◌∷◌, ◌++◌, map, refl, ap}
use Rattle.std.specs.List.{flat_map, filter}
use Rattle.mj_schema.specs.declared.rows.DefinitionRow.{DefinitionRow}
use Rattle.mj_schema.specs.declared.schema.Schema.{Schema}
use Rattle.compat_model.specs.Verdicts.{is_stable, root_of}
use Rattle.compat_check.specs.steps.Roots.{root_if_stable}

one_more : {A B : Type 0} (f : A → B) (b : Bool) (x : A) (xs : List A) (ys : List B) → ys ≡ map f xs
    → cond b (f x ∷ []) [] ++ ys ≡ map f (cond b (x ∷ xs) xs)
one_more {A} {B} f true x xs ys e = ap (λ (l : List B). f x ∷ l) e
one_more f false x xs ys e = e

pub stable_roots : (old new : Schema) (ds : List DefinitionRow)
    → flat_map (root_if_stable old new) ds ≡ map (root_of old new) (filter (λ (d : DefinitionRow). is_stable old d.sort d.number) ds)
stable_roots old new [] = refl
stable_roots old new (d ∷ ds) =
    one_more (root_of old new) (is_stable old d.sort d.number) d (filter (λ (x : DefinitionRow). is_stable old x.sort x.number) ds)
    (flat_map (root_if_stable old new) ds) (stable_roots old new ds)
