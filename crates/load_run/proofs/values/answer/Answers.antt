use Rattle.std.proofs.Common.{◌≡◌, ◌∷◌, [], subst}
use Rattle.std.specs.Prelude.{IfOk}
use Rattle.wire_model.specs.Trees.{Fields, Tree, trees, view}
use Rattle.load_run.proofs.values.answer.Goals as goal

pub returns : goal.returns
returns c =
    subst (λ (t : Tree). IfOk c.one_field.result (λ value. view value ≡ Fields (trees (t ∷ [])))) c.whole.ensures c.one_field.ensures
