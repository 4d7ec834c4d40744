use Rattle.std.proofs.Common.{◌≡◌, ◌∷◌, [], List, ap, subst, ◌∙◌}
use Rattle.std.specs.Prelude.{IfOk}
use Rattle.wire_model.specs.Trees.{Fields, Items, Tree, trees, view}
use Rattle.load_run.proofs.values.note.Goals as goal

pub returns : goal.returns
returns c =
    subst (λ (t : Tree). IfOk c.one_field.result (λ value. view value ≡ Fields (trees (t ∷ []))))
    (c.list_of.ensures ∙ ap (λ (ts : List Tree). Items (trees ts)) c.in_ok-bytes.ensures) c.one_field.ensures
