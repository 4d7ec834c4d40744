use Rattle.std.proofs.Common.{◌++◌, ◌∷◌, [], List, ap, map, ◌∙◌}
use Rattle.wire_model.specs.Trees.{Fields, trees, view}
use Rattle.wire_model.specs.declared.value.Value.{Value}
use Rattle.load_run.proofs.values.one_field.Goals as goal

pub returns : goal.returns
returns c =
    c.struct_of.ensures
    ∙ ap (λ (vs : List Value). Fields (trees (map view vs)))
    (c.in_ok-push.ensures.items ∙ ap (λ (vs : List Value). vs ++ c.args.field ∷ []) c.in_ok-fields.ensures.items)
