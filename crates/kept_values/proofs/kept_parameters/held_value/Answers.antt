use Rattle.std.proofs.Common.{◌≡◌, List, map, sym, ap, subst, ◌∙◌}
use Rattle.std.specs.Prelude.{IfOk}
use Rattle.wire_model.specs.Trees.{Tree, Fields, trees, view}
use Rattle.kept_values.specs.KeptTrees.{held_tree, part_tree}
use Rattle.kept_values.specs.declared.parts.Part.{Part}
use Rattle.kept_values.proofs.kept_parameters.held_value.Goals as goal

pub returns-in-Struct : goal.returns-in-Struct
returns-in-Struct c =
    subst (λ (t : Tree). IfOk c.struct_value.result (λ value. view value ≡ t))
    (ap (λ (ps : List Part). Fields (trees (map part_tree ps))) c.deref.ensures.value ∙ ap held_tree (sym c.in-Struct.is)) c.struct_value.ensures

pub returns-in-Other : goal.returns-in-Other
returns-in-Other c =
    subst (λ (t : Tree). IfOk c.copy_value.result (λ value. view value ≡ t))
    (ap view c.get.ensures ∙ ap held_tree (sym c.in-Other.is)) c.copy_value.ensures
