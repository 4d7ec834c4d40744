use Rattle.std.proofs.Common.{◌≡◌, List, map, sym, ap, subst, ◌∙◌}
use Rattle.std.specs.Prelude.{IfOk}
use Rattle.wire_model.specs.declared.value.Value.{Value}
use Rattle.wire_model.specs.Trees.{Tree, Fields, trees, view}
use Rattle.kept_values.specs.KeptTrees.{held_tree}
use Rattle.kept_values.proofs.KeptLists.{view_struct}
use Rattle.kept_values.proofs.kept_parameters.hold.Goals as goal

pub returns-in-Struct : goal.returns-in-Struct
returns-in-Struct c =
    subst (λ (t : Tree). IfOk c.hold_struct.result (λ held. held_tree held ≡ t))
    (ap (λ (vs : List Value). Fields (trees (map view vs))) c.deref.ensures.value ∙ sym (ap view c.in-Struct.is ∙ view_struct c.in-Struct.fields))
    c.hold_struct.ensures
