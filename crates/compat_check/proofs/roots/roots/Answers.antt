use Rattle.std.proofs.Common.{List, ◌++◌, ap, ◌∙◌}
use Rattle.std.specs.List.{flat_map}
use Rattle.mj_schema.specs.declared.rows.DefinitionRow.{DefinitionRow}
use Rattle.compat_model.specs.declared.root.Root.{Root}
use Rattle.compat_check.specs.steps.Roots.{root_if_stable}
use Rattle.compat_check.proofs.StableRoots.{stable_roots}
use Rattle.compat_check.proofs.roots.roots.Goals as goal

pub returns : goal.returns
returns c =
    let old = c.args.old.now in
    let new = c.args.new.now.schema.now in
    c.in_ok-push_each.ensures
    ∙ (ap (λ (l : List Root). l ++ flat_map (root_if_stable old new) c.as_slice.result.now) c.new-made.ensures.items
    ∙ (ap (λ (ds : List DefinitionRow). flat_map (root_if_stable old new) ds) c.as_slice.ensures ∙ stable_roots old new old.order))
