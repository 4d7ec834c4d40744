use Rattle.std.proofs.Common.{◌≡◌, subst}
use Rattle.std.specs.Prelude.{Option, IfSome}
use Rattle.wire_model.specs.Trees.{view}
use Rattle.kept_values.specs.KeptTrees.{part_tree}
use Rattle.kept_values.specs.declared.parts.Part.{Part}
use Rattle.kept_values.proofs.kept_parameters.hold_part.Goals as goal

pub returns-in-Some : goal.returns-in-Some
returns-in-Some c =
    subst (λ (o : Option Part). IfSome o (λ part. part_tree part ≡ view c.args.value.now)) c.in-Some.is c.in_ok-found.ensures
