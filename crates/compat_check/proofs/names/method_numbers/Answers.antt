use Rattle.std.proofs.Common.{ℕ, List, ◌++◌, ap, ◌∙◌}
use Rattle.std.specs.List.{flat_map}
use Rattle.compat_check.specs.steps.Names.{structs_in}
use Rattle.compat_check.proofs.names.method_numbers.Goals as goal

pub returns : goal.returns
returns c = c.in_ok-push_interfaces.ensures ∙ ap (λ (l : List ℕ). l ++ flat_map structs_in c.args.interfaces.now) c.new-made.ensures.items
