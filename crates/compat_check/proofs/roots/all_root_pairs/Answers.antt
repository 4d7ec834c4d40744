use Rattle.std.proofs.Common.{List, ◌++◌, ap, ◌∙◌}
use Rattle.std.specs.List.{flat_map}
use Rattle.compat_model.specs.declared.pair.Pair.{Pair}
use Rattle.compat_model.specs.Verdicts.{root_pairs}
use Rattle.compat_check.proofs.roots.all_root_pairs.Goals as goal

pub returns : goal.returns
returns c = c.in_ok-push_roots.ensures ∙ ap (λ (l : List Pair). l ++ flat_map root_pairs c.args.roots.now) c.new-made.ensures.items
