use Rattle.std.proofs.Common.{List, ◌++◌, ap, ◌∙◌}
use Rattle.std.specs.List.{flat_map}
use Rattle.compat_model.specs.declared.pair.Pair.{Pair}
use Rattle.compat_model.specs.Pairs.{follows}
use Rattle.breaking_changes.proofs.following.all_following.Goals as goal

pub returns : goal.returns
returns c =
    c.in_ok-push_each.ensures
    ∙ ap (λ (l : List Pair). l ++ flat_map (follows c.args.old.now c.args.new.now) c.args.pairs.now) c.new-made.ensures.items
