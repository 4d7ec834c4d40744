use Rattle.std.proofs.Common.{◌≡◌, ◌++◌, drop}
use Rattle.std.specs.List.{flat_map}
use Rattle.compat_model.specs.Pairs.{tag_pairs}
use Rattle.breaking_changes.proofs.unions.push_each.Given as goal

-- what is added and what is left are all
abbrev pub invariant-loop-tag : goal.invariant-loop-tag
invariant-loop-tag l =
    l.out.items ++ flat_map (tag_pairs l.older.fields l.newer.fields) (drop l.tag-index l.tags)
    ≡ l.initial.out.items ++ flat_map (tag_pairs l.older.fields l.newer.fields) l.tags
