use Rattle.std.proofs.Common.{◌≡◌, ◌++◌, drop}
use Rattle.std.specs.List.{flat_map}
use Rattle.compat_model.specs.Pairs.{field_pairs}
use Rattle.breaking_changes.proofs.fields.push_each.Given as goal

-- what is added and what is left are all
abbrev pub invariant-loop-field : goal.invariant-loop-field
invariant-loop-field l =
    l.out.items ++ flat_map (field_pairs l.newer) (drop l.field-index l.older) ≡ l.initial.out.items ++ flat_map (field_pairs l.newer) l.older
