use Rattle.std.proofs.Common.{◌≡◌, take, map}
use Rattle.name_refusals.proofs.lists.union_names.Given as goal

abbrev pub invariant-loop-field : goal.invariant-loop-field
invariant-loop-field l = map (λ n. n.now) l.names.items ≡ map (λ f. f.name) (take l.field-index l.fields)
