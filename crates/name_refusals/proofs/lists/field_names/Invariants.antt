use Rattle.std.proofs.Common.{◌≡◌, take, map}
use Rattle.std.specs.List.{flat_map}
use Rattle.name_refusals.specs.NameRefusals.{field_name}
use Rattle.name_refusals.proofs.lists.field_names.Given as goal

abbrev pub invariant-loop-member : goal.invariant-loop-member
invariant-loop-member l = map (λ n. n.now) l.names.items ≡ flat_map (λ m. field_name m.item) (take l.member-index l.members)
