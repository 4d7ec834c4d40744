use Rattle.std.proofs.Common.{◌≡◌, drop, ◌++◌}
use Rattle.std.specs.List.{flat_map}
use Rattle.mj_base.specs.Names.{named_in}
use Rattle.mojom_files.specs.Definitions.{in_struct}
use Rattle.mojom_files.proofs.definition_view.add_in_struct.Given as goal

abbrev pub invariant-loop-member : goal.invariant-loop-member
invariant-loop-member l =
    l.found.items ++ flat_map (in_struct (named_in l.module_name l.outer)) (drop l.member-index l.members)
    ≡ l.fn.found.items ++ flat_map (in_struct (named_in l.module_name l.outer)) l.members
