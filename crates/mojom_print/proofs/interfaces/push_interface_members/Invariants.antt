use Rattle.std.proofs.Common.{◌≡◌, ◌++◌, take}
use Rattle.std.specs.List.{flat_map}
use Rattle.mojom_print.specs.Interfaces.{interface_member_text}
use Rattle.mojom_print.proofs.interfaces.push_interface_members.Given as goal

abbrev pub invariant-loop-member : goal.invariant-loop-member
invariant-loop-member l = l.out.items ≡ l.initial.out.items ++ flat_map interface_member_text (take l.member-index l.members)
