use Rattle.std.proofs.Common.{◌≡◌, drop, map, ◌++◌}
use Rattle.const_eval.specs.Refused.{interface_members}
use Rattle.const_eval.specs.steps.Views.{member_view}
use Rattle.const_eval.proofs.ordinals.interface_members.Given as goal

abbrev pub invariant-loop-member : goal.invariant-loop-member
invariant-loop-member l = map member_view l.members.items ++ interface_members (drop l.member-index l.written) ≡ interface_members l.written
