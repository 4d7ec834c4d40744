use Rattle.std.proofs.Common.{◌≡◌, drop, map, ◌++◌}
use Rattle.const_eval.specs.Refused.{struct_members}
use Rattle.const_eval.specs.steps.Views.{member_view}
use Rattle.const_eval.proofs.ordinals.struct_members.Given as goal

abbrev pub invariant-loop-member : goal.invariant-loop-member
invariant-loop-member l = map member_view l.members.items ++ struct_members (drop l.member-index l.written) ≡ struct_members l.written
