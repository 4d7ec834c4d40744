use Rattle.std.proofs.Common.{◌≡◌, drop, map, ◌++◌}
use Rattle.const_eval.specs.Refused.{union_members}
use Rattle.const_eval.specs.steps.Views.{member_view}
use Rattle.const_eval.proofs.ordinals.union_members.Given as goal

abbrev pub invariant-loop-field : goal.invariant-loop-field
invariant-loop-field l = map member_view l.members.items ++ union_members (drop l.field-index l.written) ≡ union_members l.written
