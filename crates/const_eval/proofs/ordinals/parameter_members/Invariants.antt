use Rattle.std.proofs.Common.{◌≡◌, drop, map, ◌++◌}
use Rattle.const_eval.specs.Refused.{parameter_members}
use Rattle.const_eval.specs.steps.Views.{member_view}
use Rattle.const_eval.proofs.ordinals.parameter_members.Given as goal

abbrev pub invariant-loop-parameter : goal.invariant-loop-parameter
invariant-loop-parameter l = map member_view l.members.items ++ parameter_members (drop l.parameter-index l.written) ≡ parameter_members l.written
