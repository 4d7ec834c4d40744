use Rattle.std.proofs.Common.{◌≡◌}
use Rattle.wire_model.specs.Stands.{up_from}
use Rattle.mojo_tool.proofs.encode.ids.Given as goal

-- the ids so far
abbrev pub invariant-loop-number : goal.invariant-loop-number
invariant-loop-number l = l.ids.items ≡ up_from 1 l.number
