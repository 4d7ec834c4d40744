use Rattle.std.proofs.Common.{◌≡◌, take}
use Rattle.std.specs.Prelude.{filter, map}
use Rattle.script_run.specs.Order.{is_own}
use Rattle.script_run.specs.steps.Orders.{numbered}
use Rattle.script_run.proofs.order.lines_of.Given as goal

-- those of the lines so far
abbrev pub invariant-loop-line : goal.invariant-loop-line
invariant-loop-line l = map (λ line. line.now) l.lines.items ≡ filter (is_own (numbered l.seq)) (take l.line-index l.all)
