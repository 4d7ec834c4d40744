use Rattle.std.proofs.Common.{◌≡◌, drop}
use Rattle.std.specs.Prelude.{slice_get}
use Rattle.script_run.specs.steps.Orders.{left_from}
use Rattle.script_run.proofs.order.find_left.Given as goal

-- of the queues from here on it is the one of the number that is left
abbrev pub invariant-loop-seq : goal.invariant-loop-seq
invariant-loop-seq l = slice_get (left_from 0 l.queues) l.number ≡ slice_get (left_from l.seq (drop l.seq l.queues)) l.left
