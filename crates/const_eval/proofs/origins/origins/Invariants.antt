use Rattle.std.proofs.Common.{◌≡◌, drop, ◌++◌}
use Rattle.const_eval.specs.Things.{numbered}
use Rattle.const_eval.specs.Origins.{origins_in}
use Rattle.const_eval.proofs.origins.origins.Given as goal

abbrev pub invariant-loop-number : goal.invariant-loop-number
invariant-loop-number l =
    l.origins.items ++ numbered (origins_in l.things l.names.files) l.number (drop l.number l.fn.files)
    ≡ numbered (origins_in l.things l.names.files) 0 l.fn.files
