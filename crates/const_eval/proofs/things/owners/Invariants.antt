use Rattle.std.proofs.Common.{◌≡◌, drop, ◌++◌}
use Rattle.const_eval.specs.Things.{numbered, owners_in, owners}
use Rattle.const_eval.proofs.things.owners.Given as goal

abbrev pub invariant-loop-number : goal.invariant-loop-number
invariant-loop-number l =
    l.owners.items ++ numbered owners_in l.number (drop l.number l.fn.definitions) ≡ owners l.fn.definitions
