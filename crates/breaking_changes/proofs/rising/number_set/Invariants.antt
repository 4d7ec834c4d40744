use Rattle.std.proofs.Common.{◌≡◌, take}
use Rattle.compat_model.specs.Members.{rising}
use Rattle.breaking_changes.proofs.rising.number_set.Given as goal

abbrev pub invariant-loop-number : goal.invariant-loop-number
invariant-loop-number l = l.found.keys ≡ rising (take l.number-index l.numbers)
