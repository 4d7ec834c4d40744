use Rattle.std.proofs.Common.{◌≡◌, drop}
use Rattle.import_order.specs.Imports.{has}
use Rattle.module_resolver.specs.Seats.{first_seen}
use Rattle.module_resolver.proofs.owners.Owners.first_seen.Given as goal

abbrev pub invariant-loop-target : goal.invariant-loop-target
invariant-loop-target l = first_seen (has l.seen) l.fn.self ≡ first_seen (has l.seen) (drop l.target-index l.target-items)
