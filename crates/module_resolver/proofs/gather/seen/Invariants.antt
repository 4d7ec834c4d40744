use Rattle.std.proofs.Common.{◌≡◌, take}
use Rattle.std.specs.Prelude.{filter}
use Rattle.module_resolver.specs.NamesOf.{sees_number}
use Rattle.module_resolver.proofs.gather.seen.Given as goal

abbrev pub invariant-loop-number : goal.invariant-loop-number
invariant-loop-number l = l.seen.items ≡ filter (sees_number l.files l.file) (take l.number-index l.order)
