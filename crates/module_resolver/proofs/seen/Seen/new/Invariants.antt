use Rattle.std.proofs.Common.{◌≡◌, ℕ, take}
use Rattle.std.specs.Prelude.{nat_eq}
use Rattle.indexmap.specs.IndexSet.{contains}
use Rattle.import_order.specs.Imports.{has}
use Rattle.module_resolver.proofs.seen.Seen.new.Given as goal

abbrev pub invariant-loop-number : goal.invariant-loop-number
invariant-loop-number l = (one : ℕ) → contains nat_eq l.known one ≡ has (take l.number-index l.fn.numbers) one
