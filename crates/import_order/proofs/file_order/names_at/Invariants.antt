use Rattle.std.proofs.Common.{◌≡◌, take}
use Rattle.import_order.specs.Order.{file_names, names_at}
use Rattle.import_order.proofs.file_order.names_at.Given as goal

abbrev pub invariant-loop-number : goal.invariant-loop-number
invariant-loop-number l = l.names.items ≡ names_at (file_names l.files) (take l.number-index l.numbers)
