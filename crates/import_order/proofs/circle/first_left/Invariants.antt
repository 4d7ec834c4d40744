use Rattle.std.proofs.Common.{◌≡◌, drop}
use Rattle.import_order.specs.Imports.{first_left}
use Rattle.import_order.proofs.circle.first_left.Given as goal

abbrev pub invariant-loop-file : goal.invariant-loop-file
invariant-loop-file l = first_left l.taken.numbers l.files ≡ first_left l.taken.numbers (drop l.file-index l.files)
