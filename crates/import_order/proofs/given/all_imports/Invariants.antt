use Rattle.std.proofs.Common.{◌≡◌, map, take}
use Rattle.import_order.specs.Order.{imports_of}
use Rattle.import_order.proofs.given.all_imports.Given as goal

abbrev pub invariant-loop-file : goal.invariant-loop-file
invariant-loop-file l = l.imports.items ≡ map (imports_of l.table) (take l.file-index l.files)
