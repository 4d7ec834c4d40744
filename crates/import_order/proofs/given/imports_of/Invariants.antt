use Rattle.std.proofs.Common.{◌≡◌, drop, ◌++◌}
use Rattle.std.specs.List.{flat_map}
use Rattle.std.specs.Option.{option_to_list}
use Rattle.mojom_ast.specs.declared.file.Import.{Import}
use Rattle.import_order.specs.Order.{imported, imports_of}
use Rattle.import_order.proofs.given.imports_of.Given as goal

abbrev pub invariant-loop-one : goal.invariant-loop-one
invariant-loop-one l =
    l.numbers.items ++ flat_map (λ (one : Import). option_to_list (imported l.table one)) (drop l.one-index l.file.tree.imports)
    ≡ imports_of l.table l.file
