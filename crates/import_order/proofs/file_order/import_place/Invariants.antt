use Rattle.std.proofs.Common.{◌≡◌, drop}
use Rattle.std.specs.Prelude.{find}
use Rattle.std.specs.Option.{option_map}
use Rattle.mojom_ast.specs.declared.file.Import.{Import}
use Rattle.import_order.specs.Order.{names_file, import_place}
use Rattle.import_order.proofs.file_order.import_place.Given as goal

abbrev pub invariant-loop-one : goal.invariant-loop-one
invariant-loop-one l =
    option_map (λ (one : Import). one.path.span.start) (find (names_file l.table l.number) (drop l.one-index l.file.tree.imports))
    ≡ import_place l.table l.number l.file
