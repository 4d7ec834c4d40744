use Rattle.std.proofs.Common.{◌≡◌, drop}
use Rattle.std.specs.Prelude.{None}
use Rattle.std.specs.List.{flat_map}
use Rattle.mojom_files.specs.Refusals.{best_of}
use Rattle.import_order.specs.Order.{missing, given_refusals}
use Rattle.import_order.proofs.given.refusal_of.Given as goal

abbrev pub invariant-loop-one : goal.invariant-loop-one
invariant-loop-one l =
    best_of l.best (flat_map (missing l.table l.number) (drop l.one-index l.file.tree.imports))
    ≡ best_of None (given_refusals l.table l.number l.file)
