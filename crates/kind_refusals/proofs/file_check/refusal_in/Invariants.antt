use Rattle.std.proofs.Common.{◌≡◌, drop, None}
use Rattle.std.specs.List.{flat_map}
use Rattle.mojom_files.specs.Refusals.{best_of}
use Rattle.kind_refusals.specs.KindRefusals.{refused_definition, refusals_in}
use Rattle.kind_refusals.proofs.file_check.refusal_in.Given as goal

abbrev pub invariant-loop-view : goal.invariant-loop-view
invariant-loop-view l =
    best_of l.best (flat_map (refused_definition l.names.files l.consts l.number) (drop l.view-index l.view-items))
    ≡ best_of None (refusals_in l.names.files l.consts l.number l.file)
