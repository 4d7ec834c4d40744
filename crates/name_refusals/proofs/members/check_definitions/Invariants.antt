use Rattle.std.proofs.Common.{◌≡◌, take}
use Rattle.std.specs.List.{flat_map}
use Rattle.mojom_files.specs.Refusals.{best_of}
use Rattle.name_refusals.specs.Uses.{uses_of}
use Rattle.name_refusals.specs.NameRefusals.{refused_uses}
use Rattle.name_refusals.proofs.members.check_definitions.Given as goal

abbrev pub invariant-loop-view : goal.invariant-loop-view
invariant-loop-view l =
    let uses = flat_map uses_of (take l.view-index l.views) in
    l.best ≡ best_of l.fn.best (refused_uses l.names.files l.file uses)
