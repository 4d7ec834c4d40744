use Rattle.std.proofs.Common.{◌≡◌, take}
use Rattle.std.specs.List.{flat_map}
use Rattle.mojom_files.specs.Refusals.{best_of}
use Rattle.name_refusals.specs.Uses.{uses_in_parameter}
use Rattle.name_refusals.specs.NameRefusals.{refused_uses}
use Rattle.name_refusals.proofs.members.check_parameters.Given as goal

abbrev pub invariant-loop-parameter : goal.invariant-loop-parameter
invariant-loop-parameter l =
    let uses = flat_map (uses_in_parameter l.place.enclosing) (take l.parameter-index l.parameters) in
    l.best ≡ best_of l.fn.best (refused_uses l.place.files l.place.file uses)
