use Rattle.std.proofs.Common.{◌≡◌, take}
use Rattle.std.specs.List.{flat_map}
use Rattle.mojom_files.specs.Refusals.{best_of}
use Rattle.name_refusals.specs.Uses.{uses_in_enum}
use Rattle.name_refusals.specs.NameRefusals.{refused_uses}
use Rattle.name_refusals.proofs.members.check_enum.Given as goal

abbrev pub invariant-loop-enumerator : goal.invariant-loop-enumerator
invariant-loop-enumerator l =
    let uses = flat_map (uses_in_enum l.place.enclosing) (take l.enumerator-index l.enumerators) in
    l.best ≡ best_of l.fn.best (refused_uses l.place.files l.place.file uses)
