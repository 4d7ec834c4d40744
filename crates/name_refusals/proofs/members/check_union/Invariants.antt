use Rattle.std.proofs.Common.{◌≡◌, take}
use Rattle.std.specs.List.{flat_map}
use Rattle.mojom_files.specs.Refusals.{best_of}
use Rattle.name_refusals.specs.Uses.{uses_in_union}
use Rattle.name_refusals.specs.NameRefusals.{refused_uses}
use Rattle.name_refusals.proofs.members.check_union.Given as goal

abbrev pub invariant-loop-field : goal.invariant-loop-field
invariant-loop-field l =
    let uses = flat_map (uses_in_union l.place.enclosing) (take l.field-index l.fields) in
    l.best ≡ best_of l.fn.best (refused_uses l.place.files l.place.file uses)
