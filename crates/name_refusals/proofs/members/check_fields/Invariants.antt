use Rattle.std.proofs.Common.{◌≡◌, take}
use Rattle.std.specs.List.{flat_map}
use Rattle.mojom_files.specs.Refusals.{best_of}
use Rattle.name_refusals.specs.Uses.{uses_in_struct}
use Rattle.name_refusals.specs.NameRefusals.{refused_uses}
use Rattle.name_refusals.proofs.members.check_fields.Given as goal

abbrev pub invariant-loop-member : goal.invariant-loop-member
invariant-loop-member l =
    let uses = flat_map (uses_in_struct l.place.enclosing) (take l.member-index l.members) in
    l.best ≡ best_of l.fn.best (refused_uses l.place.files l.place.file uses)
