use Rattle.std.proofs.Common.{◌≡◌, take}
use Rattle.mojom_files.specs.Refusals.{best_of}
use Rattle.name_refusals.specs.Uses.{uses_in_attributes}
use Rattle.name_refusals.specs.NameRefusals.{refused_uses}
use Rattle.name_refusals.proofs.uses.check_attributes.Given as goal

abbrev pub invariant-loop-attribute : goal.invariant-loop-attribute
invariant-loop-attribute l =
    l.best ≡ best_of l.fn.best (refused_uses l.place.files l.place.file (uses_in_attributes l.place.enclosing (take l.attribute-index l.attributes)))
