use Rattle.std.proofs.Common.{◌≡◌, take, map}
use Rattle.std.specs.List.{flat_map}
use Rattle.mojom_files.specs.Refusals.{best_of}
use Rattle.name_refusals.specs.NameRefusals.{duplicate, named_as_basic}
use Rattle.name_refusals.proofs.repeats.check_basic_names.Given as goal

abbrev pub invariant-loop-view : goal.invariant-loop-view
invariant-loop-view l = l.best ≡ best_of l.fn.best (map (duplicate l.file) (flat_map named_as_basic (take l.view-index l.views)))
