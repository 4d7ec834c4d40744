use Rattle.std.proofs.Common.{◌≡◌, take}
use Rattle.std.specs.List.{flat_map}
use Rattle.mojom_files.specs.Definitions.{enumerator_names}
use Rattle.module_resolver.specs.Enums.{names_in_enum}
use Rattle.module_resolver.proofs.gather.enumerator_names.Given as goal

abbrev pub invariant-loop-view : goal.invariant-loop-view
invariant-loop-view l = flat_map names_in_enum l.enums.items ≡ flat_map enumerator_names (take l.view-index l.views)
