use Rattle.std.proofs.Common.{◌≡◌, drop, ◌++◌}
use Rattle.std.specs.List.{flat_map}
use Rattle.mojom_files.specs.Definitions.{with_nested, definitions_of}
use Rattle.mojom_files.proofs.definition_view.definitions.Given as goal

abbrev pub invariant-loop-definition : goal.invariant-loop-definition
invariant-loop-definition l =
    l.found.items ++ flat_map (with_nested l.module_name) (drop l.definition-index l.file.definitions) ≡ definitions_of l.file
