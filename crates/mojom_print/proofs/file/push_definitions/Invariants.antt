use Rattle.std.proofs.Common.{◌≡◌, ◌++◌, take}
use Rattle.std.specs.List.{flat_map}
use Rattle.mojom_print.specs.FileText.{definition_text}
use Rattle.mojom_print.proofs.file.push_definitions.Given as goal

abbrev pub invariant-loop-definition : goal.invariant-loop-definition
invariant-loop-definition l = l.out.items ≡ l.initial.out.items ++ flat_map definition_text (take l.definition-index l.definitions)
