use Rattle.std.proofs.Common.{◌≡◌, ◌++◌, take}
use Rattle.std.specs.List.{flat_map}
use Rattle.mojom_print.specs.FileText.{import_text}
use Rattle.mojom_print.proofs.file.push_imports.Given as goal

abbrev pub invariant-loop-import : goal.invariant-loop-import
invariant-loop-import l = l.out.items ≡ l.initial.out.items ++ flat_map import_text (take l.import-index l.imports)
