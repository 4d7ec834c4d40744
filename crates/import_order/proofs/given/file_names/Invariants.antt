use Rattle.std.proofs.Common.{◌≡◌, map, take}
use Rattle.mojom_files.specs.declared.named_file.NamedFile.{NamedFile}
use Rattle.import_order.specs.steps.Taking.{AreTexts}
use Rattle.import_order.proofs.given.file_names.Given as goal

abbrev pub invariant-loop-file : goal.invariant-loop-file
invariant-loop-file l = record {
  are : l.names.items ≡ map (λ (f : NamedFile). f.name) (take l.file-index l.files);
  texts : AreTexts l.names.items;
}
