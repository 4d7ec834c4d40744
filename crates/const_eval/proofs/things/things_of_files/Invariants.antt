use Rattle.std.proofs.Common.{◌≡◌, drop, ◌++◌}
use Rattle.const_eval.specs.Things.{things_from, things_of_files}
use Rattle.const_eval.proofs.things.things_of_files.Given as goal

abbrev pub invariant-loop-file : goal.invariant-loop-file
invariant-loop-file l = l.made.items ++ things_from l.first (drop l.file-index l.files) ≡ things_of_files l.files
