use Rattle.std.proofs.Common.{◌≡◌, take, map}
use Rattle.module_resolver.specs.NamesOf.{names_in}
use Rattle.module_resolver.proofs.gather.names_of.Given as goal

abbrev pub invariant-loop-file : goal.invariant-loop-file
invariant-loop-file l = l.all.items ≡ map (names_in l.files l.order) (take l.file-index l.files)
