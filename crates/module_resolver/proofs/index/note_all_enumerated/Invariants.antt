use Rattle.std.proofs.Common.{take}
use Rattle.std.specs.Prelude.{filter}
use Rattle.mojom_files.specs.Refusals.{first_of}
use Rattle.module_resolver.specs.LookUp.{enumerated_in}
use Rattle.module_resolver.specs.steps.Owners.{Notes}
use Rattle.module_resolver.specs.Seats.{held}
use Rattle.module_resolver.specs.steps.Held.{IsSound}
use Rattle.module_resolver.proofs.index.note_all_enumerated.Given as goal

abbrev pub invariant-loop-file : goal.invariant-loop-file
invariant-loop-file l = record {
  sound : IsSound l.index;
  notes : Notes (held l.initial.index) (held l.index) (λ p q. first_of (enumerated_in l.files q) (filter p (take l.file-index l.order)));
}
