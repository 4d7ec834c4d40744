use Rattle.std.proofs.Common.{◌≡◌, take, drop, map}
use Rattle.std.specs.List.{fold}
use Rattle.mojom_files.specs.Refusals.{best_of}
use Rattle.name_refusals.specs.Known.{with_name}
use Rattle.name_refusals.specs.steps.Trees.{knows, AreKnown}
use Rattle.name_refusals.specs.NameRefusals.{duplicate, repeated_definitions}
use Rattle.name_refusals.proofs.repeats.check_full_names.Given as goal

abbrev pub invariant-loop-view : goal.invariant-loop-view
invariant-loop-view l = record {
  known : AreKnown l.known;
  kept : best_of l.best (map (duplicate l.file) (repeated_definitions (knows l.known) (drop l.view-index l.views)))
      ≡ best_of l.fn.best (map (duplicate l.file) (repeated_definitions (knows l.fn.known) l.views));
  added : knows l.known ≡ fold with_name (knows l.fn.known) (map (λ d. d.full) (take l.view-index l.views));
}
