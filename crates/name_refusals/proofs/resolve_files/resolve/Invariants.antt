use Rattle.std.proofs.Common.{◌≡◌, ◌-◌, length, take}
use Rattle.std.specs.List.{fold, range_with_len}
use Rattle.mojom_files.specs.Refusals.{first_refusal}
use Rattle.name_refusals.specs.Known.{no_names, with_name}
use Rattle.name_refusals.specs.steps.Trees.{knows, AreKnown}
use Rattle.name_refusals.specs.NameRefusals.{names_before, refusals_at, names_refusal}
use Rattle.name_refusals.proofs.resolve_files.resolve.Given as goal

abbrev pub invariant-loop-number : goal.invariant-loop-number
invariant-loop-number l = record {
  sound : AreKnown l.known;
  known : knows l.known ≡ fold with_name no_names (names_before l.files (take l.number-index l.order));
  left : names_refusal l.files l.order
      ≡ first_refusal (refusals_at l.files l.order) (range_with_len l.number-index (length l.order - l.number-index));
}
