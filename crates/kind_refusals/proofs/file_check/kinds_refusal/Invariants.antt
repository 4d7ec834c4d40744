use Rattle.std.proofs.Common.{◌≡◌, drop}
use Rattle.kind_refusals.specs.KindRefusals.{kinds_refusal}
use Rattle.kind_refusals.proofs.file_check.kinds_refusal.Given as goal

abbrev pub invariant-loop-number : goal.invariant-loop-number
invariant-loop-number l =
    kinds_refusal l.names.files l.consts l.files (drop l.number-index l.order) ≡ kinds_refusal l.names.files l.consts l.files l.order
