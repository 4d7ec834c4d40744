use Rattle.std.proofs.Common.{take, ◌∷◌}
use Rattle.std.specs.Fmt.{HasWritten, IsPlainFormatter}
use Rattle.std.specs.List.{flat_map}
use Rattle.history_text.specs.History.{pending_text}
use Rattle.history_text.proofs.shown_lists.MorePendingsDisplay.fmt.Given as goal

abbrev pub invariant-loop-pending : goal.invariant-loop-pending
invariant-loop-pending g l =
    IsPlainFormatter l.initial.f
    → HasWritten g.W.Write.write_str_gives l.initial.f (flat_map (λ x. 44 ∷ pending_text x) (take l.pending-index l.pending-items)) l.f
