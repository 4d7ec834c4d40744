use Rattle.std.proofs.Common.{take, ◌∷◌}
use Rattle.std.specs.Fmt.{HasWritten, IsPlainFormatter}
use Rattle.std.specs.List.{flat_map}
use Rattle.history_text.specs.History.{thing_text}
use Rattle.history_text.proofs.shown_lists.MoreThingsDisplay.fmt.Given as goal

abbrev pub invariant-loop-thing : goal.invariant-loop-thing
invariant-loop-thing g l =
    IsPlainFormatter l.initial.f
    → HasWritten g.W.Write.write_str_gives l.initial.f (flat_map (λ x. 44 ∷ thing_text x) (take l.thing-index l.thing-items)) l.f
