use Rattle.std.proofs.Common.{◌≡◌, ◌+◌, drop}
use Rattle.mojom_files.specs.Refusals.{best_of}
use Rattle.const_eval.specs.Things.{numbered}
use Rattle.const_eval.specs.Refused.{refused_enumerator}
use Rattle.const_eval.specs.steps.Views.{site_at}
use Rattle.const_eval.proofs.members.check_enumerators.Given as goal

abbrev pub invariant-loop-number : goal.invariant-loop-number
invariant-loop-number l =
    best_of l.best (numbered (refused_enumerator (site_at l.consts l.place) l.place.enclosing) (l.first + l.number) (drop l.number l.fn.enumerators))
    ≡ best_of l.fn.best (numbered (refused_enumerator (site_at l.consts l.place) l.place.enclosing) l.first l.fn.enumerators)
