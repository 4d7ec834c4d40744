use Rattle.std.proofs.Common.{◌≡◌, ◌+◌, drop}
use Rattle.mojom_files.specs.Refusals.{best_of}
use Rattle.const_eval.specs.Things.{numbered}
use Rattle.const_eval.specs.Refused.{refused_definition}
use Rattle.const_eval.specs.steps.Views.{site_of}
use Rattle.const_eval.proofs.definitions.check_definitions.Given as goal

abbrev pub invariant-loop-number : goal.invariant-loop-number
invariant-loop-number l =
    best_of l.best (numbered (refused_definition (site_of l.here)) (l.first + l.number) (drop l.number l.fn.definitions))
    ≡ best_of l.fn.best (numbered (refused_definition (site_of l.here)) l.first l.fn.definitions)
