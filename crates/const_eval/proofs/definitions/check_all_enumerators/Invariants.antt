use Rattle.std.proofs.Common.{◌≡◌, drop}
use Rattle.mojom_files.specs.Refusals.{best_of}
use Rattle.const_eval.specs.Refused.{refused_enumerators}
use Rattle.const_eval.specs.steps.Views.{site_of}
use Rattle.const_eval.proofs.definitions.check_all_enumerators.Given as goal

abbrev pub invariant-loop-definition : goal.invariant-loop-definition
invariant-loop-definition l =
    best_of l.best (refused_enumerators (site_of l.here) l.thing (drop l.definition-index l.definitions))
    ≡ best_of l.fn.best (refused_enumerators (site_of l.here) l.first l.definitions)
