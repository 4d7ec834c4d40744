use Rattle.std.proofs.Common.{◌≡◌, drop}
use Rattle.std.specs.List.{flat_map}
use Rattle.mojom_files.specs.Refusals.{best_of}
use Rattle.const_eval.specs.Refused.{refused_parameter}
use Rattle.const_eval.specs.steps.Views.{site_at}
use Rattle.const_eval.proofs.members.check_each_parameter.Given as goal

abbrev pub invariant-loop-parameter : goal.invariant-loop-parameter
invariant-loop-parameter l =
    best_of l.best (flat_map (refused_parameter (site_at l.consts l.place) l.place.enclosing) (drop l.parameter-index l.parameters))
    ≡ best_of l.fn.best (flat_map (refused_parameter (site_at l.consts l.place) l.place.enclosing) l.parameters)
