use Rattle.std.proofs.Common.{◌≡◌, drop}
use Rattle.mojom_files.specs.Refusals.{best_of}
use Rattle.const_eval.specs.Refused.{refused_versions}
use Rattle.const_eval.specs.steps.Views.{site_at}
use Rattle.const_eval.proofs.versions.check_versions.Given as goal

abbrev pub invariant-loop-attribute : goal.invariant-loop-attribute
invariant-loop-attribute l =
    best_of l.best (refused_versions (site_at l.consts l.place) l.place.enclosing l.name (drop l.attribute-index l.attributes))
    ≡ best_of l.fn.best (refused_versions (site_at l.consts l.place) l.place.enclosing l.name l.attributes)
