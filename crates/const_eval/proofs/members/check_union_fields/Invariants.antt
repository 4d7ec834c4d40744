use Rattle.std.proofs.Common.{◌≡◌, drop}
use Rattle.std.specs.List.{flat_map}
use Rattle.mojom_files.specs.Refusals.{best_of}
use Rattle.const_eval.specs.Refused.{refused_union_field}
use Rattle.const_eval.specs.steps.Views.{site_at}
use Rattle.const_eval.proofs.members.check_union_fields.Given as goal

abbrev pub invariant-loop-field : goal.invariant-loop-field
invariant-loop-field l =
    best_of l.best (flat_map (refused_union_field (site_at l.consts l.place) l.place.enclosing) (drop l.field-index l.fields))
    ≡ best_of l.fn.best (flat_map (refused_union_field (site_at l.consts l.place) l.place.enclosing) l.fields)
