use Rattle.std.proofs.Common.{◌≡◌, drop}
use Rattle.std.specs.List.{flat_map}
use Rattle.mojom_files.specs.Refusals.{best_of}
use Rattle.const_eval.specs.Refused.{refused_interface_member}
use Rattle.const_eval.specs.steps.Views.{site_at}
use Rattle.const_eval.proofs.members.check_interface_members.Given as goal

abbrev pub invariant-loop-member : goal.invariant-loop-member
invariant-loop-member l =
    best_of l.best (flat_map (refused_interface_member (site_at l.consts l.place) l.place.enclosing) (drop l.member-index l.members))
    ≡ best_of l.fn.best (flat_map (refused_interface_member (site_at l.consts l.place) l.place.enclosing) l.members)
