use Rattle.std.proofs.Common.{◌≡◌, ◌+◌, ◌^◌, ◌≤◌, drop, map}
use Rattle.mojom_files.specs.Refusals.{best_of}
use Rattle.const_eval.specs.Refused.{refused_ordinals}
use Rattle.const_eval.specs.steps.Views.{member_view}
use Rattle.const_eval.proofs.ordinals.check_ordinals.Given as goal

abbrev pub invariant-loop-member : goal.invariant-loop-member
invariant-loop-member l = record {
  small : l.next ≤ 2 ^ 64 + l.member-index;
  best : best_of l.best (refused_ordinals l.file l.next (map member_view (drop l.member-index l.members)))
      ≡ best_of l.fn.best (refused_ordinals l.file 0 (map member_view l.members));
}
