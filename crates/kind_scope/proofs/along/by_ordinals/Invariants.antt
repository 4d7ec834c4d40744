use Rattle.std.proofs.Common.{◌≡◌, take, map}
use Rattle.kind_scope.specs.declared.member.NumberedView.{NumberedView}
use Rattle.kind_scope.specs.Members.{along}
use Rattle.kind_scope.proofs.along.by_ordinals.Given as goal

abbrev pub invariant-loop-one : goal.invariant-loop-one
invariant-loop-one l =
    l.found.entries ≡ map (λ (one : NumberedView). (one.ordinal, one)) (along (λ (one : NumberedView). one.ordinal) (take l.one-index l.members))
