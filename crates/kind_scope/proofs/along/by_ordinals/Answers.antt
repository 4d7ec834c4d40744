use Rattle.std.proofs.Common.{[], take, arith}
use Rattle.std.proofs.lemmas.List.Sums.{fold_more}
use Rattle.kind_scope.specs.declared.member.NumberedView.{NumberedView}
use Rattle.kind_scope.specs.Members.{place, along}
use Rattle.kind_scope.proofs.Places.{placed}
use Rattle.kind_scope.proofs.along.by_ordinals.Goals as goal

pub loop-one-preserved : goal.loop-one-preserved
loop-one-preserved c =
    let entries = c.in_ok-insert.ensures.entries in
    let old = c.loop-one.invariant in
    let item = c.one-item.is in
    let put = placed (λ (one : NumberedView). one.ordinal)
    (along (λ (one : NumberedView). one.ordinal) (take c.loop-one.one-index c.args.members.now)) c.one-item.result in
    let more = fold_more (place (λ (one : NumberedView). one.ordinal)) [] c.args.members.now c.loop-one.one-index c.one-item.result (omega arith) in
    cc
