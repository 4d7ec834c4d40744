use Rattle.std.proofs.Common.{◌∙◌, ℕ, ap, map}
use Rattle.std.specs.Map.{values_of}
use Rattle.kind_scope.specs.declared.member.NumberedView.{NumberedView}
use Rattle.kind_scope.specs.Members.{Numbered, along}
use Rattle.kind_scope.specs.Views.{numbered_view}
use Rattle.kind_scope.proofs.Places.{values_of-keyed, map-along}
use Rattle.kind_scope.proofs.along.along_ordinals.Goals as goal

pub returns : goal.returns
returns c =
    let number : NumberedView → ℕ = λ one. one.ordinal in
    let stands = ap values_of c.in_ok-found.ensures in
    let sorted = c.in_ok-sorted.ensures ∙ (stands ∙ values_of-keyed number (along number c.args.members.now)) in
    ap (map numbered_view) sorted ∙ map-along numbered_view (λ (one : Numbered). one.ordinal) c.args.members.now
