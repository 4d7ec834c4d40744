use Rattle.std.proofs.Common.{rules, arith, ◌≡◌, [], ◌∙◌}
use Rattle.std.specs.Prelude.{Some, None}
use Rattle.std.proofs.lemmas.Str.Pattern.{split_parts}
use Rattle.name_tree.specs.Walks.{walk, Grows}
use Rattle.name_tree.specs.Trees.{child, count}
use Rattle.name_tree.proofs.Walks.{one_part, goes_on}
use Rattle.name_tree.proofs.Steps.{grown_twice, if_ok_with}
use Rattle.name_tree.proofs.tree.NameTree.enter.Goals as goal

pub loop-part-preserved : goal.loop-part-preserved
loop-part-preserved c =
    let old = c.loop-part.invariant in
    let at = c.loop-part.at in
    let left = c.loop-part.left.now in
    let part = c.in-Some.part.now in
    let next = c.in_ok-at.at in
    let cut = split_parts 46 left (Some (c.in-Some.part, c.in-Some.rest)) c.in-Some.ensures.cases (omega arith) in
    let facts = c.in_ok-at.ensures in (
      search rules,
      facts.tree,
      grown_twice (child c.args.self.now) (child c.loop-part.self) (child c.enter_part.new.self) (count c.args.self.now) (count c.loop-part.self)
          (count c.enter_part.new.self) old.2 facts.grows,
      (facts.tree.tree.later at part next facts.is).1,
      λ later keep.
          old.4 later (λ node other below is. keep node other below (facts.grows.kept node other below is))
          ∙ goes_on later at next left part c.in-Some.rest.now cut.1 cut.0 (keep at part next facts.is),
    )

pub returns-clause-is : goal.returns-clause-is
returns-clause-is c =
    let step = child c.enter_part-2.new.self in
    let at = c.loop-part.at in
    let left = c.loop-part.left.now in
    let none = split_parts 46 left None (rw c.in_default.is at c.split_once.ensures.cases) (omega arith) in
    if_ok_with (Grows (child c.loop-part.self) (count c.loop-part.self) step (count c.enter_part-2.new.self)) (λ made. step at left ≡ Some made)
    (λ made. walk step c.args.node [] c.args.text.now ≡ Some made) c.enter_part-2.result
    (λ made grows is. c.loop-part.invariant.4 step grows.kept ∙ (one_part step at [] left none ∙ is)) c.enter_part-2.ensures.grows
    c.enter_part-2.ensures.is
