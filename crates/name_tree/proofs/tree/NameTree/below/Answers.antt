use Rattle.std.proofs.Common.{rules, arith, ◌≡◌, [], sym, ◌∙◌}
use Rattle.std.specs.Prelude.{Some, None}
use Rattle.std.proofs.lemmas.Str.Pattern.{split_parts}
use Rattle.name_tree.specs.Trees.{child}
use Rattle.name_tree.proofs.Walks.{one_part, goes_on, ends_there}
use Rattle.name_tree.proofs.tree.NameTree.below.Goals as goal

pub returns-in_err-at : goal.returns-in_err-at
returns-in_err-at c =
    let step = child c.args.self.now in
    let left = c.loop-part.left.now in
    let cut = split_parts 46 left (Some (c.in-Some.part, c.in-Some.rest)) c.in-Some.ensures.cases (omega arith) in
    let none : step c.loop-part.at c.in-Some.part.now ≡ None = search rules in
    let nothing : c.from_residual.result ≡ None = search rules in
    nothing ∙ sym (c.loop-part.invariant.1 ∙ ends_there step c.loop-part.at left c.in-Some.part.now c.in-Some.rest.now cut.1 cut.0 none)

pub loop-part-preserved : goal.loop-part-preserved
loop-part-preserved c =
    let step = child c.args.self.now in
    let left = c.loop-part.left.now in
    let cut = split_parts 46 left (Some (c.in-Some.part, c.in-Some.rest)) c.in-Some.ensures.cases (omega arith) in
    let found : step c.loop-part.at c.in-Some.part.now ≡ Some c.in_ok-at.at = search rules in (
      search rules,
      c.loop-part.invariant.1 ∙ goes_on step c.loop-part.at c.in_ok-at.at left c.in-Some.part.now c.in-Some.rest.now cut.1 cut.0 found,
    )

pub returns : goal.returns
returns c =
    let step = child c.args.self.now in
    let left = c.loop-part.left.now in
    let none = split_parts 46 left None (rw c.in_default.is at c.split_once.ensures.cases) (omega arith) in
    c.child-2.ensures ∙ sym (c.loop-part.invariant.1 ∙ one_part step c.loop-part.at [] left none)
