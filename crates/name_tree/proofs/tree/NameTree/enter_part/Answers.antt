use Rattle.std.proofs.Common.{arith, ◌≡◌, ℕ, ◌∙◌, ap, subst}
use Rattle.std.specs.Prelude.{Some, nat_eq, option_and_then}
use Rattle.std.specs.HashMap.{get, get_by_text}
use Rattle.name_tree.specs.Walks.{Grows}
use Rattle.name_tree.specs.Trees.{child, count, key_of}
use Rattle.name_tree.proofs.Steps.{same_grown, on_ok_then, if_ok_with}
use Rattle.name_tree.proofs.tree.NameTree.enter_part.Goals as goal

pub enter_number-requires-clause-there : goal.enter_number-requires-clause-there
enter_number-requires-clause-there c =
    let there = c.requires.there in
    let same = c.in_ok-number.ensures.numbers.nodes in
    omega (arith, there, same)

pub enter_number-requires-clause-given : goal.enter_number-requires-clause-given
enter_number-requires-clause-given c =
    c.in_ok-number.ensures.numbers.names.numbers.less c.args.part.now c.in_ok-number.number c.in_ok-number.ensures.is

pub returns-clause-grows : goal.returns-clause-grows
returns-clause-grows c =
    let old = c.args.self.now in
    let mid = c.number.new.self in
    let new = c.enter_number.new.self in
    let numbers = c.in_ok-number.ensures.numbers in
    on_ok_then (Grows (child mid) (count mid) (child new) (count new)) (Grows (child old) (count old) (child new) (count new)) c.enter_number.result
    (λ grows.
    same_grown (child old) (child mid) (child new) (count old) (count new) numbers.same
    (subst (λ (n : ℕ). Grows (child mid) n (child new) (count new)) numbers.nodes grows))
    c.enter_number.ensures.grows

pub returns-clause-is : goal.returns-clause-is
returns-clause-is c =
    let mid = c.number.new.self in
    let new = c.enter_number.new.self in
    let node = c.args.node in
    let part = c.args.part.now in
    let number = c.in_ok-number.number in
    if_ok_with (new.parts ≡ mid.parts) (λ made. get nat_eq new.below (key_of node number) ≡ Some made) (λ made. child new node part ≡ Some made)
    c.enter_number.result
    (λ made parts is.
    ap (option_and_then (λ (n : ℕ). get nat_eq new.below (key_of node n))) (ap (λ m. get_by_text m part) parts ∙ c.in_ok-number.ensures.is) ∙ is)
    c.enter_number.ensures.parts c.enter_number.ensures.is
