use Rattle.std.proofs.Common.{◌≡◌, ap, rules, subst}
use Rattle.std.specs.List.{IsAllAdjacentAnswer}
use Rattle.std.specs.Ordering.{is_lt, is_some_and, partial_lt}
use Rattle.std.proofs.lemmas.List.Sorted.{answers_always}
use Rattle.core_state.proofs.Differing.{differ_by_order}
use Rattle.core_state.proofs.distinct.all_differ.Goals as goal

pub returns : goal.returns
returns g c =
    let h = c.is_sorted_by.ensures.cases (partial_lt g.T.PartialOrd.partial_cmp) (answers_always _ _ _ (λ f a r f' h. search rules)) in
    differ_by_order g.met.T.Ord.total g.met.T.Ord.matches_eq (λ x y. ap (is_some_and is_lt) (g.met.T.Ord.matches_partial_cmp x y))
    c.args.items.items c.sort_unstable.new.self.items c.sort_unstable.ensures.permutation c.sort_unstable.ensures.sorted c.is_sorted_by.result
    (subst (λ ys. IsAllAdjacentAnswer (λ x y b. b ≡ partial_lt g.T.PartialOrd.partial_cmp x y) ys c.is_sorted_by.result) c.deref.ensures.value h)
