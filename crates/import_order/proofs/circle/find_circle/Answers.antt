use Rattle.std.proofs.Common.{ℕ, length, ◌∙◌, ap, sym, subst, [], ◌∷◌, ◌++◌}
use Rattle.std.specs.Prelude.{not}
use Rattle.import_order.specs.Imports.{has, all_files, IsWalk}
use Rattle.import_order.specs.steps.Taking.{NumberList}
use Rattle.import_order.proofs.Walks.{found_below, left_is, walk_begins, walk_more}
use Rattle.import_order.proofs.circle.find_circle.Goals as goal

pub loop-path-init : goal.loop-path-init
loop-path-init c = record {
  limit = ap (λ (v : NumberList). v.limit) c.in_ok-path.ensures;
  within = found_below (λ (k : ℕ). not (has c.args.taken.now.numbers k)) (length c.args.imports.now) c.args.from c.requires.from;
  left = left_is c.args.taken.now.numbers (all_files c.args.imports.now) c.args.from c.requires.from;
  walk =
      subst (λ (v : NumberList). IsWalk c.args.imports.now c.args.taken.now.numbers (v.numbers ++ c.args.from ∷ [])) (sym c.in_ok-path.ensures)
      (walk_begins c.args.imports.now c.args.taken.now.numbers c.args.from c.requires.from);
}

pub loop-path-preserved : goal.loop-path-preserved
loop-path-preserved c = record {
  limit = ap (λ (v : NumberList). v.limit) c.in_ok-push.ensures.ok ∙ c.loop-path.invariant.limit;
  within = c.next_on_walk-here.ensures.within;
  left = c.next_on_walk-here.ensures.left;
  walk =
      subst (λ (v : NumberList). IsWalk c.args.imports.now c.args.taken.now.numbers (v.numbers ++ c.next_on_walk-here.result ∷ []))
      (sym c.in_ok-push.ensures.ok)
      (walk_more c.args.imports.now c.args.taken.now.numbers c.loop-path.path.numbers c.loop-path.here c.next_on_walk-here.result
      c.loop-path.invariant.walk c.next_on_walk-here.ensures.leads);
}
