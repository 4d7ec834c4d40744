use Rattle.std.proofs.Common.{List, subst, ap}
use Rattle.std.specs.List.{flat_map}
use Rattle.compat_model.specs.declared.pair.Pair.{Pair}
use Rattle.compat_model.specs.declared.root.Root.{Root}
use Rattle.compat_model.specs.Pairs.{follows}
use Rattle.compat_model.specs.Verdicts.{root_pairs}
use Rattle.compat_check.specs.steps.PairSets.{IsSetOf}
use Rattle.compat_check.specs.steps.Skims.{Skims, with_seen}
use Rattle.compat_check.proofs.Turns.{begins}
use Rattle.compat_check.proofs.comparison.search_behind.Goals as goal

pub search-requires-clause-round : goal.search-requires-clause-round
search-requires-clause-round c =
    let old = c.args.old.now in
    let new = c.args.new.now in
    begins old new c.begin.new.seen c.step.new.seen c.in_ok-start.start.items c.in_ok-level.level.items (flat_map root_pairs c.args.roots.now)
    c.requires.none (ap (λ (rs : List Root). flat_map root_pairs rs) c.requires.roots) c.in_ok-start.ensures
    (λ list is. subst (λ (l : List Pair). Skims Pair list c.in_ok-level.level.items (flat_map (follows old new) l)
    × IsSetOf c.step.new.seen (with_seen Pair c.in_ok-level.level.items list)) c.as_slice.ensures.value (c.in_ok-level.ensures.skims list is))
