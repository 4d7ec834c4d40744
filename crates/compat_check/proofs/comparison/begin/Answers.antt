use Rattle.std.proofs.Common.{[], List, subst, ◌∙◌}
use Rattle.compat_model.specs.declared.pair.Pair.{Pair}
use Rattle.compat_check.specs.steps.PairSets.{IsSetOf}
use Rattle.compat_check.specs.steps.Skims.{Skims, with_seen}
use Rattle.compat_check.proofs.OneMore.{set_of_none}
use Rattle.compat_check.proofs.comparison.begin.Goals as goal

pub returns : goal.returns
returns c =
    subst (λ (l : List Pair). Skims Pair [] c.in_ok-kept.kept.items l × IsSetOf c.keep_new.new.seen (with_seen Pair c.in_ok-kept.kept.items []))
    (c.as_slice.ensures.value ∙ c.in_ok-pairs.ensures) (c.in_ok-kept.ensures.skims [] (set_of_none c.args.seen.now c.requires))
