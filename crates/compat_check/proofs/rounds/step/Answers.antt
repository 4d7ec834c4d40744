use Rattle.std.proofs.Common.{List, subst, ◌∙◌}
use Rattle.compat_model.specs.declared.pair.Pair.{Pair}
use Rattle.compat_check.specs.steps.PairSets.{IsSetOf}
use Rattle.compat_check.specs.steps.Skims.{Skims, with_seen}
use Rattle.compat_check.proofs.rounds.step.Goals as goal

pub returns-clause-skims : goal.returns-clause-skims
returns-clause-skims c list is =
    subst (λ (l : List Pair). Skims Pair list c.in_ok-kept.kept.items l × IsSetOf c.keep_new.new.seen (with_seen Pair c.in_ok-kept.kept.items list))
    (c.as_slice.ensures.value ∙ c.in_ok-following.ensures) (c.in_ok-kept.ensures.skims list is)
