use Rattle.std.proofs.Common.{◌∙◌, arith, true}
use Rattle.load_run.specs.Commands.{caller, taker}
use Rattle.load_run.proofs.Sums.{ran_all, ran_two, still_both, still_few, still_legal}
use Rattle.load_run.proofs.counts.count_ran.Goals as goal

pub finish_pair-core-requires-clause-rested : goal.finish_pair-core-requires-clause-rested
finish_pair-core-requires-clause-rested c = c.requires.rested.first

pub finish_pair-last-requires-clause-rested : goal.finish_pair-last-requires-clause-rested
finish_pair-last-requires-clause-rested c =
    still_both c.args.core c.finish_pair-core.result.0 c.finish_pair-core.ensures.core true c.args.pairs.second c.requires.rested.second

pub finish_pair-last-requires-clause-legal : goal.finish_pair-last-requires-clause-legal
finish_pair-last-requires-clause-legal c =
    still_legal c.args.core c.finish_pair-core.result.0 c.finish_pair-core.ensures.core c.requires.legal

pub finish_pair-last-requires-clause-few : goal.finish_pair-last-requires-clause-few
finish_pair-last-requires-clause-few c = still_few c.args.core c.finish_pair-core.result.0 c.finish_pair-core.ensures.core c.requires.few

pub returns-clause-core : goal.returns-clause-core
returns-clause-core c = c.finish_pair-last.ensures.core ∙ c.finish_pair-core.ensures.core

pub returns-clause-ran : goal.returns-clause-ran
returns-clause-ran c =
    let two = ran_two c.args.core c.finish_pair-core.result.0 c.finish_pair-core.ensures.core (caller true) (taker true) c.finish_pair-last.result.1
    c.finish_pair-last.ensures.ran in
    omega (arith, ran_all c.args.core.events, c.finish_pair-core.ensures.ran, two)
