use Rattle.std.proofs.Common.{◌∙◌, arith, refl}
use Rattle.load_run.specs.Commands.{caller, taker}
use Rattle.load_run.proofs.Sums.{ran_here, still_few, still_legal, still_rested}
use Rattle.load_run.proofs.counts.finish_pair.Goals as goal

pub finish-core-requires-clause-rested : goal.finish-core-requires-clause-rested
finish-core-requires-clause-rested c =
    still_rested c.args.core c.args.core refl c.caller-seq.result (caller c.args.is_second) c.args.pair.caller c.caller-seq.ensures
    c.requires.rested.caller

pub finish-last-requires-clause-rested : goal.finish-last-requires-clause-rested
finish-last-requires-clause-rested c =
    still_rested c.args.core c.finish-core.result.0 c.finish-core.ensures.core c.taker-other.result (taker c.args.is_second) c.args.pair.taker
    c.taker-other.ensures c.requires.rested.taker

pub finish-last-requires-clause-legal : goal.finish-last-requires-clause-legal
finish-last-requires-clause-legal c = still_legal c.args.core c.finish-core.result.0 c.finish-core.ensures.core c.requires.legal

pub finish-last-requires-clause-few : goal.finish-last-requires-clause-few
finish-last-requires-clause-few c = still_few c.args.core c.finish-core.result.0 c.finish-core.ensures.core c.requires.few

pub returns-clause-core : goal.returns-clause-core
returns-clause-core c = c.finish-last.ensures.core ∙ c.finish-core.ensures.core

pub returns-clause-ran : goal.returns-clause-ran
returns-clause-ran c =
    let one = ran_here c.args.core c.args.core refl c.caller-seq.result (caller c.args.is_second) c.finish-core.result.1 c.caller-seq.ensures
    c.finish-core.ensures.ran in
    let two = ran_here c.args.core c.finish-core.result.0 c.finish-core.ensures.core c.taker-other.result (taker c.args.is_second)
    c.finish-last.result.1 c.taker-other.ensures c.finish-last.ensures.ran in
    omega (arith, one, two)
