use Rattle.std.proofs.Common.{subst, sym}
use Rattle.std.specs.Prelude.{IfOk, OnOk}
use Rattle.mj_base.specs.declared.ids.SeqId.{SeqId}
use Rattle.bind_model.specs.declared.asked.Asked.TheVariants as asks
use Rattle.script_run.specs.Draining.{HasRested}
use Rattle.load_run.specs.Commands.{end_of, taker}
use Rattle.load_run.specs.steps.Doing.{ToldOne}
use Rattle.load_run.proofs.Pairing.{below, both_taker, if_ok_both, taker_below}
use Rattle.load_run.proofs.pairs.receive.Goals as goal

pub take-core-requires-clause-seq : goal.take-core-requires-clause-seq
take-core-requires-clause-seq c =
    below c.taker-seq.result (taker c.args.is_second) c.args.core.seqs c.taker-seq.ensures c.requires.seqs (taker_below c.args.is_second)

pub take-core-requires-clause-rested : goal.take-core-requires-clause-rested
take-core-requires-clause-rested c =
    subst (λ (s : SeqId). HasRested c.args.core s c.args.pair.taker) (sym c.taker-seq.ensures) c.requires.rested.taker

pub returns-clause-took : goal.returns-clause-took
returns-clause-took c =
    subst
    (λ (s : SeqId). IfOk c.take-core.result.2 (λ found. ToldOne s (asks.Take (end_of s)) found c.args.core c.take-core.result.0))
    c.taker-seq.ensures c.take-core.ensures.took

pub returns-clause-rested : goal.returns-clause-rested
returns-clause-rested c =
    let s = taker c.args.is_second in
    if_ok_both (λ found. ToldOne s (asks.Take (end_of s)) found c.args.core c.take-core.result.0) c.take-core.result.2
    (λ found took rested.
    both_taker c.args.is_second (asks.Take (end_of s)) c.args.core c.take-core.result.0 c.args.pair c.take-core.result.1 c.requires.rested
    (took.0, took.1) rested)
    (subst
    (λ (q : SeqId). IfOk c.take-core.result.2 (λ found. ToldOne q (asks.Take (end_of q)) found c.args.core c.take-core.result.0))
    c.taker-seq.ensures c.take-core.ensures.took)
    (subst (λ (q : SeqId). OnOk c.take-core.result.2 (HasRested c.take-core.result.0 q c.take-core.result.1))
    c.taker-seq.ensures c.take-core.ensures.rested)
