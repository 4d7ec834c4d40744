use Rattle.std.proofs.Common.{subst, sym}
use Rattle.mj_base.specs.declared.ids.SeqId.{SeqId}
use Rattle.bind_model.specs.declared.asked.Asked.TheVariants as asks
use Rattle.script_run.specs.Draining.{HasRested}
use Rattle.load_run.specs.Commands.{caller, end_of}
use Rattle.load_run.specs.steps.Doing.{AskedOne}
use Rattle.load_run.proofs.Pairing.{below, both_caller, caller_below}
use Rattle.load_run.proofs.pairs.hear.Goals as goal

pub take-core-requires-clause-seq : goal.take-core-requires-clause-seq
take-core-requires-clause-seq c =
    below c.caller-seq.result (caller c.args.is_second) c.args.core.seqs c.caller-seq.ensures c.requires.seqs (caller_below c.args.is_second)

pub take-core-requires-clause-rested : goal.take-core-requires-clause-rested
take-core-requires-clause-rested c =
    subst (λ (s : SeqId). HasRested c.args.core s c.args.pair.caller) (sym c.caller-seq.ensures) c.requires.rested.caller

pub returns-in-Ok-clause-one : goal.returns-in-Ok-clause-one
returns-in-Ok-clause-one c =
    let took = rw c.in-Ok.is at c.take-core.ensures.took in
    subst (λ (s : SeqId). AskedOne s (asks.Take (end_of s)) c.args.core c.take-core.result.0) c.caller-seq.ensures (took.0, took.1)

pub returns-in-Ok-clause-rested : goal.returns-in-Ok-clause-rested
returns-in-Ok-clause-rested c =
    let s = caller c.args.is_second in
    let took = rw c.in-Ok.is at c.take-core.ensures.took in
    let rested = rw c.in-Ok.is at c.take-core.ensures.rested in
    both_caller c.args.is_second (asks.Take (end_of s)) c.args.core c.take-core.result.0 c.args.pair c.take-core.result.1 c.requires.rested
    (subst (λ (q : SeqId). AskedOne q (asks.Take (end_of q)) c.args.core c.take-core.result.0) c.caller-seq.ensures (took.0, took.1))
    (subst (λ (q : SeqId). HasRested c.take-core.result.0 q c.take-core.result.1) c.caller-seq.ensures rested)
