use Rattle.std.proofs.Common.{subst, sym}
use Rattle.std.specs.Prelude.{OnOk}
use Rattle.mj_base.specs.declared.ids.SeqId.{SeqId}
use Rattle.wire_model.specs.Trees.{view}
use Rattle.bind_model.specs.declared.asked.Asked.TheVariants as asks
use Rattle.script_run.specs.Draining.{HasRested}
use Rattle.load_run.specs.Commands.{alone, caller, end_of}
use Rattle.load_run.specs.steps.Doing.{AskedOne}
use Rattle.load_run.proofs.Pairing.{below, both_caller, caller_below, on_ok_both}
use Rattle.load_run.proofs.pairs.call.Goals as goal

pub call-core-requires-clause-seq : goal.call-core-requires-clause-seq
call-core-requires-clause-seq c =
    below c.caller-seq.result (caller c.args.is_second) c.args.core.seqs c.caller-seq.ensures c.requires.seqs (caller_below c.args.is_second)

pub call-core-requires-clause-rested : goal.call-core-requires-clause-rested
call-core-requires-clause-rested c =
    subst (λ (s : SeqId). HasRested c.args.core s c.args.pair.caller) (sym c.caller-seq.ensures) c.requires.rested.caller

pub returns-clause-one : goal.returns-clause-one
returns-clause-one c =
    let p = c.args.prepared in
    subst
    (λ (s : SeqId). OnOk c.call-core.result.2
    (AskedOne s (asks.Call (end_of s) 0 (alone p.target (view p.value))) c.args.core c.call-core.result.0))
    c.caller-seq.ensures c.call-core.ensures.one

pub returns-clause-rested : goal.returns-clause-rested
returns-clause-rested c =
    let p = c.args.prepared in
    let s = caller c.args.is_second in
    on_ok_both c.call-core.result.2
    (both_caller c.args.is_second (asks.Call (end_of s) 0 (alone p.target (view p.value))) c.args.core c.call-core.result.0 c.args.pair
    c.call-core.result.1 c.requires.rested)
    (subst
    (λ (q : SeqId). OnOk c.call-core.result.2
    (AskedOne q (asks.Call (end_of q) 0 (alone p.target (view p.value))) c.args.core c.call-core.result.0))
    c.caller-seq.ensures c.call-core.ensures.one)
    (subst (λ (q : SeqId). OnOk c.call-core.result.2 (HasRested c.call-core.result.0 q c.call-core.result.1))
    c.caller-seq.ensures c.call-core.ensures.rested)
