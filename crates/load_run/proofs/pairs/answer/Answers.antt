use Rattle.std.proofs.Common.{subst, sym}
use Rattle.std.specs.Prelude.{OnOk}
use Rattle.mj_base.specs.declared.ids.SeqId.{SeqId}
use Rattle.wire_model.specs.Trees.{view}
use Rattle.bind_model.specs.declared.asked.Asked.TheVariants as asks
use Rattle.bind_model.specs.declared.endpoint.ResponderId.{ResponderId}
use Rattle.script_names.specs.Settling.{EndsWith}
use Rattle.script_run.specs.Draining.{HasRested}
use Rattle.load_run.specs.Commands.{alone, taker}
use Rattle.load_run.specs.steps.Doing.{AskedOne}
use Rattle.load_run.proofs.Pairing.{below, both_taker, on_ok_both, taker_below}
use Rattle.load_run.proofs.pairs.answer.Goals as goal

pub answer-core-requires-clause-seq : goal.answer-core-requires-clause-seq
answer-core-requires-clause-seq c =
    below c.taker-seq.result (taker c.args.is_second) c.args.core.seqs c.taker-seq.ensures c.requires.seqs (taker_below c.args.is_second)

pub answer-core-requires-clause-rested : goal.answer-core-requires-clause-rested
answer-core-requires-clause-rested c =
    subst (λ (s : SeqId). HasRested c.args.core s c.args.pair.taker) (sym c.taker-seq.ensures) c.requires.rested.taker

pub returns-clause-one : goal.returns-clause-one
returns-clause-one c =
    let p = c.args.prepared in
    let held = c.args.rooms.now.responders.others.items in
    subst
    (λ (s : SeqId). OnOk c.answer-core.result.2 ((r : ResponderId) → EndsWith r held
    → AskedOne s (asks.Answer r (alone p.target (view p.value))) c.args.core c.answer-core.result.0))
    c.taker-seq.ensures c.answer-core.ensures.one

pub returns-clause-rested : goal.returns-clause-rested
returns-clause-rested c =
    let p = c.args.prepared in
    let r = c.requires.last.0 in
    let held = c.args.rooms.now.responders.others.items in
    on_ok_both c.answer-core.result.2
    (λ one rested.
    both_taker c.args.is_second (asks.Answer r (alone p.target (view p.value))) c.args.core c.answer-core.result.0 c.args.pair
    c.answer-core.result.1 c.requires.rested (one r c.requires.last.1) rested)
    (subst
    (λ (s : SeqId). OnOk c.answer-core.result.2 ((q : ResponderId) → EndsWith q held
    → AskedOne s (asks.Answer q (alone p.target (view p.value))) c.args.core c.answer-core.result.0))
    c.taker-seq.ensures c.answer-core.ensures.one)
    (subst (λ (s : SeqId). OnOk c.answer-core.result.2 (HasRested c.answer-core.result.0 s c.answer-core.result.1))
    c.taker-seq.ensures c.answer-core.ensures.rested)
