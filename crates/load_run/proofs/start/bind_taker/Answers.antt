use Rattle.std.proofs.Common.{◌≡◌, ◌∷◌, List, subst, sym}
use Rattle.std.specs.Prelude.{OnOk}
use Rattle.mj_base.specs.declared.ids.SeqId.{SeqId}
use Rattle.handle_table.specs.declared.thing.Thing.{Thing}
use Rattle.handle_table.specs.declared.thing.Thing.TheVariants.{End}
use Rattle.wire_encoder.specs.declared.endpoint.EndpointSide.TheVariants.{Receiver}
use Rattle.bind_model.specs.declared.asked.Asked.TheVariants as asks
use Rattle.script_run.specs.Draining.{HasRested}
use Rattle.load_run.specs.Commands.{end_of, taker}
use Rattle.load_run.specs.steps.Doing.{AskedOne}
use Rattle.load_run.proofs.Pairing.{below, both_taker, taker_below, on_ok_both}
use Rattle.load_run.proofs.start.bind_taker.Goals as goal

pub bind-core-requires-clause-seq : goal.bind-core-requires-clause-seq
bind-core-requires-clause-seq c =
    below c.taker-seq.result (taker c.args.is_second) c.args.core.seqs c.taker-seq.ensures c.requires.seqs (taker_below c.args.is_second)

pub bind-core-requires-clause-rested : goal.bind-core-requires-clause-rested
bind-core-requires-clause-rested c =
    subst (λ (s : SeqId). HasRested c.args.core s c.args.pair.taker) (sym c.taker-seq.ensures) c.requires.rested.taker

pub bind-core-requires-clause-ends : goal.bind-core-requires-clause-ends
bind-core-requires-clause-ends c =
    subst (λ (s : SeqId). (more : List Thing) × (c.args.ends.now.items ≡ End (end_of s) ∷ more)) (sym c.taker-seq.ensures) (_, c.requires.ends)

pub returns-clause-one : goal.returns-clause-one
returns-clause-one c =
    subst
    (λ (s : SeqId). OnOk c.bind-core.result.2
    (AskedOne s (asks.Bind (End (end_of s)) Receiver c.args.interface) c.args.core c.bind-core.result.0))
    c.taker-seq.ensures c.bind-core.ensures.one

pub returns-clause-rested : goal.returns-clause-rested
returns-clause-rested c =
    let s = taker c.args.is_second in
    on_ok_both c.bind-core.result.2
    (both_taker c.args.is_second (asks.Bind (End (end_of s)) Receiver c.args.interface) c.args.core c.bind-core.result.0 c.args.pair
    c.bind-core.result.1 c.requires.rested)
    (subst
    (λ (q : SeqId). OnOk c.bind-core.result.2
    (AskedOne q (asks.Bind (End (end_of q)) Receiver c.args.interface) c.args.core c.bind-core.result.0))
    c.taker-seq.ensures c.bind-core.ensures.one)
    (subst (λ (q : SeqId). OnOk c.bind-core.result.2 (HasRested c.bind-core.result.0 q c.bind-core.result.1))
    c.taker-seq.ensures c.bind-core.ensures.rested)
