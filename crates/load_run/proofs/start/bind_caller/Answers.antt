use Rattle.std.proofs.Common.{◌≡◌, ◌∷◌, [], List, subst, sym}
use Rattle.std.specs.Prelude.{OnOk}
use Rattle.std.proofs.lemmas.Result.{on_ok_weaker}
use Rattle.mj_base.specs.declared.ids.SeqId.{SeqId}
use Rattle.handle_table.specs.declared.thing.Thing.{Thing}
use Rattle.handle_table.specs.declared.thing.Thing.TheVariants.{End}
use Rattle.wire_encoder.specs.declared.endpoint.EndpointSide.TheVariants.{Remote}
use Rattle.bind_model.specs.declared.asked.Asked.TheVariants as asks
use Rattle.script_run.specs.Draining.{HasRested}
use Rattle.load_run.specs.Commands.{caller, end_of, taker}
use Rattle.load_run.specs.steps.Doing.{AskedOne}
use Rattle.load_run.proofs.Pairing.{below, both_caller, caller_below, on_ok_both}
use Rattle.load_run.proofs.start.bind_caller.Goals as goal

pub bind-core-requires-clause-seq : goal.bind-core-requires-clause-seq
bind-core-requires-clause-seq c =
    below c.caller-seq.result (caller c.args.is_second) c.args.core.seqs c.caller-seq.ensures c.requires.seqs (caller_below c.args.is_second)

pub bind-core-requires-clause-rested : goal.bind-core-requires-clause-rested
bind-core-requires-clause-rested c =
    subst (λ (s : SeqId). HasRested c.args.core s c.args.pair.caller) (sym c.caller-seq.ensures) c.requires.rested.caller

pub bind-core-requires-clause-ends : goal.bind-core-requires-clause-ends
bind-core-requires-clause-ends c =
    subst (λ (s : SeqId). (more : List Thing) × (c.args.ends.now.items ≡ End (end_of s) ∷ more)) (sym c.caller-seq.ensures) (_, c.requires.ends)

pub returns-clause-one : goal.returns-clause-one
returns-clause-one c =
    subst
    (λ (s : SeqId). OnOk c.bind-core.result.2
    (AskedOne s (asks.Bind (End (end_of s)) Remote c.args.interface) c.args.core c.bind-core.result.0))
    c.caller-seq.ensures c.bind-core.ensures.one

pub returns-clause-rested : goal.returns-clause-rested
returns-clause-rested c =
    let s = caller c.args.is_second in
    on_ok_both c.bind-core.result.2
    (both_caller c.args.is_second (asks.Bind (End (end_of s)) Remote c.args.interface) c.args.core c.bind-core.result.0 c.args.pair
    c.bind-core.result.1 c.requires.rested)
    (subst
    (λ (q : SeqId). OnOk c.bind-core.result.2
    (AskedOne q (asks.Bind (End (end_of q)) Remote c.args.interface) c.args.core c.bind-core.result.0))
    c.caller-seq.ensures c.bind-core.ensures.one)
    (subst (λ (q : SeqId). OnOk c.bind-core.result.2 (HasRested c.bind-core.result.0 q c.bind-core.result.1))
    c.caller-seq.ensures c.bind-core.ensures.rested)

pub returns-clause-ends : goal.returns-clause-ends
returns-clause-ends c =
    let is = subst (λ (s : SeqId). c.args.ends.now.items ≡ End (end_of s) ∷ End (end_of (taker c.args.is_second)) ∷ []) (sym c.caller-seq.ensures)
    c.requires.ends in
    on_ok_weaker c.bind-core.result.2 (λ more. more _ is) c.bind-core.ensures.more
