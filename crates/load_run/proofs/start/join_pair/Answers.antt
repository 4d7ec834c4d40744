use Rattle.std.proofs.Common.{◌<◌, ◌≡◌, subst, sym}
use Rattle.std.specs.Prelude.{OnOk, reverse}
use Rattle.mj_base.specs.declared.ids.SeqId.{SeqId}
use Rattle.bind_model.specs.Replies.{serials}
use Rattle.bind_model.specs.declared.asked.Asked.TheVariants as asks
use Rattle.script_run.specs.Draining.{HasRested}
use Rattle.load_run.specs.Commands.{caller, taker}
use Rattle.load_run.specs.steps.Doing.{Joined}
use Rattle.load_run.proofs.Pairing.{below, both_caller, caller_below, in_order, on_ok_both, taker_below}
use Rattle.load_run.proofs.start.join_pair.Goals as goal

pub join-core-requires-clause-seq : goal.join-core-requires-clause-seq
join-core-requires-clause-seq c =
    below c.caller-seq.result (caller c.args.is_second) c.args.core.seqs c.caller-seq.ensures c.requires.seqs (caller_below c.args.is_second)

pub join-core-requires-clause-there : goal.join-core-requires-clause-there
join-core-requires-clause-there c =
    below c.taker-with.result (taker c.args.is_second) c.args.core.seqs c.taker-with.ensures c.requires.seqs (taker_below c.args.is_second)

pub join-core-requires-clause-apart : goal.join-core-requires-clause-apart
join-core-requires-clause-apart c =
    subst (λ (s : SeqId). s.0 < c.taker-with.result.0) (sym c.caller-seq.ensures)
    (subst (λ (t : SeqId). (caller c.args.is_second).0 < t.0) (sym c.taker-with.ensures) (in_order c.args.is_second))

pub join-core-requires-clause-rested : goal.join-core-requires-clause-rested
join-core-requires-clause-rested c =
    subst (λ (s : SeqId). HasRested c.args.core s c.args.pair.caller) (sym c.caller-seq.ensures) c.requires.rested.caller

pub join-core-requires-clause-first : goal.join-core-requires-clause-first
join-core-requires-clause-first c =
    subst (λ (s : SeqId). serials (reverse c.args.core.events) s.0 ≡ 0) (sym c.caller-seq.ensures) c.requires.first

pub join-core-requires-clause-second : goal.join-core-requires-clause-second
join-core-requires-clause-second c =
    subst (λ (s : SeqId). serials (reverse c.args.core.events) s.0 ≡ 0) (sym c.taker-with.ensures) c.requires.second

pub returns-clause-joined : goal.returns-clause-joined
returns-clause-joined c =
    subst
    (λ (s : SeqId). OnOk c.join-core.result.3 (Joined s (taker c.args.is_second) c.args.core c.join-core.result.0 c.join-core.result.2.items))
    c.caller-seq.ensures
    (subst (λ (t : SeqId). OnOk c.join-core.result.3 (Joined c.caller-seq.result t c.args.core c.join-core.result.0 c.join-core.result.2.items))
    c.taker-with.ensures c.join-core.ensures.joined)

pub returns-clause-rested : goal.returns-clause-rested
returns-clause-rested c =
    let b = c.args.is_second in
    on_ok_both c.join-core.result.3
    (λ (joined : Joined (caller b) c.taker-with.result c.args.core c.join-core.result.0 c.join-core.result.2.items) rested.
    both_caller b (asks.Join c.taker-with.result) c.args.core c.join-core.result.0 c.args.pair c.join-core.result.1 c.requires.rested
    (_, joined.one) rested)
    (subst
    (λ (s : SeqId). OnOk c.join-core.result.3 (Joined s c.taker-with.result c.args.core c.join-core.result.0 c.join-core.result.2.items))
    c.caller-seq.ensures c.join-core.ensures.joined)
    (subst (λ (s : SeqId). OnOk c.join-core.result.3 (HasRested c.join-core.result.0 s c.join-core.result.1))
    c.caller-seq.ensures c.join-core.ensures.rested)
