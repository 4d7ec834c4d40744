use Rattle.std.proofs.Common.{◌≡◌, ◌+◌, ◌∙◌, arith, length}
use Rattle.std.proofs.lemmas.Result.{on_ok_weaker}
use Rattle.wire_encoder.specs.declared.endpoint.EndpointSide.TheVariants.{Receiver, Remote}
use Rattle.load_run.specs.Commands.{caller, taker}
use Rattle.load_run.specs.steps.Doing.{binds}
use Rattle.load_run.proofs.Starting.{all_longer, all_then}
use Rattle.load_run.proofs.start.bind_all.Goals as goal

pub bind_callers-core-requires-clause-few : goal.bind_callers-core-requires-clause-few
bind_callers-core-requires-clause-few c = omega (arith, c.requires.few)

pub bind_takers-requires-clause-seqs : goal.bind_takers-requires-clause-seqs
bind_takers-requires-clause-seqs c = let all = rw c.in-Ok.is at c.bind_callers-core.ensures.asked in all.seqs ∙ c.requires.seqs

pub bind_takers-requires-clause-schema : goal.bind_takers-requires-clause-schema
bind_takers-requires-clause-schema c = let all = rw c.in-Ok.is at c.bind_callers-core.ensures.asked in all.schema ∙ c.requires.schema

pub bind_takers-requires-clause-rested : goal.bind_takers-requires-clause-rested
bind_takers-requires-clause-rested c = rw c.in-Ok.is at c.bind_callers-core.ensures.rested

pub bind_takers-requires-clause-few : goal.bind_takers-requires-clause-few
bind_takers-requires-clause-few c =
    let all = rw c.in-Ok.is at c.bind_callers-core.ensures.asked in
    let two : length c.bind_callers-core.result.0.events ≡ length c.args.core.events + 2 =
    all_longer (binds caller Remote c.args.interface) c.args.core c.bind_callers-core.result.0 all in
    omega (arith, two, c.requires.few)

pub bind_takers-requires-clause-ends : goal.bind_takers-requires-clause-ends
bind_takers-requires-clause-ends c = rw c.in-Ok.is at c.bind_callers-core.ensures.ends

pub returns-in-Ok-clause-asked : goal.returns-in-Ok-clause-asked
returns-in-Ok-clause-asked c =
    on_ok_weaker c.bind_takers.result.2
    (all_then (binds caller Remote c.args.interface) (binds taker Receiver c.args.interface) c.args.core c.bind_callers-core.result.0
    c.bind_takers.result.0 (rw c.in-Ok.is at c.bind_callers-core.ensures.asked))
    c.bind_takers.ensures.asked
