use Rattle.std.proofs.Common.{◌≡◌, ◌+◌, ◌∙◌, ◌++◌, ap, arith, length}
use Rattle.std.proofs.lemmas.Result.{on_ok_weaker}
use Rattle.wire_encoder.specs.declared.endpoint.EndpointSide.TheVariants.{Receiver, Remote}
use Rattle.load_run.specs.Commands.{caller, taker}
use Rattle.load_run.specs.steps.Doing.{binds, joins}
use Rattle.load_run.proofs.Starting.{all_longer, all_then}
use Rattle.load_run.proofs.start.start.Goals as goal

pub bind_all-core-requires-clause-seqs : goal.bind_all-core-requires-clause-seqs
bind_all-core-requires-clause-seqs c = let all = rw c.in-Ok.is at c.join_both-core.ensures.joined in all.seqs ∙ c.requires.seqs

pub bind_all-core-requires-clause-schema : goal.bind_all-core-requires-clause-schema
bind_all-core-requires-clause-schema c = let all = rw c.in-Ok.is at c.join_both-core.ensures.joined in all.schema ∙ c.requires.schema

pub bind_all-core-requires-clause-rested : goal.bind_all-core-requires-clause-rested
bind_all-core-requires-clause-rested c = rw c.in-Ok.is at c.join_both-core.ensures.rested

pub bind_all-core-requires-clause-few : goal.bind_all-core-requires-clause-few
bind_all-core-requires-clause-few c =
    let all = rw c.in-Ok.is at c.join_both-core.ensures.joined in
    let two : length c.join_both-core.result.0.events ≡ length c.args.core.events + 2 =
    all_longer joins c.args.core c.join_both-core.result.0 all in
    omega (arith, two, ap length c.requires.none)

pub bind_all-core-requires-clause-ends : goal.bind_all-core-requires-clause-ends
bind_all-core-requires-clause-ends c = rw c.in-Ok.is at c.join_both-core.ensures.ends

pub returns-in-Ok-clause-asked : goal.returns-in-Ok-clause-asked
returns-in-Ok-clause-asked c =
    on_ok_weaker c.bind_all-core.result.2
    (all_then joins (binds caller Remote c.args.interface ++ binds taker Receiver c.args.interface) c.args.core c.join_both-core.result.0
    c.bind_all-core.result.0 (rw c.in-Ok.is at c.join_both-core.ensures.joined))
    c.bind_all-core.ensures.asked
