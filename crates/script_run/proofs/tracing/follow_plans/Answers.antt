use Rattle.script_run.proofs.Traces.{followed_as}
use Rattle.script_run.proofs.tracing.follow_plans.Goals as goal

pub returns-in-Ok-clause-followed : goal.returns-in-Ok-clause-followed
returns-in-Ok-clause-followed c = λ after_joins amid.
    let stopped = rw c.in-Ok.is at c.follow_events-core.ensures.stopped in
    followed_as c.args.schema.now c.args.script.now after_joins c.args.events.now c.follow_events-core.result.0 c.follow_events-core.new.rests
    c.follow_events-core.new.rooms c.follow_events-core.new.agendas (stopped after_joins amid) c.count_left.result c.count_left.ensures

pub returns-in-Err-clause-unspent : goal.returns-in-Err-clause-unspent
returns-in-Err-clause-unspent c = λ short. rw c.in-Err.is at (c.follow_events-core.ensures.unspent short)
