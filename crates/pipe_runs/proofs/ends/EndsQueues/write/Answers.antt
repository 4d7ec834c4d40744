use Rattle.message_pipe.specs.Ends.{with_message}
use Rattle.pipe_runs.proofs.Running.{stayed, turned}
use Rattle.pipe_runs.proofs.ends.EndsQueues.write.Goals as goal

pub returns-clause-ok : goal.returns-clause-ok
returns-clause-ok c = turned c.push_message.result c.args.end (with_message c.args.message) c.args.self.now c.push_message.new.self
    c.push_message.ensures.ok

pub returns-clause-err : goal.returns-clause-err
returns-clause-err c = stayed c.push_message.result c.args.message c.args.self.now c.push_message.new.self c.push_message.ensures.err
