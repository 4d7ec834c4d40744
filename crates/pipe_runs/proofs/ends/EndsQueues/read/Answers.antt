use Rattle.message_pipe.specs.Ends.{without_front}
use Rattle.message_pipe.proofs.Changing.{each}
use Rattle.pipe_runs.proofs.ends.EndsQueues.read.Goals as goal

pub returns-clause-rest : goal.returns-clause-rest
returns-clause-rest c = each c.args.end without_front c.args.self.now c.pop_message.new.self c.pop_message.ensures.rest
