use Rattle.message_pipe.specs.Ends.{shut}
use Rattle.message_pipe.proofs.Changing.{each}
use Rattle.pipe_runs.proofs.slab_queues.SlabEndsQueues.close.Goals as goal

pub returns : goal.returns
returns c = each c.args.end shut c.args.self.now c.shut.new.self c.shut.ensures
