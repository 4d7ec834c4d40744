use Rattle.std.proofs.Common.{ap, ◌∙◌}
use Rattle.std.specs.Prelude.{is_some, Option}
use Rattle.mj_base.specs.declared.ids.EndId.{EndId}
use Rattle.message_pipe.specs.Ends.{end_of}
use Rattle.pipe_runs.proofs.Running.{peer_some}
use Rattle.pipe_runs.proofs.slab_queues.SlabEndsQueues.has_end.Goals as goal

pub returns : goal.returns
returns c = c.is_some.ensures ∙ (ap (λ (o : Option EndId). is_some o) c.peer.ensures ∙ peer_some (end_of c.args.self.now c.args.end))
