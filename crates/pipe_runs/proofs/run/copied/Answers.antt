use Rattle.pipe_runs.proofs.Running.{same_message}
use Rattle.pipe_runs.proofs.run.copied.Goals as goal

pub returns : goal.returns
returns c = same_message c.args.message.now c.in_ok-bytes.bytes c.in_ok-handles.handles c.in_ok-bytes.ensures c.in_ok-handles.ensures
