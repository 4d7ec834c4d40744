use Rattle.bind_model.proofs.PendingTable.{outs_spent}
use Rattle.bind_model.proofs.pending_names.PendingNames.remove.Goals as goal

pub returns : goal.returns
returns c = λ p. rw (← c.self.view_is) (outs_spent c.self.inside.names c.remove.new.self c.args.id c.remove.ensures.updates p)
