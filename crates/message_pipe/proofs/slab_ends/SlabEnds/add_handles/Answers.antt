use Rattle.message_pipe.proofs.Carrying.{carried_at}
use Rattle.message_pipe.proofs.slab_ends.SlabEnds.add_handles.Goals as goal

pub returns : goal.returns
returns c = rw (← c.self.view_is) (carried_at c.add_at.result c.self.inside.messages c.self.inside.keys c.args.end c.args.skipped c.args.into.now.items
    c.add_at.new.into.items c.add_at.ensures)
