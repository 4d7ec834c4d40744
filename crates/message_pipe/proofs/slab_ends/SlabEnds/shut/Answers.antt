use Rattle.message_pipe.proofs.Turning.{shut_kept, shut_seen}
use Rattle.message_pipe.proofs.slab_ends.SlabEnds.shut.Goals as goal

pub invariant_of-self : goal.invariant_of-self
invariant_of-self c = shut_kept c.args.end c.self.inside.keys c.shut.new.self c.self.inside.messages c.forget_at.new.messages c.self.invariant
    c.forget_at.ensures c.shut.ensures

pub returns : goal.returns
returns c = rw (← c.self.view_is) (shut_seen c.args.end c.self.inside.keys c.shut.new.self c.self.inside.messages c.forget_at.new.messages
    c.self.invariant c.forget_at.ensures c.shut.ensures)
