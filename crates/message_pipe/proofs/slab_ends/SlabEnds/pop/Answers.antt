use Rattle.message_pipe.proofs.Undoing.{cut_kept, cut_seen}
use Rattle.message_pipe.proofs.slab_ends.SlabEnds.pop.Goals as goal

pub invariant_of-self : goal.invariant_of-self
invariant_of-self c = cut_kept c.args.seq c.self.inside.keys c.pop.new.self c.self.inside.messages c.forget_last.new.messages c.self.invariant
    c.forget_last.ensures c.pop.ensures

pub returns : goal.returns
returns c = rw (← c.self.view_is) (cut_seen c.args.seq c.self.inside.keys c.pop.new.self c.self.inside.messages c.forget_last.new.messages
    c.self.invariant c.forget_last.ensures c.pop.ensures)
