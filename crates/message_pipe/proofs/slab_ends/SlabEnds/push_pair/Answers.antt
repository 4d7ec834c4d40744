use Rattle.message_pipe.proofs.Turning.{pair_kept, pair_made, pair_missing}
use Rattle.message_pipe.proofs.slab_ends.SlabEnds.push_pair.Goals as goal

pub invariant_of-self : goal.invariant_of-self
invariant_of-self c = pair_kept c.push_pair.result c.self.inside.messages c.self.inside.keys c.push_pair.new.self c.args.one c.args.other
    c.self.invariant c.push_pair.ensures.ok c.push_pair.ensures.err

pub returns-clause-ok : goal.returns-clause-ok
returns-clause-ok c = rw (← c.self.view_is) (pair_made c.push_pair.result c.self.inside.messages c.self.inside.keys c.push_pair.new.self c.args.one
    c.args.other c.push_pair.ensures.ok)

pub returns-clause-err : goal.returns-clause-err
returns-clause-err c = rw (← c.self.view_is) (pair_missing c.push_pair.result c.self.inside.messages c.self.inside.keys c.push_pair.new.self
    c.push_pair.ensures.err)
