use Rattle.std.proofs.Common.{◌∙◌}
use Rattle.message_pipe.specs.Ends.{end_of, shut}
use Rattle.message_pipe.proofs.Changing.{each, counts, shut_one}
use Rattle.message_pipe.proofs.slab_ends.SlabEnds.shut_thing.Goals as goal

pub returns-in-End-clause-ends : goal.returns-in-End-clause-ends
returns-in-End-clause-ends c x = rw c.in-End.is (each c.in-End.end shut c.args.self.now c.shut.new.self c.shut.ensures x
    ∙ shut_one c.in-End.end x (end_of c.args.self.now x))

pub returns-in-End-clause-counts : goal.returns-in-End-clause-counts
returns-in-End-clause-counts c s = counts c.in-End.end shut c.args.self.now c.shut.new.self c.shut.ensures s
