use Rattle.std.proofs.Common.{◌∙◌}
use Rattle.message_pipe.specs.Ends.{without_front}
use Rattle.message_pipe.proofs.Changing.{becomes, counts}
use Rattle.message_pipe.proofs.pipes.Pipes.pop_front_counted.Goals as goal

pub invariant_of-self : goal.invariant_of-self
invariant_of-self g c = record {
  agree = λ seq. counts c.args.end without_front c.self.inside.ends c.pop_counted.new.self c.pop_counted.ensures.rest seq ∙ c.self.invariant.agree seq;
  few_ends = c.self.invariant.few_ends;
  few_tokens = c.self.invariant.few_tokens;
}

pub returns-clause-rest : goal.returns-clause-rest
returns-clause-rest g c =
    rw (← c.self.view_is) (becomes c.args.end without_front c.self.inside.ends c.pop_counted.new.self c.pop_counted.ensures.rest c.self.inside.table
    c.self.inside.made)

pub returns-clause-steps : goal.returns-clause-steps
returns-clause-steps g c = c.pop_counted.ensures.steps
