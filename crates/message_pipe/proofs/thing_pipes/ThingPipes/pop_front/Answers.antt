use Rattle.std.proofs.Common.{◌∙◌}
use Rattle.message_pipe.specs.Ends.{without_front}
use Rattle.message_pipe.proofs.Changing.{becomes, counts}
use Rattle.message_pipe.proofs.thing_pipes.ThingPipes.pop_front.Goals as goal

pub invariant_of-self : goal.invariant_of-self
invariant_of-self c = record {
  agree = λ seq. counts c.args.end without_front c.self.inside.ends c.pop_message.new.self c.pop_message.ensures.rest seq ∙ c.self.invariant.agree seq;
  few_ends = c.self.invariant.few_ends;
  few_tokens = c.self.invariant.few_tokens;
}

pub returns-clause-rest : goal.returns-clause-rest
returns-clause-rest c =
    rw (← c.self.view_is) (becomes c.args.end without_front c.self.inside.ends c.pop_message.new.self c.pop_message.ensures.rest c.self.inside.table
    c.self.inside.made)
