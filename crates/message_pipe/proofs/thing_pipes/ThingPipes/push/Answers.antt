use Rattle.std.proofs.Common.{◌∙◌}
use Rattle.message_pipe.specs.Ends.{with_message}
use Rattle.message_pipe.proofs.Changing.{becomes_ok, counts_either}
use Rattle.message_pipe.proofs.thing_pipes.ThingPipes.push.Goals as goal

pub invariant_of-self : goal.invariant_of-self
invariant_of-self c = record {
  agree = λ seq.
      counts_either c.push_message.result c.args.message c.args.end c.self.inside.ends c.push_message.new.self c.push_message.ensures.ok
      c.push_message.ensures.err seq
      ∙ c.self.invariant.agree seq;
  few_ends = c.self.invariant.few_ends;
  few_tokens = c.self.invariant.few_tokens;
}

pub returns-clause-ok : goal.returns-clause-ok
returns-clause-ok c = rw (← c.self.view_is) (becomes_ok c.push_message.result c.args.end
    (with_message c.args.message) c.self.inside.ends c.push_message.new.self c.self.inside.table c.self.inside.made c.push_message.ensures.ok)
