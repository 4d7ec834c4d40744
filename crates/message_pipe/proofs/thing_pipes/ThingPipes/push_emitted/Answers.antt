use Rattle.std.proofs.Common.{◌∙◌}
use Rattle.message_pipe.specs.Ends.{with_messages}
use Rattle.message_pipe.proofs.Changing.{becomes_ok, counts_still}
use Rattle.message_pipe.proofs.thing_pipes.ThingPipes.push_emitted.Goals as goal

pub invariant_of-self : goal.invariant_of-self
invariant_of-self c = record {
  agree = λ seq. counts_still c.push_emitted.result c.args.end (with_messages c.args.messages.items) c.self.inside.ends c.push_emitted.new.self
      c.push_emitted.ensures.ok c.push_emitted.ensures.err seq ∙ c.self.invariant.agree seq;
  few_ends = c.self.invariant.few_ends;
  few_tokens = c.self.invariant.few_tokens;
}

pub returns-clause-ok : goal.returns-clause-ok
returns-clause-ok c = rw (← c.self.view_is) (becomes_ok c.push_emitted.result c.args.end (with_messages c.args.messages.items) c.self.inside.ends
    c.push_emitted.new.self c.self.inside.table c.self.inside.made c.push_emitted.ensures.ok)
