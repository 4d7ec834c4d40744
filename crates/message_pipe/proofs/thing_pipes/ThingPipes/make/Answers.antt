use Rattle.std.proofs.Common.{◌≡◌, ◌+◌, Bool, true, false, refl, ap, sym, ◌∙◌, length}
use Rattle.std.specs.Prelude.{◌==◌, if◌then◌else◌}
use Rattle.std.specs.Int.{from_bool}
use Rattle.message_pipe.proofs.Changing.{made_pipe}
use Rattle.message_pipe.proofs.thing_pipes.ThingPipes.make.Goals as goal

from_is : (b : Bool) → from_bool b ≡ (if b then 1 else 0)
from_is true = refl
from_is false = refl

pub returns-in-Ok-clause-ok : goal.returns-in-Ok-clause-ok
returns-in-Ok-clause-ok c = rw (← c.self.view_is) (made_pipe c.args.first.0 c.args.second.0 c.ends_made.result
    (c.ends_made-2.result + c.from.result) c.self.inside.ends c.push_pair.new.self c.self.inside.table c.make_pipe.new.self c.self.inside.made
    c.in-Ok.pipe.0 c.in-Ok.pipe.1 c.ends_made.ensures (rw
    (c.ends_made-2.ensures, c.from.ensures, from_is (c.args.first.0 == c.args.second.0)) refl) c.self.invariant.agree c.in_ok-push_pair.ensures.ok
    c.in-Ok.ensures.ok)

pub invariant_of-self-in-Err : goal.invariant_of-self-in-Err
invariant_of-self-in-Err c = record {
  agree = λ s. ap length (c.pop_pair.ensures c.self.inside.ends c.in_ok-push_pair.ensures.ok s)
      ∙ (c.self.invariant.agree s ∙ sym (c.in-Err.ensures.err.ends s));
  few_ends = λ s. rw (c.in-Err.ensures.err.ends s) (c.self.invariant.few_ends s);
  few_tokens = λ s. rw (c.in-Err.ensures.err.tokens s) (c.self.invariant.few_tokens s);
}
