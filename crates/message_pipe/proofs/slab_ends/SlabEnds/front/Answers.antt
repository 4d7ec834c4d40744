use Rattle.std.proofs.Common.{sym, ap, ◌∙◌}
use Rattle.std.specs.Prelude.{Option}
use Rattle.queued_keys.specs.declared.key.Key.{Key}
use Rattle.message_pipe.specs.steps.SlotChanges.{found_in}
use Rattle.message_pipe.proofs.Seeing.{front-seen}
use Rattle.message_pipe.proofs.slab_ends.SlabEnds.front.Goals as goal

pub returns : goal.returns
returns c = rw (← c.self.view_is) (c.look.ensures ∙ (ap (λ (o : Option Key). found_in c.self.inside.messages o) c.front-key.ensures
    ∙ sym (front-seen c.self.inside.messages c.self.inside.keys c.args.end (c.self.invariant.held c.args.end))))
