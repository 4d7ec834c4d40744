use Rattle.std.proofs.Common.{sym, ap, subst, ◌∙◌}
use Rattle.std.specs.Prelude.{Option}
use Rattle.std.specs.Option.{option_to_list}
use Rattle.queued_keys.specs.declared.key.Key.{Key}
use Rattle.message_pipe.specs.steps.SlotChanges.{Loses, found_in}
use Rattle.message_pipe.proofs.Seeing.{front-seen}
use Rattle.message_pipe.proofs.Turning.{popped_kept, popped_seen, there_by}
use Rattle.message_pipe.proofs.slab_ends.SlabEnds.pop_counted.Goals as goal

pub pop_key-key-requires : goal.pop_key-key-requires
pop_key-key-requires g c = there_by c.self.inside.messages c.self.inside.keys c.args.self.now c.self.view_is c.args.end c.requires

pub invariant_of-self : goal.invariant_of-self
invariant_of-self g c = popped_kept c.args.end c.self.inside.keys c.pop_key-key.new.self c.self.inside.messages c.removed_counted.new.messages c.self.invariant
    (subst (λ (o : Option Key). Loses c.self.inside.messages c.removed_counted.new.messages (option_to_list o)) c.pop_key-key.ensures.front
    c.removed_counted.ensures.loses) c.pop_key-key.ensures.rest

pub returns-clause-front : goal.returns-clause-front
returns-clause-front g c = rw (← c.self.view_is) (c.removed_counted.ensures.value
    ∙ (ap (λ (o : Option Key). found_in c.self.inside.messages o) c.pop_key-key.ensures.front
    ∙ sym (front-seen c.self.inside.messages c.self.inside.keys c.args.end (c.self.invariant.held c.args.end))))

pub returns-clause-rest : goal.returns-clause-rest
returns-clause-rest g c = rw (← c.self.view_is) (popped_seen c.args.end c.self.inside.keys c.pop_key-key.new.self c.self.inside.messages
    c.removed_counted.new.messages c.self.invariant
    (subst (λ (o : Option Key). Loses c.self.inside.messages c.removed_counted.new.messages (option_to_list o)) c.pop_key-key.ensures.front
    c.removed_counted.ensures.loses) c.pop_key-key.ensures.rest)

pub returns-clause-steps : goal.returns-clause-steps
returns-clause-steps g c = c.removed_counted.ensures.steps
