use Rattle.std.proofs.Common.{[], ◌∷◌, refl}
use Rattle.message_pipe.specs.Ends.{with_message}
use Rattle.message_pipe.proofs.Turning.{handed_back, kept_either, seen_either, there_by, without_message}
use Rattle.message_pipe.proofs.slab_ends.SlabEnds.push_message.Goals as goal

pub enter-requires : goal.enter-requires
enter-requires c = there_by c.self.inside.messages c.self.inside.keys c.args.self.now c.self.view_is c.args.end c.requires

pub invariant_of-self : goal.invariant_of-self
invariant_of-self c = kept_either c.enter.result c.args.end (c.args.message ∷ []) c.self.inside.keys c.enter.new.keys c.self.inside.messages
    c.enter.new.messages (there_by c.self.inside.messages c.self.inside.keys c.args.self.now c.self.view_is c.args.end c.requires) c.self.invariant
    c.enter.ensures.ok (without_message c.enter.result c.args.message c.self.inside.keys c.enter.new.keys c.self.inside.messages
    c.enter.new.messages c.enter.ensures.err)

pub returns-clause-ok : goal.returns-clause-ok
returns-clause-ok c =
    let there = there_by c.self.inside.messages c.self.inside.keys c.args.self.now c.self.view_is c.args.end c.requires in
    rw (← c.self.view_is) (seen_either c.enter.result c.args.end (c.args.message ∷ []) (with_message c.args.message) (λ p. refl) c.self.inside.keys
    c.enter.new.keys c.self.inside.messages c.enter.new.messages there c.self.invariant c.enter.ensures.ok)

pub returns-clause-err : goal.returns-clause-err
returns-clause-err c = rw (← c.self.view_is) (handed_back c.enter.result c.args.message c.self.inside.keys c.enter.new.keys c.self.inside.messages
    c.enter.new.messages c.enter.ensures.err)
