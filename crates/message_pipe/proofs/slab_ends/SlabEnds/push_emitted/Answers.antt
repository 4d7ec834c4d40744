use Rattle.std.proofs.Common.{refl}
use Rattle.message_pipe.specs.Ends.{with_messages}
use Rattle.message_pipe.proofs.Turning.{kept_either, same_either, seen_either, there_by}
use Rattle.message_pipe.proofs.slab_ends.SlabEnds.push_emitted.Goals as goal

pub enter_all-requires-clause-there : goal.enter_all-requires-clause-there
enter_all-requires-clause-there c = there_by c.self.inside.messages c.self.inside.keys c.args.self.now c.self.view_is c.args.end c.requires.there

pub invariant_of-self : goal.invariant_of-self
invariant_of-self c = kept_either c.enter_all.result c.args.end c.args.messages.items c.self.inside.keys c.enter_all.new.keys c.self.inside.messages
    c.enter_all.new.messages (there_by c.self.inside.messages c.self.inside.keys c.args.self.now c.self.view_is c.args.end c.requires.there)
    c.self.invariant c.enter_all.ensures.ok c.enter_all.ensures.err

pub returns-clause-ok : goal.returns-clause-ok
returns-clause-ok c =
    let there = there_by c.self.inside.messages c.self.inside.keys c.args.self.now c.self.view_is c.args.end c.requires.there in
    rw (← c.self.view_is) (seen_either c.enter_all.result c.args.end c.args.messages.items (with_messages c.args.messages.items) (λ p. refl)
    c.self.inside.keys c.enter_all.new.keys c.self.inside.messages c.enter_all.new.messages there c.self.invariant c.enter_all.ensures.ok)

pub returns-clause-err : goal.returns-clause-err
returns-clause-err c = rw (← c.self.view_is) (same_either c.enter_all.result c.self.inside.keys c.enter_all.new.keys c.self.inside.messages
    c.enter_all.new.messages c.enter_all.ensures.err)
