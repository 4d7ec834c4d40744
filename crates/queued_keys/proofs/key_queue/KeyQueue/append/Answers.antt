use Rattle.std.proofs.Common.{◌∙◌, sym}
use Rattle.queued_keys.proofs.Weighing.{weighs_either}
use Rattle.queued_keys.proofs.key_queue.KeyQueue.append.Goals as goal

pub invariant_of-self : goal.invariant_of-self
invariant_of-self c = c.self.invariant ∙ sym (weighs_either c.append.result c.self.inside.keys.items c.args.more.now.items
    c.append.new.self.items c.requires c.append.ensures.items)
