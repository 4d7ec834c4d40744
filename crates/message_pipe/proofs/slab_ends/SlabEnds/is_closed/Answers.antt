use Rattle.std.proofs.Common.{sym, ◌∙◌}
use Rattle.message_pipe.proofs.Seeing.{closed-seen}
use Rattle.message_pipe.proofs.slab_ends.SlabEnds.is_closed.Goals as goal

pub returns : goal.returns
returns c = rw (← c.self.view_is) (c.is_closed.ensures ∙ sym (closed-seen c.self.inside.messages c.self.inside.keys c.args.end))
