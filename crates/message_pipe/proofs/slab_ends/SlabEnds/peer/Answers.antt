use Rattle.std.proofs.Common.{sym, ◌∙◌}
use Rattle.message_pipe.proofs.Seeing.{peer-seen}
use Rattle.message_pipe.proofs.slab_ends.SlabEnds.peer.Goals as goal

pub returns : goal.returns
returns c = rw (← c.self.view_is) (c.peer.ensures ∙ sym (peer-seen c.self.inside.messages c.self.inside.keys c.args.end))
