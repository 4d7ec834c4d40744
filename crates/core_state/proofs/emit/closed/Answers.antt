use Rattle.core_state.proofs.emit.closed.Goals as goal

pub message_of-requires : goal.message_of-requires
message_of-requires c = (c.requires.some, c.requires.other)
