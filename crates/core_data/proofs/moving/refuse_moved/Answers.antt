use Rattle.core_data.proofs.moving.refuse_moved.Goals as goal

pub refuse-requires-clause-why : goal.refuse-requires-clause-why
refuse-requires-clause-why c = rw c.into_command.ensures c.requires.why
