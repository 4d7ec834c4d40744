use Rattle.event_takes.proofs.taking.take.Goals as goal

pub refuse-requires-clause-why : goal.refuse-requires-clause-why
refuse-requires-clause-why c = rw c.in-Nothing.is at c.in_ok-found.ensures

pub spoil-requires-clause-told : goal.spoil-requires-clause-told
spoil-requires-clause-told c = rw c.in-Bad.is at c.in_ok-found.ensures

pub discard-requires-clause-told : goal.discard-requires-clause-told
discard-requires-clause-told c = rw c.in-Dropped.is at c.in_ok-found.ensures

pub obey-requires-clause-told : goal.obey-requires-clause-told
obey-requires-clause-told c = rw c.in-Control.is at c.in_ok-found.ensures

pub receive-requires-clause-told : goal.receive-requires-clause-told
receive-requires-clause-told c = rw c.in-Value.is at c.in_ok-found.ensures
