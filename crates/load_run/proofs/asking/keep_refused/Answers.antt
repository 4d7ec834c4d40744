use Rattle.load_run.proofs.asking.keep_refused.Goals as goal

pub unreachable-requires : goal.unreachable-requires
unreachable-requires c = rw c.in-Spent.is at c.requires.unspent
