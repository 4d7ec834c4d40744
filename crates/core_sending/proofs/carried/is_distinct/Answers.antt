use Rattle.core_state.proofs.Parted.{pendings_differ}
use Rattle.core_sending.proofs.carried.is_distinct.Goals as goal

pub returns : goal.returns
returns c = pendings_differ c.args.pendings.now c.in_ok-names.names.items c.in_ok-names.ensures c.all_differ.result c.all_differ.ensures
