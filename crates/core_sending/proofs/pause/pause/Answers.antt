use Rattle.std.proofs.Common.{sym}
use Rattle.core_sending.proofs.Waiting.{pause_refused}
use Rattle.core_sending.proofs.pause.pause.Goals as goal

pub refuse-requires-clause-why : goal.refuse-requires-clause-why
refuse-requires-clause-why c =
    pause_refused c.args.state.now c.args.seq c.args.end c.args.other c.args.flush c.requires c.in-Some.why (sym c.in-Some.ensures)

pub wait-requires-clause-free : goal.wait-requires-clause-free
wait-requires-clause-free c = sym c.in-None.ensures
