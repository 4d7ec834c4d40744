use Rattle.std.proofs.Common.{refl}
use Rattle.core_sending.proofs.Waiting.{pause_done}
use Rattle.core_sending.proofs.pause.wait.Goals as goal

pub returns-clause-done : goal.returns-clause-done
returns-clause-done c =
    pause_done c.args.state.now c.args.seq c.args.end c.args.other c.args.flush c.requires.can _ c.requires.free refl refl refl refl refl refl
    c.in-Ok.ensures.ok c.push_reserved.ensures.events
