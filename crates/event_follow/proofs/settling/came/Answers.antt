use Rattle.event_tables.specs.AsCore.{past_by}
use Rattle.event_follow.proofs.Running.{last_came, never_none}
use Rattle.event_follow.proofs.settling.came.Goals as goal

pub unreachable-requires : goal.unreachable-requires
unreachable-requires c =
    never_none c.requires.0 c.requires.1 (past_by c.args.machine.now.tables) c.requires.2 c.last_event.result c.last_event.ensures c.in-None.is

pub returns : goal.returns
returns c = λ e past is.
    last_came e past (past_by c.args.machine.now.tables) is c.last_event.result c.last_event.ensures c.in-Some.event c.in-Some.is
