use Rattle.std.proofs.Common.{sym, ◌∙◌}
use Rattle.bind_core.proofs.Covering.{peer_found, peer_none}
use Rattle.event_tables.specs.AsCore.{state_of}
use Rattle.event_steps.proofs.near.peer.Goals as goal

pub returns-in-Some : goal.returns-in-Some
returns-in-Some c = peer_found (state_of c.args.tables.now) c.requires c.args.end c.in-Some.peer (sym c.peer.ensures ∙ c.in-Some.is)

pub returns-in-None : goal.returns-in-None
returns-in-None c = peer_none (state_of c.args.tables.now) c.requires c.args.end (sym c.peer.ensures ∙ c.in-None.is)
