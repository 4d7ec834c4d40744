-- What of a tally may go to another thread, and what threads may share.
use denote.Param.Send.{IsSend, sendable}
use Rattle.std.proofs.Crossing as vecs
use Rattle.benchmarks.specs.contracts.turns.Tally as tally
use Rattle.turn_lock.proofs.pass.Pass.TheSendSync as pass
use Rattle.turn_lock.proofs.pass.Turn.TheSendSync as turn

pub tally_send : IsSend tally.the_field.row
tally_send = search (vecs.crosses, sendable) depth 60 fits 20000

pub ruleset crosses = (pass.the_send, pass.the_field_send, turn.the_field_sync, tally_send)
