use denote.Param.Send.{sendable}
use Rattle.hub_tests.proofs.Rows.{row_send}
use Rattle.hub_tests.proofs.pipes.work_slice.Goals as goal

pub for_each_mut-requires-send-T : goal.for_each_mut-requires-send-T
for_each_mut-requires-send-T g c κs within = let s = c.type_bounds.sync-R in search (row_send, sendable) depth 20
