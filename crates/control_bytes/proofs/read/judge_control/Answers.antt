-- Where the tests hold there is room for the payload.
use Rattle.control_bytes.proofs.Rooms.{has_room}
use Rattle.control_bytes.proofs.read.judge_control.Goals as goal

pub control_at-requires : goal.control_at-requires
control_at-requires c = has_room c.args.bytes.now c.args.header.now c.requires.said c.requires.placed c.in_ok-judge_tests.ensures.judged
