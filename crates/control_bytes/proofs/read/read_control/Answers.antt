-- The tests hold exactly where none fails.
use Rattle.control_bytes.specs.Controls.{control_marks}
use Rattle.control_bytes.proofs.Rooms.{control_tests}
use Rattle.message_header.proofs.Fine.{exactly}
use Rattle.control_bytes.proofs.read.read_control.Goals as goal

pub returns-clause-exactly : goal.returns-clause-exactly
returns-clause-exactly c = exactly c.judge_control.result (control_marks c.args.bytes.now) (control_tests c.args.bytes.now) c.judge_control.ensures.judged
