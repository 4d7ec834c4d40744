-- By its numbers.
use Rattle.control_bytes.proofs.Controls.{control_stands}
use Rattle.control_bytes.proofs.laws.controls_are_read.Goals as goal

pub returns : goal.returns
returns c = control_stands
