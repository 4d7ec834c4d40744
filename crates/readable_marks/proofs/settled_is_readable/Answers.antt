use Rattle.readable_marks.proofs.Reading.{settled_readable}
use Rattle.readable_marks.proofs.settled_is_readable.Goals as goal

pub returns : goal.returns
returns c ms start end handles ids n settled le = settled_readable start end n ms le settled.fine settled.orderly
