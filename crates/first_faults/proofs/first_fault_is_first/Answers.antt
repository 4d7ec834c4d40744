use Rattle.first_faults.proofs.First.{is_first}
use Rattle.first_faults.proofs.first_fault_is_first.Goals as goal

pub returns : goal.returns
returns c = is_first
