use Rattle.remote_receiver.proofs.Requests.{none_noted}
use Rattle.remote_receiver.proofs.jobs.Jobs.new.Goals as goal

pub invariant_of-result : goal.invariant_of-result
invariant_of-result g c = record { noted = none_noted _ _ c.new.ensures }
