use Rattle.std.proofs.Common.{refl, length-set}
use Rattle.remote_receiver.proofs.Requests.{taken_of_some, part_noted}
use Rattle.remote_receiver.proofs.jobs.Jobs.hear.Goals as goal

pub invariant_of-self : goal.invariant_of-self
invariant_of-self g c = record { noted = part_noted _ _ _ _ (taken_of_some _ _ _ c.in-Some.ensures.others) (length-set _ _ _) c.args.self.now.noted }

pub invariant_of-self-in_default : goal.invariant_of-self-in_default
invariant_of-self-in_default g c = record { noted = part_noted _ _ _ _ (taken_of_some _ _ _ c.in_default.ensures.others) refl c.args.self.now.noted }

pub returns-in-Some-clause-part : goal.returns-in-Some-clause-part
returns-in-Some-clause-part g c = taken_of_some _ _ _ c.in-Some.ensures.others

pub returns-in_default-clause-part : goal.returns-in_default-clause-part
returns-in_default-clause-part g c = taken_of_some _ _ _ c.in_default.ensures.others
