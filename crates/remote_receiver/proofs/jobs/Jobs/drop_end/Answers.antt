use Rattle.std.proofs.Common.{refl}
use Rattle.remote_receiver.proofs.Requests.{kept_of_some, part_noted}
use Rattle.remote_receiver.proofs.jobs.Jobs.drop_end.Goals as goal

pub invariant_of-self : goal.invariant_of-self
invariant_of-self g c = record { noted = part_noted _ _ _ _ (kept_of_some _ _ _ c.drop_end.ensures.others) refl c.args.self.now.noted }

pub returns-clause-part : goal.returns-clause-part
returns-clause-part g c = kept_of_some _ _ _ c.drop_end.ensures.others
