use Rattle.remote_receiver.proofs.Following.{none_kept}
use Rattle.remote_receiver.proofs.Requests.{none_there}
use Rattle.remote_receiver.proofs.desk.Desk.new.Goals as goal

pub invariant_of-result : goal.invariant_of-result
invariant_of-result g c = record { drawn = λ key w there. absurd (none_there c.new.result.waiting.callbacks key w c.new.ensures.waiting there) }

pub returns-clause-kept : goal.returns-clause-kept
returns-clause-kept g c = none_kept g.C.Promise.promises _ c.new.ensures.waiting c.new.ensures.notes
