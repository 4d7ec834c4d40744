use Rattle.remote_receiver.proofs.Following.{none_kept}
use Rattle.remote_receiver.proofs.rest.Rest.new.Goals as goal

pub returns : goal.returns
returns g c = record { kept = none_kept g.C.Promise.promises _ c.new.ensures.waiting c.new.ensures.notes }
