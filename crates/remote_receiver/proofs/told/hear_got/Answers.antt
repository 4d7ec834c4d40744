use Rattle.remote_receiver.proofs.Newest.{due_got}
use Rattle.remote_receiver.proofs.told.hear_got.Goals as goal

pub hear_response-requires : goal.hear_response-requires
hear_response-requires g c = record { due = due_got _ _ c.args.end c.args.received c.requires.newest }
