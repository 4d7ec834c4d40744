use Rattle.std.proofs.Common.{ap}
use Rattle.bind_model.specs.Replies.{is_response}
use Rattle.remote_receiver.proofs.told.hear_response.Goals as goal

pub hear-requires : goal.hear-requires
hear-requires g c = record { due = c.requires.due (ap is_response c.in-Response.is) }
