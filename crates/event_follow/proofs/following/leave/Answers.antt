use Rattle.std.proofs.Common.{◌∙◌}
use Rattle.event_follow.proofs.following.leave.Goals as goal

pub returns-clause-left : goal.returns-clause-left
returns-clause-left c = c.from_vec.ensures ∙ c.in_ok-left.ensures

pub returns-clause-notes : goal.returns-clause-notes
returns-clause-notes c = c.in_ok-notes.ensures
