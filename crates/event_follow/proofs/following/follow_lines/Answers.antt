use Rattle.event_follow.proofs.FollowingLemmas.{followed_as}
use Rattle.event_follow.proofs.following.follow_lines.Goals as goal

pub returns : goal.returns
returns c = λ after_joins amid.
    followed_as c.args.schema.now c.args.script.now after_joins c.args.events.now c.follow_events.new.machine c.follow_events.new.places
    (c.in_ok-follow_events.ensures after_joins amid) c.count_left.result c.count_left.ensures
