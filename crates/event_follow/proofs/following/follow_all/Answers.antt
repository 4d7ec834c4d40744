use Rattle.std.proofs.Common.{List, subst, sym}
use Rattle.event_follow.specs.declared.places.Place.{Place}
use Rattle.event_follow.specs.steps.Places.{AreFresh}
use Rattle.event_follow.proofs.following.follow_all.Goals as goal

pub follow_places-requires-clause-places : goal.follow_places-requires-clause-places
follow_places-requires-clause-places c =
    subst (λ (places : List Place). AreFresh c.args.script.now places) (sym c.deref_mut.ensures.value) c.in_ok-places.ensures
