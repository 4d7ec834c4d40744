use Rattle.std.proofs.Common.{refl}
use Rattle.std.specs.Prelude.{Some}
use Rattle.endpoint_router.proofs.Placed.{asked_more, no_place}
use Rattle.endpoint_router.proofs.requests.Requests.add.Goals.{in-Some, in_default}
use Rattle.endpoint_router.proofs.requests.Requests.add.Goals as goal

pub returns : goal.returns
returns c = elim c.match-get_mut.branch [
  | in-Some w ↦ (λ number asks_for.
      rw (w.self-inside-is, ← c.self.view_is)
      (asked_more c.self.inside.methods (c.get_mut.follows.lender (Some c.args.method)) c.args.request c.args.method
      ((c.get_mut.follows.holds (Some c.args.method)).3 (rw (← w.in-Some.ensures.value) refl)) number asks_for))
  | in_default w ↦ absurd (no_place c.self.inside.methods c.args.self.now c.args.request c.self.view_is w.in_default.ensures.value c.requires)
]
