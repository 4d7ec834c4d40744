use Rattle.std.proofs.Common.{refl}
use Rattle.std.specs.Option.{option_map}
use Rattle.endpoint_router.specs.Changes.{without_request}
use Rattle.endpoint_router.proofs.Placed.{all_stay, nothing_turns, places_stay, rows_turn}
use Rattle.endpoint_router.proofs.router.Router.end_request.Goals.{in-Some, in_default}
use Rattle.endpoint_router.proofs.router.Router.end_request.Goals as goal

pub returns-clause-rows : goal.returns-clause-rows
returns-clause-rows c = elim c.match-get_mut.branch [
  | in-Some w ↦ (λ n.
      rw (w.self-inside-is, ← c.self.view_is)
      (rows_turn c.self.inside.rows (c.get_mut.follows.lender w.finish.new.place) c.args.id c.self.inside.drawn w.in-Some.place.now w.finish.new.place
      w.in-Some.ensures.value ((c.get_mut.follows.holds w.finish.new.place).3 (rw (← w.in-Some.ensures.value) refl))
      (option_map (without_request c.args.request)) w.finish.ensures n))
  | in_default w ↦ (λ n.
      rw (w.self-inside-is, c.get_mut.follows.holds-at-none, ← c.self.view_is)
      (nothing_turns c.self.inside.rows c.args.id c.self.inside.drawn (without_request c.args.request) w.in_default.ensures.value n))
]

pub returns-clause-rest : goal.returns-clause-rest
returns-clause-rest c = elim c.match-get_mut.branch [
  | in-Some w ↦
      rw (w.self-inside-is, ← c.self.view_is)
      (places_stay c.self.inside.rows (c.get_mut.follows.lender w.finish.new.place) c.args.id c.self.inside.drawn w.in-Some.place.now w.finish.new.place
      w.in-Some.ensures.value ((c.get_mut.follows.holds w.finish.new.place).3 (rw (← w.in-Some.ensures.value) refl)))
  | in_default w ↦ rw (w.self-inside-is, c.get_mut.follows.holds-at-none, ← c.self.view_is) (all_stay _)
]
