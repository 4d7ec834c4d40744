use Rattle.std.proofs.Common.{refl, subst}
use Rattle.std.specs.Prelude.{IsTrue, Option, ◌≤◌}
use Rattle.std.specs.Option.{option_map}
use Rattle.mj_base.specs.declared.limits.TheConstants.{MAX_EVENTS}
use Rattle.endpoint_router.specs.Changes.{with_request}
use Rattle.endpoint_router.specs.Rows.{has_room, next_number, seen_in}
use Rattle.endpoint_router.specs.declared.row.Row.{Row}
use Rattle.endpoint_router.proofs.Placed.{all_stay, found_here, nothing_turns, places_stay, rows_turn}
use Rattle.endpoint_router.proofs.router.Router.draw.Goals.{in-Some, in-None}
use Rattle.endpoint_router.proofs.router.Router.draw.Goals as goal

pub draw-requires-clause-room : goal.draw-requires-clause-room
draw-requires-clause-room c =
    subst (λ (place : Option Row). IsTrue (has_room place))
    (found_here c.self.inside.rows c.args.self.now c.args.id c.self.inside.drawn c.in-Some.place.now c.self.view_is c.in-Some.ensures.value) c.requires.room

pub draw-requires-clause-few : goal.draw-requires-clause-few
draw-requires-clause-few c =
    subst (λ (place : Option Row). next_number (seen_in place) ≤ MAX_EVENTS)
    (found_here c.self.inside.rows c.args.self.now c.args.id c.self.inside.drawn c.in-Some.place.now c.self.view_is c.in-Some.ensures.value) c.requires.few

pub returns-clause-rows : goal.returns-clause-rows
returns-clause-rows c = elim c.match-get_mut.branch [
  | in-Some w ↦ (λ n.
      rw (w.self-inside-is, ← c.self.view_is)
      (rows_turn c.self.inside.rows (c.get_mut.follows.lender w.draw.new.place) c.args.id c.self.inside.drawn w.in-Some.place.now w.draw.new.place
      w.in-Some.ensures.value ((c.get_mut.follows.holds w.draw.new.place).3 (rw (← w.in-Some.ensures.value) refl))
      (option_map (with_request c.args.method)) w.draw.ensures.row n))
  | in-None w ↦ (λ n.
      rw (w.self-inside-is, c.get_mut.follows.holds-at-none, ← c.self.view_is)
      (nothing_turns c.self.inside.rows c.args.id c.self.inside.drawn (with_request c.args.method) w.in-None.ensures.value n))
]

pub returns-clause-rest : goal.returns-clause-rest
returns-clause-rest c = elim c.match-get_mut.branch [
  | in-Some w ↦
      rw (w.self-inside-is, ← c.self.view_is)
      (places_stay c.self.inside.rows (c.get_mut.follows.lender w.draw.new.place) c.args.id c.self.inside.drawn w.in-Some.place.now w.draw.new.place
      w.in-Some.ensures.value ((c.get_mut.follows.holds w.draw.new.place).3 (rw (← w.in-Some.ensures.value) refl)))
  | in-None w ↦ rw (w.self-inside-is, c.get_mut.follows.holds-at-none, ← c.self.view_is) (all_stay _)
]
