use Rattle.std.proofs.Common.{refl, subst}
use Rattle.std.specs.Prelude.{IsSome, Option}
use Rattle.endpoint_router.specs.Rows.{seen_in}
use Rattle.endpoint_router.specs.declared.row.Row.{Row}
use Rattle.endpoint_router.proofs.Placed.{all_stay, found_here, is_there, places_stay, rows_same}
use Rattle.endpoint_router.proofs.router.Router.reserve_draw.Goals.{in-Some, in-None}
use Rattle.endpoint_router.proofs.router.Router.reserve_draw.Goals as goal

pub reserve-requires : goal.reserve-requires
reserve-requires c = record {
  there = is_there c.in-Some.place.now
      (subst (λ (place : Option Row). IsSome (seen_in place))
      (found_here c.self.inside.rows c.args.self.now c.args.id c.self.inside.drawn c.in-Some.place.now c.self.view_is c.in-Some.ensures.value) c.requires);
}

pub returns-clause-rows : goal.returns-clause-rows
returns-clause-rows c = elim c.match-get_mut.branch [
  | in-Some w ↦ (λ n.
      rw (w.self-inside-is, ← c.self.view_is)
      (rows_same c.self.inside.rows (c.get_mut.follows.lender w.reserve.new.place) c.args.id c.self.inside.drawn w.in-Some.place.now w.reserve.new.place
      w.in-Some.ensures.value ((c.get_mut.follows.holds w.reserve.new.place).3 (rw (← w.in-Some.ensures.value) refl)) w.reserve.ensures.same n))
  | in-None w ↦ (λ n. rw (w.self-inside-is, c.get_mut.follows.holds-at-none, ← c.self.view_is) refl)
]

pub returns-clause-rest : goal.returns-clause-rest
returns-clause-rest c = elim c.match-get_mut.branch [
  | in-Some w ↦
      rw (w.self-inside-is, ← c.self.view_is)
      (places_stay c.self.inside.rows (c.get_mut.follows.lender w.reserve.new.place) c.args.id c.self.inside.drawn w.in-Some.place.now w.reserve.new.place
      w.in-Some.ensures.value ((c.get_mut.follows.holds w.reserve.new.place).3 (rw (← w.in-Some.ensures.value) refl)))
  | in-None w ↦ rw (w.self-inside-is, c.get_mut.follows.holds-at-none, ← c.self.view_is) (all_stay _)
]
