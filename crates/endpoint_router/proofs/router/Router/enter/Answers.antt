use Rattle.std.proofs.Common.{refl}
use Rattle.std.specs.Prelude.{Option, Some}
use Rattle.endpoint_router.specs.Rows.{RowSeen, row_seen}
use Rattle.endpoint_router.proofs.Placed.{no_place, places_stay, rows_turn}
use Rattle.endpoint_router.proofs.router.Router.enter.Goals.{in-Some+in-Some-1, in-Some+in-None-1, in_default}
use Rattle.endpoint_router.proofs.router.Router.enter.Goals as goal

pub returns-clause-rows : goal.returns-clause-rows
returns-clause-rows c = elim c.match-get_mut.branch [
  | in-Some+in-Some-1 w ↦ (λ n.
      rw (w.self-inside-is, ← c.self.view_is)
      (rows_turn c.self.inside.rows (c.get_mut.follows.lender (Some c.args.row)) c.args.id c.self.inside.drawn w.in-Some.place.now (Some c.args.row)
      w.in-Some.ensures.value ((c.get_mut.follows.holds (Some c.args.row)).3 (rw (← w.in-Some.ensures.value) refl))
      (λ (before : Option RowSeen). Some (row_seen c.args.row)) refl n))
  | in-Some+in-None-1 w ↦ (λ n.
      rw (w.self-inside-is, ← c.self.view_is)
      (rows_turn c.self.inside.rows (c.get_mut.follows.lender (Some c.args.row)) c.args.id c.self.inside.drawn w.in-Some.place.now (Some c.args.row)
      w.in-Some.ensures.value ((c.get_mut.follows.holds (Some c.args.row)).3 (rw (← w.in-Some.ensures.value) refl))
      (λ (before : Option RowSeen). Some (row_seen c.args.row)) refl n))
  | in_default w ↦
      absurd (no_place c.self.inside.rows c.args.self.now.rows c.args.id (λ i. (c.self.view_is i).rows) w.in_default.ensures.value
      c.requires.place)
]

pub returns-clause-rest : goal.returns-clause-rest
returns-clause-rest c = elim c.match-get_mut.branch [
  | in-Some+in-Some-1 w ↦
      rw (w.self-inside-is, ← c.self.view_is)
      (places_stay c.self.inside.rows (c.get_mut.follows.lender (Some c.args.row)) c.args.id c.self.inside.drawn w.in-Some.place.now (Some c.args.row)
      w.in-Some.ensures.value ((c.get_mut.follows.holds (Some c.args.row)).3 (rw (← w.in-Some.ensures.value) refl)))
  | in-Some+in-None-1 w ↦
      rw (w.self-inside-is, ← c.self.view_is)
      (places_stay c.self.inside.rows (c.get_mut.follows.lender (Some c.args.row)) c.args.id c.self.inside.drawn w.in-Some.place.now (Some c.args.row)
      w.in-Some.ensures.value ((c.get_mut.follows.holds (Some c.args.row)).3 (rw (← w.in-Some.ensures.value) refl)))
  | in_default w ↦
      absurd (no_place c.self.inside.rows c.args.self.now.rows c.args.id (λ i. (c.self.view_is i).rows) w.in_default.ensures.value
      c.requires.place)
]
