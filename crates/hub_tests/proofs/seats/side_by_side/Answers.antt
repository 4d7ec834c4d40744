use Rattle.std.proofs.Common.{◌≡◌, ◌<◌, length, Some, sym, ap, ◌∙◌, subst, get_or, arith}
use Rattle.std.specs.Prelude.{slice_get}
use Rattle.std.proofs.lemmas.Option.{get_or_from_slice_get, slice_get-get_or, slice_get_within}
use Rattle.bind_hub.specs.declared.shared.Hub.{Hub}
use Rattle.bind_hub.specs.Passes.{IsPassOf}
use Rattle.hub_tests.specs.declared.pipes.Row.{Row}
use Rattle.hub_tests.proofs.seats.side_by_side.Goals as goal

pub returns-clause-passes : goal.returns-clause-passes
returns-clause-passes g c k q h =
    let R = Row g.row.R.Denot in
    let old = c.seat_all.new.rows.items in
    let new = c.work_rows.new.rows.items in
    let b = c.rise_all.ensures.back k q h in
    let j = b.0 in
    let row = b.1 in
    let here : slice_get new j ≡ Some row = b.2 in
    let within : j < length old = let w = slice_get_within new j row here in let l = c.work_rows.ensures.len in omega arith in
    let first = get_or old j row in
    let was : slice_get old j ≡ Some first = slice_get-get_or old j row within in
    let hub_is : row.seat.hub.now ≡ c.args.hub.now = ap (λ (y : R). y.seat.hub.now) (sym (get_or_from_slice_get new j row row here))
    ∙ ((c.work_rows.ensures.each j row within).0 ∙ c.seat_all.ensures.hub j first was) in
    subst (λ p. IsPassOf c.args.hub.now.turn.board.shared.table_id c.args.hub.now.turn.board.shared.key.0.value.core.schema
    c.args.hub.now.turn.board.shared.key.0.value.core.seqs p.number p.place.table_id p.place.me.0) b.3
    (subst (λ (z : Hub). IsPassOf z.turn.board.shared.table_id z.turn.board.shared.key.0.value.core.schema z.turn.board.shared.key.0.value.core.seqs
    row.seat.pass.number row.seat.pass.place.table_id row.seat.pass.place.me.0)
    hub_is row.seat.is_pass)

pub returns-clause-each : goal.returns-clause-each
returns-clause-each g c k p h =
    let R = Row g.row.R.Denot in
    let old = c.seat_all.new.rows.items in
    let new = c.work_rows.new.rows.items in
    let s = c.seat_all.ensures.each k p h in
    let j = s.0 in
    let row = s.1 in
    let was : slice_get old j ≡ Some row = s.2 in
    let within : j < length old = slice_get_within old j row was in
    let last = get_or new j row in
    let here : slice_get new j ≡ Some last = let l = c.work_rows.ensures.len in slice_get-get_or new j row (omega arith) in
    let e = c.rise_all.ensures.each j last here in
    let same : last.seat.pass.number ≡ row.seat.pass.number = (c.work_rows.ensures.each j row within).1
    ∙ ap (λ (y : R). y.seat.pass.number) (get_or_from_slice_get old j row row was) in
    (e.0, last.seat.pass, e.1, same ∙ ap (λ y. y.number) s.3)
