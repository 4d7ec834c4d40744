use Rattle.std.proofs.Common.{ap, ◌∙◌}
use Rattle.std.specs.Prelude.{◌==◌, ◌&&◌, Option, Some, if◌then◌else◌}
use Rattle.std.proofs.lemmas.Result.{err_from_is_err_and}
use Rattle.handle_table.specs.Things.{same_end}
use Rattle.endpoint_router.specs.Rows.{RowSeen, row_seen}
use Rattle.endpoint_router.proofs.slots.enter.Goals as goal

pub put-requires-clause-named : goal.put-requires-clause-named
put-requires-clause-named c = c.in_ok-reserve.ensures.sound.named

pub put-requires-clause-place : goal.put-requires-clause-place
put-requires-clause-place c = c.in_ok-reserve.ensures.there

pub returns-in_err-reserve-clause-counts : goal.returns-in_err-reserve-clause-counts
returns-in_err-reserve-clause-counts c = c.reserve.ensures.same.drawn

pub returns-in_err-reserve-clause-err : goal.returns-in_err-reserve-clause-err
returns-in_err-reserve-clause-err c =
    let p = err_from_is_err_and c.from_residual.result c.from_residual.ensures.1 in
    rw p.1 c.in_err-reserve.ensures.err

pub returns-clause-sound : goal.returns-clause-sound
returns-clause-sound c = record { named = c.put.ensures.named; counted = c.in_ok-reserve.ensures.sound.counted }

pub returns-clause-counts : goal.returns-clause-counts
returns-clause-counts c = c.in_ok-reserve.ensures.same.drawn

pub returns-clause-ok : goal.returns-clause-ok
returns-clause-ok c = λ y n.
    c.put.ensures.rows y n
    ∙ ap (λ (o : Option RowSeen). if same_end c.args.end y && (c.args.id == n) then Some (row_seen c.args.row) else o)
    (c.in_ok-reserve.ensures.same.rows y n)
