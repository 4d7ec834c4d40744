use Rattle.draft_rows.proofs.Tables.{place_more}
use Rattle.draft_rows.proofs.row_table.RowTable.new.Goals as goal

pub loop-place-preserved : goal.loop-place-preserved
loop-place-preserved c = λ q.
    let n = c.in_ok-note.ensures q in
    let i = c.loop-place.invariant q in
    let all = c.as_slice-row-items.ensures in
    let item = c.row-item.is in
    let m = place_more q c.args.rows c.loop-place.place c.row-item.result (rw all at c.loop-place-test.true) in
    cc
