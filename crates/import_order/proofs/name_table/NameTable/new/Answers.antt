use Rattle.import_order.proofs.Positions.{number_more}
use Rattle.import_order.proofs.name_table.NameTable.new.Goals as goal

pub loop-number-preserved : goal.loop-number-preserved
loop-number-preserved c = λ q.
    let n = c.in_ok-note.ensures q in
    let i = c.loop-number.invariant q in
    let all = c.as_slice-name-items.ensures in
    let text = c.as_str.ensures in
    let item = c.name-item.is in
    let m = number_more q c.args.names c.loop-number.number c.name-item.result (rw all at c.loop-number-test.true) in
    cc
