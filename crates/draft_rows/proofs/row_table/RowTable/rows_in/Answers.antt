use Rattle.std.proofs.Common.{◌∙◌, sym}
use Rattle.draft_rows.proofs.Tables.{at_place}
use Rattle.draft_rows.proofs.row_table.RowTable.rows_in.Goals as goal

pub returns-in_err-place : goal.returns-in_err-place
returns-in_err-place c =
    let kept = c.self.invariant c.args.file in
    let found = rw (sym kept ∙ sym c.in_err-place.ensures.value) at (at_place c.args.file c.self.inside.rows) in
    let seen = c.self.view_is in
    let made = c.from_residual.ensures in
    cc

pub returns : goal.returns
returns c =
    let kept = c.self.invariant c.args.file in
    let found = rw (sym kept ∙ sym c.in_ok-place.ensures.value) at (at_place c.args.file c.self.inside.rows) in
    let seen = c.self.view_is in
    let all = c.as_slice.ensures in
    let got = c.row_at.ensures in
    cc
