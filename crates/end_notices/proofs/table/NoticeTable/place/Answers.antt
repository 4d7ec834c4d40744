use Rattle.std.proofs.Common.{◌≡◌, ap, false, sym, ◌∙◌}
use Rattle.end_notices.specs.Table.{Lines, has_line, notices_at}
use Rattle.end_notices.proofs.Lines.{placed, placed_same}
use Rattle.end_notices.proofs.table.NoticeTable.place.Goals as goal

pub returns-clause-same : goal.returns-clause-same
returns-clause-same c x =
    let absent : has_line c.self.inside.ends.entries c.args.end ≡ false =
    ap (λ (lines : Lines). has_line lines c.args.end) c.self.view_is ∙ (sym c.has_line.ensures ∙ c.if-has_line.false) in
    placed_same c.self.inside.ends c.insert.new.self c.args.end c.new.result c.in_ok-insert.ensures.updates c.new.ensures absent x
    ∙ ap (λ (lines : Lines). notices_at lines x) c.self.view_is

pub returns-clause-there : goal.returns-clause-there
returns-clause-there c = placed c.self.inside.ends c.insert.new.self c.args.end c.new.result c.in_ok-insert.ensures.updates
