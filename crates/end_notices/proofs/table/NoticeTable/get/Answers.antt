use Rattle.std.proofs.Common.{ap, sym, ◌∙◌}
use Rattle.end_notices.specs.Table.{Lines, line_of}
use Rattle.end_notices.proofs.Lines.{found}
use Rattle.end_notices.proofs.table.NoticeTable.get.Goals as goal

pub returns : goal.returns
returns c =
    c.get.ensures.value
    ∙ (sym (found c.self.inside.ends c.args.end) ∙ ap (λ (lines : Lines). line_of lines c.args.end) c.self.view_is)
