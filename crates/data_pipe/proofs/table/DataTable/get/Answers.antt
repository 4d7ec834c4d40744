use Rattle.std.proofs.Common.{ap, sym, ◌∙◌}
use Rattle.data_pipe.specs.Table.{Lines, line_of}
use Rattle.data_pipe.proofs.Tables.{found}
use Rattle.data_pipe.proofs.table.DataTable.get.Goals as goal

pub returns : goal.returns
returns c =
    c.get.ensures.value
    ∙ (sym (found c.self.inside.pipes c.args.producer) ∙ ap (λ (lines : Lines). line_of lines c.args.producer) c.self.view_is)
