use Rattle.std.proofs.Common.{ap, ◌∙◌, Some}
use Rattle.std.specs.Prelude.{if◌then◌else◌}
use Rattle.handle_table.specs.Things.{same_token}
use Rattle.data_pipe.specs.Table.{Lines, line_of}
use Rattle.data_pipe.proofs.Tables.{becomes}
use Rattle.data_pipe.proofs.table.DataTable.enter.Goals as goal

pub returns-clause-ok : goal.returns-clause-ok
returns-clause-ok c = λ t.
    becomes c.self.inside.pipes c.insert.new.self c.args.producer (Some c.args.pipe) c.in_ok-insert.ensures.updates t
    ∙ ap (λ (lines : Lines). if same_token c.args.producer t then Some c.args.pipe else line_of lines t) c.self.view_is
