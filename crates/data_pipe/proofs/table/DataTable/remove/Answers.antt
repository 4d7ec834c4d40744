use Rattle.std.proofs.Common.{ap, ◌∙◌, None}
use Rattle.std.specs.Prelude.{if◌then◌else◌}
use Rattle.handle_table.specs.Things.{same_token}
use Rattle.data_pipe.specs.Table.{Lines, line_of}
use Rattle.data_pipe.proofs.Tables.{becomes}
use Rattle.data_pipe.proofs.table.DataTable.remove.Goals as goal

pub returns : goal.returns
returns c t =
    becomes c.self.inside.pipes c.remove.new.self c.args.producer None c.remove.ensures.updates t
    ∙ ap (λ (lines : Lines). if same_token c.args.producer t then None else line_of lines t) c.self.view_is
