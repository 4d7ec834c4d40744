use Rattle.printed_schemas.proofs.OfFiles.{printable_of_files}
use Rattle.mojo_tool.proofs.top.schemas_of_files_can_be_printed.Goals as goal

pub returns : goal.returns
returns c = printable_of_files
