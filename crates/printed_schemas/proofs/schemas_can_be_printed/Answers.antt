use Rattle.printed_schemas.proofs.Schemas.{printable_schema}
use Rattle.printed_schemas.proofs.schemas_can_be_printed.Goals as goal

pub returns : goal.returns
returns c = printable_schema
