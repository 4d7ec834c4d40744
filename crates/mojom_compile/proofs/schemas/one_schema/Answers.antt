use Rattle.mojom_compile.proofs.OneSchemaOfFiles.{one_schema}
use Rattle.mojom_compile.proofs.schemas.one_schema.Goals as goal

pub returns : goal.returns
returns c = one_schema
