use Rattle.schema_laws.proofs.SomeLayout.{some_layout}
use Rattle.schema_laws.proofs.some_layout.Goals as goal

pub returns : goal.returns
returns c = some_layout
