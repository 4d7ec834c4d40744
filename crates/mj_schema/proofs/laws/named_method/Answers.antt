use Rattle.mj_schema.proofs.NamedMethods.{named_method}
use Rattle.mj_schema.proofs.laws.named_method.Goals as goal

pub returns : goal.returns
returns c = named_method
