use Rattle.written_laws.proofs.MethodNumbers.{methods_have_structs}
use Rattle.written_laws.proofs.methods_have_structs.Goals as goal

pub returns : goal.returns
returns c = methods_have_structs
