use Rattle.std.proofs.Common.{refl}
use Rattle.std.proofs.lemmas.Result.{on_ok_weaker}
use Rattle.bind_model.specs.declared.commands.Command.TheVariants.{Pipe}
use Rattle.event_tables.proofs.making.pipe.Goals as goal

pub returns : goal.returns
returns c = on_ok_weaker c.make.result (λ steps. steps Pipe refl) c.make.ensures
