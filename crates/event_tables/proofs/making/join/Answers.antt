use Rattle.std.proofs.Common.{refl}
use Rattle.std.proofs.lemmas.Result.{on_ok_weaker}
use Rattle.bind_model.specs.declared.commands.Command.TheVariants.{Join}
use Rattle.event_tables.proofs.making.join.Goals as goal

pub returns : goal.returns
returns c = on_ok_weaker c.make.result (λ steps. steps (Join c.args.other) refl) c.make.ensures
