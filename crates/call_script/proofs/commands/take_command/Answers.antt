use Rattle.std.proofs.lemmas.List.{length-map}
use Rattle.call_script.proofs.SaidLemmas.{says_take}
use Rattle.call_script.proofs.commands.take_command.Goals as goal

pub returns-in-Ok : goal.returns-in-Ok
returns-in-Ok c = says_take c.args.schema.now c.args.scope.now c.args.end.now _ c.in_ok-end.end c.in-Ok.ids c.in_ok-end.ensures
    (rw length-map c.in-Ok.ensures)
