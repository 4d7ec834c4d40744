use Rattle.std.proofs.Common.{refl}
use Rattle.handle_table.proofs.Steps.{undone}
use Rattle.handle_table.proofs.place_table.PlaceTable.make_pipe.Goals as goal

pub returns-in-Err-clause-err : goal.returns-in-Err-clause-err
returns-in-Err-clause-err c = undone c.args.first.0 c.in_ok-one.one c.args.self.now c.make_end.new.self c.make_end-2.new.self
    (record { ends = c.pop.new.self; tokens = c.self.inside.tokens })
    c.in_ok-one.ensures.ok c.in-Err.ensures.err (rw (← c.self.view_is) c.pop.ensures) (rw (← c.self.view_is) refl)
