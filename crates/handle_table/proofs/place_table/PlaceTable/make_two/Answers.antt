use Rattle.std.proofs.Common.{refl}
use Rattle.handle_table.proofs.Steps.{token_undone, two_tokens}
use Rattle.handle_table.proofs.place_table.PlaceTable.make_two.Goals as goal

pub returns-in-Ok-clause-ok : goal.returns-in-Ok-clause-ok
returns-in-Ok-clause-ok c =
    two_tokens c.args.seq.0 c.in_ok-one.one c.in-Ok.other c.args.self.now c.make.new.self c.make-2.new.self c.in_ok-one.ensures.ok c.in-Ok.ensures.ok

pub returns-in-Err-clause-err : goal.returns-in-Err-clause-err
returns-in-Err-clause-err c =
    token_undone c.args.seq.0 c.in_ok-one.one c.args.self.now c.make.new.self c.make-2.new.self
    (record { ends = c.self.inside.ends; tokens = c.pop.new.self })
    c.in_ok-one.ensures.ok c.in-Err.ensures.err (rw (← c.self.view_is) c.pop.ensures) (rw (← c.self.view_is) refl)
