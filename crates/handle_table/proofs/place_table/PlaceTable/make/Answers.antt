use Rattle.handle_table.proofs.Steps.{token_gains}
use Rattle.handle_table.proofs.place_table.PlaceTable.make.Goals as goal

pub returns-clause-ok : goal.returns-clause-ok
returns-clause-ok c = rw (c.count-serial.ensures, ← c.self.view_is)
    (token_gains c.args.seq.0 c.self.inside.tokens c.push.new.self c.self.inside.ends c.in_ok-push.ensures.ok)
