use Rattle.handle_table.proofs.table.HandleTable.make_two.Goals as goal

pub returns-clause-ok : goal.returns-clause-ok
returns-clause-ok c = rw (c.new.ensures, c.new-2.ensures, ← c.self.view_is) c.in_ok-two.ensures.ok
