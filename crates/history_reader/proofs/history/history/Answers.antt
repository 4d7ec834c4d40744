use Rattle.history_reader.proofs.history.history.Goals as goal

pub returns : goal.returns
returns c = rw c.in_ok-names.ensures at c.history_with.ensures
