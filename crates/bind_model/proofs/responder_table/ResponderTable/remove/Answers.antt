use Rattle.bind_model.proofs.responder_table.ResponderTable.remove.Goals as goal

pub returns : goal.returns
returns c = λ r. rw (c.tidy.ensures r) (c.subtract.ensures r)
